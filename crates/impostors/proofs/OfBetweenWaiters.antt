-- Wrong answers that the contracts of `between::waiters` and `between::waiters_ending` rule out.
use Prim.Native.Nat.{ℕ}
use mathlib.Core.Path.{refl}
use mathlib.Core.Bool.{Bool, true, not, ◌||◌}
use mathlib.Core.List.{List, [], ◌∷◌, map}
use native.Mathlib.Omega.{arith}
use lib.Dec.{eqb, leb}
use lib.ListN.{set}
use Rattle.lists.specs.Pick.{pick}
use Rattle.lists.specs.Lists.{every, every_at, how_many}
use Rattle.kinds.specs.Ranges.{task_good}
use Rattle.kinds.specs.Ecbs.{no_ecb}
use Rattle.kinds.specs.Tasks.{is_ready, in_ecb_wait, waits}
use Rattle.kinds.specs.declared.ecbs.Ecb.{Ecb}
use Rattle.kinds.specs.declared.tasks.Task.{Task}
use Rattle.kinds.specs.declared.tasks.Condition.{Condition}
use Rattle.kinds.specs.declared.tasks.Condition.TheVariants.{Free, Ready, ResourceWait, EcbWait, Ended}
use Rattle.rules.specs.Family.{condition_of, used, live}
use Rattle.rules.specs.Events.{Signals, ecb_at, wait_bit, with_waiter, completed, comes_to, woken, signalled}
use Rattle.rules.specs.SoundEcbs.{need_good, waited_on_by}
use Rattle.ecbs.specs.Blocks.{ecb_table_of}
use Rattle.ecbs.specs.declared.EcbTable.{EcbTable}
use Rattle.tasks.specs.declared.TaskTable.{TaskTable}
use Rattle.between.specs.Posts.{signals_of}
use Rattle.between.proofs.waiters.waiters_good.Reads as waiters_good
use Rattle.between.proofs.waiters.needs_good.Reads as needs_good
use Rattle.between.proofs.waiters.post.Reads as post
use Rattle.between.proofs.waiters_ending.wait_bits_left.Reads as wait_bits_left
use Rattle.impostors.specs.Fitting.{◌⊗◌, fits-EcbNumber, fits-EcbTable, fits-TaskTable}
use Rattle.impostors.specs.Fitting.{fits_end, fits_u32}
use Rattle.impostors.specs.Opened.{tables_open}
use Rattle.impostors.specs.Wrong.{RuledOut, wrong_at, told_apart}
use Rattle.impostors.specs.Samples.{ecb}
use Rattle.impostors.specs.Parts.{tasks, first, ready, held, waiting, ended, events, awaited}

-- task 1 and its daughter 2, which is ready; which waits for so many posts
abbrev two : TaskTable
two = tasks (first ∷ ready 1 ∷ [])

abbrev two_waits : ℕ → TaskTable
two_waits n = tasks (first ∷ waiting 1 n ∷ [])

-- 2 waits on ECB 0; on ECBs 0 and 1
abbrev one_awaited : EcbTable
one_awaited = events (awaited 2 ∷ [])

abbrev two_awaited : EcbTable
two_awaited = events (awaited 2 ∷ awaited 2 ∷ [])

-- ECB 0 is complete, with code 7
abbrev one_complete : EcbTable
one_complete = events (completed 7 ∷ [])

-- a waiter may be in a resource wait
pub waiters_good_in_any_wait :
    RuledOut (λ k. fits-EcbTable ⊗ fits-TaskTable ⊗ fits_end) waiters_good.Pre waiters_good.Post
    (λ k a. every (λ (x : Ecb). not (wait_bit x) || waits (condition_of a.1.0.places x.waiter.0)) a.0.ecbs)
unfolding tables_open
waiters_good_in_any_wait = wrong_at tt (one_awaited, (tasks (first ∷ held 1 ∷ []), tt)) refl tt (λ b. b) refl refl

-- a waiter that is no task's number is passed over: 33
abbrev only_of_tasks : List Task → Ecb → Bool
only_of_tasks ts x = not (task_good x.waiter.0) || in_ecb_wait (condition_of ts x.waiter.0)

pub waiters_good_with_waiter_33 :
    RuledOut (λ k. fits-EcbTable ⊗ fits-TaskTable ⊗ fits_end) waiters_good.Pre waiters_good.Post
    (λ k a. every (only_of_tasks a.1.0.places) a.0.ecbs)
unfolding tables_open
waiters_good_with_waiter_33 = wrong_at tt (events (awaited 33 ∷ []), (two, tt)) refl tt (λ b. b) refl refl

-- a waiter may need no post
abbrev at_most : Condition → ℕ → Bool
at_most Free has = true
at_most Ready has = true
at_most ResourceWait has = true
at_most (EcbWait n) has = leb n has
at_most Ended has = true

pub needs_good_without_a_post : RuledOut (λ k. fits-EcbTable ⊗ fits-TaskTable ⊗ fits_end) needs_good.Pre needs_good.Post
    (λ k a. every_at (λ n (x : Task). at_most x.condition (how_many (waited_on_by n) a.0.ecbs)) 1 a.1.0.places)
unfolding tables_open
needs_good_without_a_post = record {
  lifetimes = tt;
  given = (one_awaited, (two_waits 0, tt));
  fitting = refl;
  asked = tt;
  broken = λ e p. told_apart p (λ b. b) refl refl;
}

-- other tasks' ECBs count too: 2 needs 2 posts and has ECB 0 alone, ECB 1 is 3's
pub needs_good_by_all_wait_bits :
    RuledOut (λ k. fits-EcbTable ⊗ fits-TaskTable ⊗ fits_end) needs_good.Pre needs_good.Post
    (λ k a. every_at (λ n (x : Task). need_good x.condition (how_many wait_bit a.0.ecbs)) 1 a.1.0.places)
unfolding tables_open
needs_good_by_all_wait_bits = record {
  lifetimes = tt;
  given = (events (awaited 2 ∷ awaited 3 ∷ []), (tasks (first ∷ waiting 1 2 ∷ waiting 1 1 ∷ []), tt));
  fitting = refl;
  asked = tt;
  broken = λ e p. told_apart p (λ b. b) refl refl;
}

-- the code of a complete ECB is replaced
abbrev replaces : List Task → List Ecb → ℕ → ℕ → Signals
replaces ts es n code = woken ts (set es n (completed code)) (ecb_at es n).waiter.0

pub post_replaces_a_code :
    RuledOut (λ k. fits-EcbTable ⊗ fits-TaskTable ⊗ fits-EcbNumber ⊗ fits_u32 ⊗ fits_end) post.Pre post.Post
    (λ k a. signals_of (replaces a.1.0.places a.0.ecbs a.1.1.0.0 a.1.1.1.0))
unfolding tables_open
post_replaces_a_code =
    wrong_at tt (one_complete, (two, (ecb 0, (9, tt)))) refl (omega arith) (λ s. eqb (ecb_at s.ecbs.ecbs 0).code 9)
    refl refl

-- a waiter that needs two posts is ready after one
abbrev wakes : List Task → List Ecb → ℕ → ℕ → Signals
wakes ts es n code =
    pick ((ecb_at es n).complete || eqb (ecb_at es n).waiter.0 0)
    (signalled ts es n code)
    (comes_to ts (set es n (completed code)) (ecb_at es n).waiter.0 Ready)

pub post_wakes_at_the_first :
    RuledOut (λ k. fits-EcbTable ⊗ fits-TaskTable ⊗ fits-EcbNumber ⊗ fits_u32 ⊗ fits_end) post.Pre post.Post
    (λ k a. signals_of (wakes a.1.0.places a.0.ecbs a.1.1.0.0 a.1.1.1.0))
unfolding tables_open
post_wakes_at_the_first =
    wrong_at tt (two_awaited, (two_waits 2, (ecb 0, (9, tt)))) refl (omega arith)
    (λ s. is_ready (condition_of s.tasks.places 2)) refl refl

-- the wait bits that a woken task set elsewhere stay on: 2 needs one post, has two ECBs, and ECB 0 is posted
abbrev bits_stay : List Task → List Ecb → ℕ → ℕ → Signals
bits_stay ts es n code = record {
  tasks = (signalled ts es n code).tasks;
  ecbs = pick (ecb_at es n).complete es (set es n (completed code));
}

pub post_other_bits_stay_on :
    RuledOut (λ k. fits-EcbTable ⊗ fits-TaskTable ⊗ fits-EcbNumber ⊗ fits_u32 ⊗ fits_end) post.Pre post.Post
    (λ k a. signals_of (bits_stay a.1.0.places a.0.ecbs a.1.1.0.0 a.1.1.1.0))
unfolding tables_open
post_other_bits_stay_on =
    wrong_at tt (two_awaited, (two_waits 1, (ecb 0, (9, tt)))) refl (omega arith)
    (λ s. wait_bit (ecb_at s.ecbs.ecbs 1)) refl refl

-- the bit of a task that has ended stays while it is not detached
pub wait_bits_left_not_the_ended :
    RuledOut (λ k. fits-EcbTable ⊗ fits-TaskTable ⊗ fits_end) wait_bits_left.Pre wait_bits_left.Post
    (λ k a. ecb_table_of (map (λ (x : Ecb). pick (used a.1.0.places x.waiter.0) x (with_waiter x 0))
    a.0.ecbs))
unfolding tables_open
wait_bits_left_not_the_ended =
    wrong_at tt (one_awaited, (tasks (first ∷ ended 1 ∷ []), tt)) refl tt (λ e. wait_bit (ecb_at e.ecbs 0)) refl refl

-- the whole word goes, and not the bit alone: an ECB without a waiter loses its code
pub wait_bits_left_the_whole_word :
    RuledOut (λ k. fits-EcbTable ⊗ fits-TaskTable ⊗ fits_end) wait_bits_left.Pre wait_bits_left.Post
    (λ k a. ecb_table_of (map (λ (x : Ecb). pick (live a.1.0.places x.waiter.0) x no_ecb) a.0.ecbs))
unfolding tables_open
wait_bits_left_the_whole_word =
    wrong_at tt (one_complete, (two, tt)) refl tt (λ e. not (ecb_at e.ecbs 0).complete) refl refl
