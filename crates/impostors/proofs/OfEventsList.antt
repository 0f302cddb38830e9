-- Wrong answers that the contracts of `events::ecb_list` rule out.
use Prim.Native.Nat.{ℕ}
use mathlib.Core.Path.{refl}
use mathlib.Core.Bool.{Bool, not, ◌&&◌}
use mathlib.Core.List.{List, [], ◌∷◌, map}
use lib.Dec.{eqb, leb, ltb}
use lib.ListN.{length}
use Rattle.lists.specs.Pick.{pick}
use Rattle.lists.specs.Lists.{some, every, how_many, map_at}
use Rattle.kinds.specs.Limits.{longest_list}
use Rattle.kinds.specs.Ranges.{ecb_good, count_good}
use Rattle.kinds.specs.Ecbs.{no_ecb}
use Rattle.kinds.specs.declared.ecbs.Ecb.{Ecb}
use Rattle.kinds.specs.declared.ecbs.EcbList.{EcbList}
use Rattle.kinds.specs.declared.numbers.EcbNumber.{EcbNumber}
use Rattle.kinds.specs.Replies.{Verdict}
use Rattle.kinds.specs.declared.replies.Refusal.TheVariants.{OutOfRange}
use Rattle.kinds.specs.declared.replies.Fault.TheVariants.{CountTooLarge, AlreadyWaitedOn}
use Rattle.rules.specs.Tests.{refuse, fail, first_of}
use Rattle.rules.specs.Events.{Ecbs, ecbs_good, ecb_at, wait_bit, with_waiter, completed}
use Rattle.rules.specs.Wait.{complete_of, wait_set}
use Rattle.ecbs.specs.Blocks.{ecb_table_of, ecbs_in}
use Rattle.ecbs.specs.declared.EcbTable.{EcbTable}
use Rattle.events.proofs.ecb_list.complete_of.Reads as complete_of_fn
use Rattle.events.proofs.ecb_list.wait_verdict.Reads as wait_verdict
use Rattle.events.proofs.ecb_list.wait_set.Reads as wait_set_fn
use Rattle.impostors.specs.Fitting.{◌⊗◌, fits-EcbList, fits-EcbTable, fits-TaskNumber, fits_end, fits_u32}
use Rattle.impostors.specs.Opened.{tables_open}
use Rattle.impostors.specs.Wrong.{RuledOut, wrong_at, told_apart}
use Rattle.impostors.specs.Samples.{task, ecbs_of}
use Rattle.impostors.specs.Parts.{verdict_number, events, awaited}

-- ECBs 0 and 1 are complete
abbrev two_complete : EcbTable
two_complete = events (completed 7 ∷ completed 7 ∷ [])

-- task 2 waits on ECB 1
abbrev one_awaited : EcbTable
one_awaited = events (no_ecb ∷ awaited 2 ∷ [])

-- all 16 places of a list, whatever its count
abbrev all_places : EcbList → Ecbs
all_places l = record { count = longest_list; ecbs = map (λ (e : EcbNumber). e.0) l.ecbs }

-- every complete ECB is counted, listed or not: ECB 1 alone is listed, and there are two
pub complete_of_all_ecbs : RuledOut (λ k. fits-EcbTable ⊗ fits-EcbList ⊗ fits_end) complete_of_fn.Pre complete_of_fn.Post
    (λ k a. how_many (λ (x : Ecb). x.complete) a.0.ecbs)
unfolding tables_open
complete_of_all_ecbs = record {
  lifetimes = tt;
  given = (two_complete, (ecbs_of (1 ∷ []), tt));
  fitting = refl;
  asked = tt;
  broken = λ e p. told_apart p (eqb 2) refl refl;
}

-- places past the count are counted: they hold ECB 0, 15 times
pub complete_of_all_places : RuledOut (λ k. fits-EcbTable ⊗ fits-EcbList ⊗ fits_end) complete_of_fn.Pre complete_of_fn.Post
    (λ k a. complete_of a.0.ecbs (all_places a.1.0))
unfolding tables_open
complete_of_all_places = record {
  lifetimes = tt;
  given = (two_complete, (ecbs_of (1 ∷ []), tt));
  fitting = refl;
  asked = tt;
  broken = λ e p. told_apart p (eqb 16) refl refl;
}

-- a listed ECB has its wait bit on
abbrev some_waited : List Ecb → Ecbs → Bool
some_waited es l = some (λ (n : ℕ). wait_bit (ecb_at es n)) l.ecbs

-- 203 before 204: ECB 1 is waited on, and the count is 2 for a list of one
abbrev waited_first : List Ecb → Ecbs → ℕ → Verdict
waited_first es l n =
    first_of
    (refuse OutOfRange (not (ecbs_good l))
    ∷ fail AlreadyWaitedOn (some_waited es l)
    ∷ fail CountTooLarge (ltb (length l.ecbs) n)
    ∷ [])

pub wait_verdict_203_before_204 :
    RuledOut (λ k. fits-EcbTable ⊗ fits-EcbList ⊗ fits_u32 ⊗ fits_end) wait_verdict.Pre wait_verdict.Post
    (λ k a. waited_first a.0.ecbs (ecbs_in a.1.0) a.1.1.0)
unfolding tables_open
wait_verdict_203_before_204 =
    wrong_at tt (one_awaited, (ecbs_of (1 ∷ []), (2, tt))) refl tt (λ v. eqb (verdict_number v) 203) refl refl

-- no 203 where as many are complete as the count: ECB 1 is waited on, and the count is 0
abbrev met_first : List Ecb → Ecbs → ℕ → Verdict
met_first es l n =
    first_of
    (refuse OutOfRange (not (ecbs_good l))
    ∷ fail CountTooLarge (ltb (length l.ecbs) n)
    ∷ fail AlreadyWaitedOn (not (leb n (complete_of es l)) && some_waited es l)
    ∷ [])

pub wait_verdict_no_203_when_met :
    RuledOut (λ k. fits-EcbTable ⊗ fits-EcbList ⊗ fits_u32 ⊗ fits_end) wait_verdict.Pre wait_verdict.Post
    (λ k a. met_first a.0.ecbs (ecbs_in a.1.0) a.1.1.0)
unfolding tables_open
wait_verdict_no_203_when_met =
    wrong_at tt (one_awaited, (ecbs_of (1 ∷ []), (0, tt))) refl tt (λ v. eqb (verdict_number v) 0) refl refl

-- an ECB may stand twice in the list
abbrev twice_goes : List Ecb → Ecbs → ℕ → Verdict
twice_goes es l n =
    first_of
    (refuse OutOfRange (not (count_good l.count && every ecb_good l.ecbs))
    ∷ fail CountTooLarge (ltb (length l.ecbs) n)
    ∷ fail AlreadyWaitedOn (some_waited es l)
    ∷ [])

pub wait_verdict_twice_in_the_list :
    RuledOut (λ k. fits-EcbTable ⊗ fits-EcbList ⊗ fits_u32 ⊗ fits_end) wait_verdict.Pre wait_verdict.Post
    (λ k a. twice_goes a.0.ecbs (ecbs_in a.1.0) a.1.1.0)
unfolding tables_open
wait_verdict_twice_in_the_list =
    wrong_at tt (two_complete, (ecbs_of (1 ∷ 1 ∷ []), (2, tt))) refl tt (λ v. eqb (verdict_number v) 0) refl refl

-- a complete ECB gets the wait bit too
abbrev set_in_all : ℕ → Ecbs → ℕ → Ecb → Ecb
set_in_all c l n x = pick (some (eqb n) l.ecbs) (with_waiter x c) x

pub wait_set_in_a_complete_ecb :
    RuledOut (λ k. fits-EcbTable ⊗ fits-TaskNumber ⊗ fits-EcbList ⊗ fits_end) wait_set_fn.Pre wait_set_fn.Post
    (λ k a. ecb_table_of (map_at (set_in_all a.1.0.0 (ecbs_in a.1.1.0)) 0 a.0.ecbs))
unfolding tables_open
wait_set_in_a_complete_ecb =
    wrong_at tt (two_complete, (task 2, (ecbs_of (1 ∷ []), tt))) refl tt (λ e. wait_bit (ecb_at e.ecbs 1)) refl refl

-- places past the count are looked at: ECB 1 alone is listed, and ECB 0 is waited on
pub wait_set_all_places :
    RuledOut (λ k. fits-EcbTable ⊗ fits-TaskNumber ⊗ fits-EcbList ⊗ fits_end) wait_set_fn.Pre wait_set_fn.Post
    (λ k a. ecb_table_of (map_at (wait_set a.1.0.0 (all_places a.1.1.0)) 0 a.0.ecbs))
unfolding tables_open
wait_set_all_places =
    wrong_at tt (events [], (task 2, (ecbs_of (1 ∷ []), tt))) refl tt (λ e. wait_bit (ecb_at e.ecbs 0)) refl refl
