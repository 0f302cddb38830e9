-- Wrong answers that the contracts of `events`, of its three services, rule out. Those of a list are in OfEventsList.
use Prim.Native.Nat.{ℕ, ◌-◌}
use mathlib.Core.Path.{◌≡◌, refl}
use mathlib.Core.Bool.{Bool, true, false, not, ◌||◌}
use mathlib.Core.List.{[], ◌∷◌}
use lib.Dec.{eqb, leb}
use lib.ListN.{set}
use Rattle.lists.specs.Pick.{pick}
use Rattle.lists.specs.Lists.{map_at}
use Rattle.kinds.specs.Ranges.{ecb_good}
use Rattle.kinds.specs.Tasks.{is_ready, in_ecb_wait, with_condition}
use Rattle.kinds.specs.declared.ecbs.EcbList.{EcbList}
use Rattle.kinds.specs.declared.numbers.EcbNumber.{EcbNumber}
use Rattle.kinds.specs.declared.numbers.TaskNumber.{TaskNumber}
use Rattle.kinds.specs.declared.tasks.Condition.TheVariants.{EcbWait}
use Rattle.kinds.specs.declared.replies.Refusal.TheVariants.{OutOfRange}
use Rattle.kinds.specs.Replies.{Verdict}
use Rattle.rules.specs.Alike.{same_condition}
use Rattle.rules.specs.Family.{place, with_place, condition_of}
use Rattle.rules.specs.Events.{ecb_at, wait_bit, posted}
use Rattle.rules.specs.Tests.{refuse, first_of}
use Rattle.rules.specs.Steps.{Step, Outcome, with_tasks, with_ecbs, done}
use Rattle.rules.specs.Wait.{wait_verdict, complete_of, wait_set, wait_done}
use Rattle.rules.specs.Post.{post_verdict, post_done}
use Rattle.rules.specs.Clear.{clear_verdict, clear_done}
use Rattle.history.specs.Samples.{start}
use Rattle.ecbs.specs.Blocks.{ecbs_in}
use Rattle.tables.specs.Tables.{step_of, tables_of, Packed, Admitted, sound_tables}
use Rattle.tables.specs.declared.AllTables.{AllTables}
use Rattle.tables.specs.declared.made.Made.{Made}
use Rattle.tables.proofs.Admits.{sound_packed}
use Rattle.events.proofs.wait.served.Reads as wait_served
use Rattle.events.proofs.post.served.Reads as post_served
use Rattle.events.proofs.clear.served.Reads as clear_served
use Rattle.impostors.specs.Fitting.{◌⊗◌, fits-AllTables, fits-EcbList, fits-EcbNumber, fits-TaskNumber, fits_end}
use Rattle.impostors.specs.Fitting.{fits_u32}
use Rattle.impostors.specs.Opened.{tables_open}
use Rattle.impostors.specs.Wrong.{RuledOut, wrong_at}
use Rattle.impostors.specs.Samples.{task, ecb, ecbs_of, after, daughter, post, waited_on}
use Rattle.impostors.specs.Answers.{but}
use Rattle.impostors.specs.Parts.{goes, making}

-- SAMPLES: task 1 and its daughter 2; ECB 0 is complete, with code 7
abbrev one_complete : Step
one_complete = after start (daughter 1 ∷ post 1 0 7 ∷ [])

-- 2 waits on ECB 3
abbrev one_waits : Step
one_waits = after start waited_on

task_2 : Admitted (tables_of one_complete) (task 2)
unfolding tables_open
task_2 = record { sound = refl; gate = refl }

packed : (s : Step) → sound_tables (tables_of s) ≡ true → Packed (tables_of s)
packed s h = sound_packed (tables_of s) h

fresh_packed : Packed (tables_of start)
unfolding tables_open
fresh_packed = packed start refl

complete_packed : Packed (tables_of one_complete)
unfolding tables_open
complete_packed = packed one_complete refl

waits_packed : Packed (tables_of one_waits)
unfolding tables_open
waits_packed = packed one_waits refl

-- WAIT: with c of the listed ECBs complete and a count n, the caller goes on, or waits for so many posts
abbrev Waits : Type 0
Waits = AllTables × (TaskNumber × (EcbList × (ℕ × Unit {0})))

abbrev fits-Waits : Waits → Bool
fits-Waits = fits-AllTables ⊗ fits-TaskNumber ⊗ fits-EcbList ⊗ fits_u32 ⊗ fits_end

abbrev wait_by : Waits → (Step → Outcome Step) → Made
wait_by a f =
    making (wait_verdict a.0.ecbs.ecbs (ecbs_in a.1.1.0) a.1.1.1.0) a.0 (f (step_of a.0))

abbrev waiting : Waits → (ℕ → ℕ → Bool) → (ℕ → ℕ → ℕ) → Step → Outcome Step
waiting a goes_on posts s =
    let n = a.1.1.1.0 in
    let w = a.1.0.0 in
    let c = complete_of s.ecbs (ecbs_in a.1.1.0) in
    pick (goes_on c n) (done s)
    (done (with_ecbs
    (with_tasks s (with_place s.tasks w (with_condition (place s.tasks w) (EcbWait (posts c n)))))
    (map_at (wait_set w (ecbs_in a.1.1.0)) 0 s.ecbs)))

-- task 2 waits for n of ECBs 0, 1 and 2, of which ECB 0 is complete
abbrev wait_for : ℕ → Waits
wait_for n = (tables_of one_complete, (task 2, (ecbs_of (0 ∷ 1 ∷ 2 ∷ []), (n, tt))))

-- it waits for as many posts as the count says, 2, and not for the one that is missing
pub wait_served_for_the_whole_count : RuledOut (λ k. fits-Waits) wait_served.Pre wait_served.Post
    (λ k a. wait_by a (waiting a (λ c n. leb n c) (λ c n. n)))
unfolding tables_open
wait_served_for_the_whole_count =
    wrong_at tt (wait_for 2) refl task_2
    (λ o. same_condition (condition_of o.outcome.tables.tasks.places 2) (EcbWait 2)) refl refl

-- one complete ECB is enough: it goes on, with a count of 2
pub wait_served_goes_on_with_too_few : RuledOut (λ k. fits-Waits) wait_served.Pre wait_served.Post
    (λ k a. wait_by a (waiting a (λ c n. leb n c || leb 1 c) (λ c n. n - c)))
unfolding tables_open
wait_served_goes_on_with_too_few =
    wrong_at tt (wait_for 2) refl task_2 (λ o. is_ready (condition_of o.outcome.tables.tasks.places 2)) refl refl

-- the wait bits are set although it goes on: with a count of 1, ECB 1 is waited on
pub wait_served_bits_without_a_wait : RuledOut (λ k. fits-Waits) wait_served.Pre wait_served.Post
    (λ k a. wait_by a (λ s.
    but (wait_done s a.1.0 (ecbs_in a.1.1.0) a.1.1.1.0)
    (λ u. with_ecbs u (map_at (wait_set a.1.0.0 (ecbs_in a.1.1.0)) 0 s.ecbs))))
unfolding tables_open
wait_served_bits_without_a_wait =
    wrong_at tt (wait_for 1) refl task_2 (λ o. wait_bit (ecb_at o.outcome.tables.ecbs.ecbs 1)) refl refl

-- POST
abbrev Posts : Type 0
Posts = AllTables × (EcbNumber × (ℕ × Unit {0}))

abbrev fits-Posts : Posts → Bool
fits-Posts = fits-AllTables ⊗ fits-EcbNumber ⊗ fits_u32 ⊗ fits_end

-- only the ECB's number is tested
abbrev number_good : EcbNumber → Verdict
number_good e = first_of (refuse OutOfRange (not (ecb_good e.0)) ∷ [])

-- code 1,073,741,824 goes through
pub post_served_any_code : RuledOut (λ k. fits-Posts) post_served.Pre post_served.Post
    (λ k a. making (number_good a.1.0) a.0 (post_done (step_of a.0) a.1.0 a.1.1.0))
unfolding tables_open
post_served_any_code =
    wrong_at tt (tables_of start, (ecb 0, (0x4000_0000, tt))) refl fresh_packed (λ o. goes o.verdict) refl refl

-- the waiter is not looked at: ECB 3 is complete, and 2 still waits for it
abbrev nobody_wakes : Step → ℕ → ℕ → Outcome Step
nobody_wakes s n code = done (with_tasks (posted s n code) s.tasks)

pub post_served_nobody_wakes : RuledOut (λ k. fits-Posts) post_served.Pre post_served.Post
    (λ k a. making (post_verdict a.1.0 a.1.1.0) a.0 (nobody_wakes (step_of a.0) a.1.0.0 a.1.1.0))
unfolding tables_open
post_served_nobody_wakes =
    wrong_at tt (tables_of one_waits, (ecb 3, (9, tt))) refl waits_packed
    (λ o. in_ecb_wait (condition_of o.outcome.tables.tasks.places 2)) refl refl

-- CLEAR
abbrev Clears : Type 0
Clears = AllTables × (EcbNumber × Unit {0})

abbrev fits-Clears : Clears → Bool
fits-Clears = fits-AllTables ⊗ fits-EcbNumber ⊗ fits_end

-- 109 is not tested: an ECB that is waited on is cleared
pub clear_served_without_109 : RuledOut (λ k. fits-Clears) clear_served.Pre clear_served.Post
    (λ k a. making (number_good a.1.0) a.0 (clear_done (step_of a.0) a.1.0))
unfolding tables_open
clear_served_without_109 =
    wrong_at tt (tables_of one_waits, (ecb 3, tt)) refl waits_packed (λ o. goes o.verdict) refl refl

-- the bits go and the code stays: 7
abbrev code_stays : Step → ℕ → Outcome Step
code_stays s n =
    done (with_ecbs s (set s.ecbs n (record { waiter = task 0; complete = false; code = (ecb_at s.ecbs n).code })))

pub clear_served_but_its_code : RuledOut (λ k. fits-Clears) clear_served.Pre clear_served.Post
    (λ k a. making (clear_verdict a.0.ecbs.ecbs a.1.0) a.0 (code_stays (step_of a.0) a.1.0.0))
unfolding tables_open
clear_served_but_its_code =
    wrong_at tt (tables_of one_complete, (ecb 0, tt)) refl complete_packed
    (λ o. eqb (ecb_at o.outcome.tables.ecbs.ecbs 0).code 7) refl refl
