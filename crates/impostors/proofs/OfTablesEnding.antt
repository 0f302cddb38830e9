-- Wrong answers that the contracts of the endings of `tables` rule out.
use Prim.Native.Nat.{ℕ}
use mathlib.Core.Path.{◌≡◌, refl}
use mathlib.Core.Bool.{Bool, true, false, not, ◌&&◌}
use lib.Dec.{eqb}
use Rattle.lists.specs.Pick.{pick}
use Rattle.kinds.specs.Limits.{job_step_task}
use Rattle.kinds.specs.Tasks.{no_task, is_free, is_live, in_resource_wait}
use Rattle.kinds.specs.declared.tasks.Task.{Task}
use Rattle.kinds.specs.declared.tasks.Condition.{Condition}
use Rattle.std.specs.Prelude.{Option, Ok}
use Rattle.kinds.specs.declared.numbers.EcbNumber.{EcbNumber}
use Rattle.kinds.specs.declared.numbers.TaskNumber.{TaskNumber}
use Rattle.rules.specs.Steps.{Step, with_tasks, with_queue, with_state, over_step}
use Rattle.rules.specs.Family.{place, with_place, condition_of}
use Rattle.rules.specs.Events.{ecb_at}
use Rattle.rules.specs.Ending.{end_tasks, left_by, ended_place, end_posted}
use Rattle.rules.specs.Admission.{gate_of}
use Rattle.laws.specs.Running.{Running}
use Rattle.history.specs.Samples.{start}
use Rattle.tables.specs.Tables.{step_of, tables_of, Packed, sound_tables, Admitted}
use Rattle.tables.specs.declared.AllTables.{AllTables}
use Rattle.tables.proofs.Admits.{admitted_packed, admitted_running}
use Rattle.tables.proofs.over_with.Reads as over_with
use Rattle.tables.proofs.ending.ended.Reads as ended_task
use Rattle.tables.proofs.ending.without.Reads as without
use Rattle.impostors.specs.Fitting.{◌⊗◌, fits-AllTables, fits-Task, fits-TaskNumber, fits_end, fits_u16}
use Rattle.impostors.specs.Opened.{tables_open}
use Rattle.impostors.specs.Wrong.{RuledOut, wrong_at}
use Rattle.impostors.specs.Samples.{task, after, mother_with_ecb, daughter_holds_back, undetached}

-- SAMPLES: 2, attached with ECB 10, has a daughter 3
abbrev pub three : Step
three = after start mother_with_ecb

-- and 3 owns x, for which 4, a daughter of task 1, waits
abbrev pub four : Step
four = after start daughter_holds_back

-- 2 has a daughter 3, attached with ECB 11, who has ended and is not detached
abbrev pub one_left : Step
one_left = after start undetached

-- what an ending asks: the tables are sound, and the caller is live and does not wait
ends : (s : Step) (c : ℕ) → sound_tables (tables_of s) ≡ true → gate_of (step_of (tables_of s)) (task c) ≡ Ok tt
    → Admitted (tables_of s) (task c)
ends s c h g = record { sound = h; gate = g }

pub task_1_alone : Admitted (tables_of start) (task 1)
unfolding tables_open
task_1_alone = ends start 1 refl refl

pub task_2_of_three : Admitted (tables_of three) (task 2)
unfolding tables_open
task_2_of_three = ends three 2 refl refl

sound_four : sound_tables (tables_of four) ≡ true
unfolding tables_open
sound_four = refl

pub task_1_of_four : Admitted (tables_of four) (task 1)
unfolding tables_open
task_1_of_four = ends four 1 sound_four refl

pub task_2_of_four : Admitted (tables_of four) (task 2)
unfolding tables_open
task_2_of_four = ends four 2 sound_four refl

task_3_of_four : Admitted (tables_of four) (task 3)
unfolding tables_open
task_3_of_four = ends four 3 sound_four refl

pub task_2_of_one_left : Admitted (tables_of one_left) (task 2)
unfolding tables_open
task_2_of_one_left = ends one_left 2 refl refl

-- what is seen: the condition of task n, ECB n posted with a code, a verdict to go on
abbrev pub condition_in : AllTables → ℕ → Condition
condition_in w n = condition_of w.tasks.places n

abbrev pub posted_in : AllTables → ℕ → ℕ → Bool
posted_in w n code = (ecb_at w.ecbs.ecbs n).complete && eqb (ecb_at w.ecbs.ecbs n).code code

-- A STEP THAT IS OVER

abbrev running : Step → Step
running s = with_state s false s.code

-- the tables say that the step runs
pub over_with_a_step_that_runs : RuledOut (λ k. fits_u16 ⊗ fits_end) over_with.Pre over_with.Post
    (λ k a. tables_of (running (over_step a.0)))
unfolding tables_open
over_with_a_step_that_runs = wrong_at tt (7, tt) refl tt (λ w. not w.over) refl refl

-- the code is not kept
pub over_with_code_0 : RuledOut (λ k. fits_u16 ⊗ fits_end) over_with.Pre over_with.Post (λ k a. tables_of (over_step 0))
unfolding tables_open
over_with_code_0 = wrong_at tt (7, tt) refl tt (λ w. eqb w.code 0) refl refl

-- task 1's place is not cleared
pub over_with_task_1_left :
    RuledOut (λ k. fits_u16 ⊗ fits_end) over_with.Pre over_with.Post
    (λ k a. tables_of (with_tasks (over_step a.0) start.tasks))
unfolding tables_open
over_with_task_1_left = wrong_at tt (7, tt) refl tt (λ w. is_live (condition_in w 1)) refl refl

-- AN ENDING: what is left where task c and all below it end, and its place becomes y; where c ends alone; where the
-- others
-- wait on
abbrev pub left_with : Step → ℕ → Task → Step
left_with s c y = left_by s (end_tasks s.tasks c y)

abbrev pub left_alone : Step → ℕ → Task → Step
left_alone s c y = left_by s (with_place s.tasks c y)

abbrev pub left_waiting : Step → ℕ → Task → Step
left_waiting s c y = with_tasks (left_with s c y) (end_tasks s.tasks c y)

-- task c's ECB, and the place that it leaves
abbrev ecb_of : Step → ℕ → Option EcbNumber
ecb_of s c = (place s.tasks c).ecb

abbrev place_left : Step → ℕ → Task
place_left s c = ended_place (place s.tasks c) (ecb_of s c)

-- the ending of a task, so that this is left; and that of task 1, which ends the step
abbrev pub ending : (Step → ℕ → Task → Step) → Step → ℕ → ℕ → Step
ending left s c code = end_posted (left s c (place_left s c)) (ecb_of s c) code

abbrev or_over : (Step → ℕ → ℕ → Step) → Step → ℕ → ℕ → Step
or_over f s c code = pick (eqb c job_step_task) (over_step code) (f s c code)

abbrev pub Ending : Type 0
Ending = AllTables × (TaskNumber × (ℕ × Unit {0}))

abbrev pub ended_as : (Step → ℕ → ℕ → Step) → Ending → Step
ended_as f a = f (step_of a.0) a.1.0.0 a.1.1.0

-- task 1 of a fresh step, 2 of the three and 3 of the four end with code 7
abbrev pub end_of_1 : Ending
end_of_1 = (tables_of start, (task 1, (7, tt)))

abbrev pub end_of_2 : Ending
end_of_2 = (tables_of three, (task 2, (7, tt)))

abbrev end_of_3 : Ending
end_of_3 = (tables_of four, (task 3, (7, tt)))

-- the end of task 1 does not end the step
pub ended_but_the_step :
    RuledOut (λ k. fits-AllTables ⊗ fits-TaskNumber ⊗ fits_u16 ⊗ fits_end) ended_task.Pre ended_task.Post
    (λ k a. tables_of (ended_as (ending left_with) a))
unfolding tables_open
ended_but_the_step = wrong_at tt end_of_1 refl task_1_alone (λ w. not w.over) refl refl

-- the task ends alone: 3, below 2, stays
pub ended_alone : RuledOut (λ k. fits-AllTables ⊗ fits-TaskNumber ⊗ fits_u16 ⊗ fits_end) ended_task.Pre ended_task.Post
    (λ k a. tables_of (ended_as (or_over (ending left_alone)) a))
unfolding tables_open
ended_alone = wrong_at tt end_of_2 refl task_2_of_three (λ w. is_live (condition_in w 3)) refl refl

-- its ECB is not posted
pub ended_not_posted :
    RuledOut (λ k. fits-AllTables ⊗ fits-TaskNumber ⊗ fits_u16 ⊗ fits_end) ended_task.Pre ended_task.Post
    (λ k a. tables_of (ended_as (or_over (λ s c code. left_with s c (place_left s c))) a))
unfolding tables_open
ended_not_posted = wrong_at tt end_of_2 refl task_2_of_three (λ w. not (posted_in w 10 7)) refl refl

-- its place becomes free, though it was attached with an ECB
pub ended_and_free :
    RuledOut (λ k. fits-AllTables ⊗ fits-TaskNumber ⊗ fits_u16 ⊗ fits_end) ended_task.Pre ended_task.Post
    (λ k a. tables_of (ended_as (or_over (λ s c code. end_posted (left_with s c no_task) (ecb_of s c) code)) a))
unfolding tables_open
ended_and_free = wrong_at tt end_of_2 refl task_2_of_three (λ w. is_free (condition_in w 2)) refl refl

-- 3 ends, and 4, whom its entry held back, waits on
pub ended_others_wait_on :
    RuledOut (λ k. fits-AllTables ⊗ fits-TaskNumber ⊗ fits_u16 ⊗ fits_end) ended_task.Pre ended_task.Post
    (λ k a. tables_of (ended_as (or_over (ending left_waiting)) a))
unfolding tables_open
ended_others_wait_on = wrong_at tt end_of_3 refl task_3_of_four (λ w. in_resource_wait (condition_in w 4)) refl refl

-- THE ONE ENDING: what is left where 2 of the three ends, or 3 of the four, and the place becomes free
abbrev Leaving : Type 0
Leaving = AllTables × (TaskNumber × (Task × Unit {0}))

abbrev leaving : (Step → ℕ → Task → Step) → Leaving → AllTables
leaving f a = tables_of (f (step_of a.0) a.1.0.0 a.1.1.0)

-- what it asks
left_of_three : Packed (tables_of three) × (Running (step_of (tables_of three)) × (is_live no_task.condition ≡ false))
left_of_three =
    let a = task_2_of_three in
    (admitted_packed (tables_of three) (task 2) a, (admitted_running (tables_of three) (task 2) a, refl))

left_of_four : Packed (tables_of four) × (Running (step_of (tables_of four)) × (is_live no_task.condition ≡ false))
left_of_four =
    let a = task_3_of_four in
    (admitted_packed (tables_of four) (task 3) a, (admitted_running (tables_of four) (task 3) a, refl))

-- the task goes alone: 3, below 2, stays
pub without_alone : RuledOut (λ k. fits-AllTables ⊗ fits-TaskNumber ⊗ fits-Task ⊗ fits_end) without.Pre without.Post
    (λ k a. leaving left_alone a)
unfolding tables_open
without_alone =
    wrong_at tt (tables_of three, (task 2, (no_task, tt))) refl left_of_three (λ t. is_live (condition_in t 3)) refl refl

-- 3 goes, and 4, whom its entry held back, waits on
pub without_others_wait_on :
    RuledOut (λ k. fits-AllTables ⊗ fits-TaskNumber ⊗ fits-Task ⊗ fits_end) without.Pre without.Post
    (λ k a. leaving left_waiting a)
unfolding tables_open
without_others_wait_on =
    wrong_at tt (tables_of four, (task 3, (no_task, tt))) refl left_of_four (λ t. in_resource_wait (condition_in t 4)) refl
    refl

-- the entry of 3 stays in the queue when 3 goes
abbrev left_queued : Step → ℕ → Task → Step
left_queued s c y = with_queue (left_with s c y) s.queue

pub without_entries_stay :
    RuledOut (λ k. fits-AllTables ⊗ fits-TaskNumber ⊗ fits-Task ⊗ fits_end) without.Pre without.Post
    (λ k a. leaving left_queued a)
unfolding tables_open
without_entries_stay =
    wrong_at tt (tables_of four, (task 3, (no_task, tt))) refl left_of_four (λ t. eqb t.queue.count 2) refl refl
