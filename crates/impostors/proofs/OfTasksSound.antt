-- Wrong answers that the contracts of `tasks::sound` rule out.
use Prim.Native.Nat.{ℕ, ◌+◌, ◌-◌}
use mathlib.Core.Path.{refl}
use mathlib.Core.Bool.{Bool, true, not, ◌&&◌, ◌||◌}
use mathlib.Core.List.{List, [], ◌∷◌, ◌++◌, map}
use lib.Dec.{eqb, leb, ltb}
use lib.ListN.{length, take, replicate}
use Rattle.lists.specs.Lists.{every, every_at, how_many, numbers}
use Rattle.kinds.specs.Limits.{job_step_task, highest_task, highest_ecb}
use Rattle.kinds.specs.Ranges.{priority_good}
use Rattle.kinds.specs.Tasks.{no_task, is_free, is_live}
use Rattle.kinds.specs.declared.tasks.Condition.{Condition}
use Rattle.kinds.specs.declared.tasks.Condition.TheVariants.{Free, Ready, Ended}
use Rattle.std.specs.Prelude.{Option, Some, None}
use Rattle.kinds.specs.declared.numbers.EcbNumber.{EcbNumber}
use Rattle.kinds.specs.declared.tasks.Task.{Task}
use Rattle.rules.specs.Attach.{maybe_good}
use Rattle.rules.specs.Family.{place, live, used, mother, below, chain}
use Rattle.rules.specs.SoundTasks.{has_ecb, mother_good, priorities_good, task_ecbs_good, ended_tasks_good}
use Rattle.rules.specs.SoundTasks.{zero_task, free_places_good}
use Rattle.rules.specs.Table.{row_of, ecb}
use Rattle.laws.specs.Wiping.{in_use}
use Rattle.tasks.specs.TaskTables.{task_table_of}
use Rattle.tasks.specs.declared.TaskTable.{TaskTable}
use Rattle.tasks.proofs.sound.ecb_good.Reads as ecb_good
use Rattle.tasks.proofs.sound.tasks_fit.Reads as tasks_fit
use Rattle.tasks.proofs.sound.job_step_good.Reads as job_step_good
use Rattle.tasks.proofs.sound.mothers_good.Reads as mothers_good
use Rattle.tasks.proofs.sound.priorities_good.Reads as priorities_good_fn
use Rattle.tasks.proofs.sound.task_ecbs_good.Reads as task_ecbs_good_fn
use Rattle.tasks.proofs.sound.ended_tasks_good.Reads as ended_tasks_good_fn
use Rattle.tasks.proofs.sound.free_places_good.Reads as free_places_good_fn
use Rattle.tasks.proofs.sound.all_zero.Reads as all_zero
use Rattle.impostors.specs.Fitting.{◌⊗◌, fits-TaskTable, fits-MaybeEcb, fits_end}
use Rattle.impostors.specs.Opened.{tables_open}
use Rattle.impostors.specs.Wrong.{told_apart, RuledOut, wrong_at}
use Rattle.impostors.specs.Parts.{tasks, under, first, ready}

-- a place with these priorities
abbrev ranked : Condition → ℕ → ℕ → Task
ranked k limit dispatching = row_of k 0 limit dispatching None

-- a free place that still has an ECB
abbrev free_with_ecb : Task
free_with_ecb = row_of Free 0 0 0 (ecb 0)

-- one task in the last place, and free places before it
abbrev lastly : Task → TaskTable
lastly x = task_table_of (replicate (highest_task - 1) no_task ++ (x ∷ []))

-- what a loop sees that stops before the last place
abbrev but_last : TaskTable → List Task
but_last f = take (highest_task - 1) f.places

-- an ECB up to a highest one, or none
abbrev ecb_to : ℕ → Option EcbNumber → Bool
ecb_to highest None = true
ecb_to highest (Some e) = leb e.0 highest

-- a task needs an ECB
pub ecb_good_none_refused : RuledOut (λ k. fits-MaybeEcb ⊗ fits_end) ecb_good.Pre ecb_good.Post
    (λ k a. has_ecb a.0 && maybe_good a.0)
ecb_good_none_refused = wrong_at tt (None, tt) refl tt not refl refl

-- ECB 64 passes
pub ecb_good_one_above_passes : RuledOut (λ k. fits-MaybeEcb ⊗ fits_end) ecb_good.Pre ecb_good.Post
    (λ k a. ecb_to (highest_ecb + 1) a.0)
ecb_good_one_above_passes = wrong_at tt (ecb 64, tt) refl tt (λ b. b) refl refl

-- a table of 32 places is too long
pub tasks_fit_32_places_refused : RuledOut (λ k. fits-TaskTable ⊗ fits_end) tasks_fit.Pre tasks_fit.Post
    (λ k a. ltb (length a.0.places) highest_task)
unfolding tables_open
tasks_fit_32_places_refused = wrong_at tt (tasks (first ∷ []), tt) refl tt not refl refl

-- only tasks in use are counted: one, and not 32
pub tasks_fit_counts_the_tasks : RuledOut (λ k. fits-TaskTable ⊗ fits_end) tasks_fit.Pre tasks_fit.Post
    (λ k a. eqb (how_many in_use a.0.places) highest_task)
unfolding tables_open
tasks_fit_counts_the_tasks = record {
  lifetimes = tt;
  given = (tasks (first ∷ []), tt);
  fitting = refl;
  asked = tt;
  broken = λ e p. told_apart p not refl refl;
}

-- what is asked of task 1, one by one
abbrev motherless : TaskTable → Bool
motherless f = eqb (mother f.places job_step_task) 0

abbrev ecbless : TaskTable → Bool
ecbless f = not (has_ecb (place f.places job_step_task).ecb)

-- task 1 may have an ECB
pub job_step_good_with_ecb : RuledOut (λ k. fits-TaskTable ⊗ fits_end) job_step_good.Pre job_step_good.Post
    (λ k a. live a.0.places job_step_task && motherless a.0)
unfolding tables_open
job_step_good_with_ecb = wrong_at tt (tasks (under 0 Ready (ecb 5) ∷ []), tt) refl tt (λ b. b) refl refl

-- task 1 may have a mother: here it is its own
pub job_step_good_with_mother : RuledOut (λ k. fits-TaskTable ⊗ fits_end) job_step_good.Pre job_step_good.Post
    (λ k a. live a.0.places job_step_task && ecbless a.0)
unfolding tables_open
job_step_good_with_mother = wrong_at tt (tasks (under 1 Ready None ∷ []), tt) refl tt (λ b. b) refl refl

-- task 1 may have ended
pub job_step_good_ended : RuledOut (λ k. fits-TaskTable ⊗ fits_end) job_step_good.Pre job_step_good.Post
    (λ k a. used a.0.places job_step_task && (motherless a.0 && ecbless a.0))
unfolding tables_open
job_step_good_ended = wrong_at tt (tasks (under 0 Ended None ∷ []), tt) refl tt (λ b. b) refl refl

-- of every task in use but task 1, another rule than that on its mother
abbrev of_others : (ℕ → Task → Bool) → TaskTable → Bool
of_others rule f = every_at (λ n x. (is_free x.condition || eqb n job_step_task) || rule n x) 1 f.places

-- a mother may have ended: 2 has ended, and 3 is its subtask
pub mothers_good_ended_mother : RuledOut (λ k. fits-TaskTable ⊗ fits_end) mothers_good.Pre mothers_good.Post
    (λ k a. of_others (λ n x. below a.0.places job_step_task n) a.0)
unfolding tables_open
mothers_good_ended_mother =
    wrong_at tt (tasks (first ∷ under 1 Ended (ecb 5) ∷ under 2 Ready None ∷ []), tt) refl tt (λ b. b) refl refl

-- the chain is not followed: 2 and 3 are each other's mother
pub mothers_good_chain_not_followed : RuledOut (λ k. fits-TaskTable ⊗ fits_end) mothers_good.Pre mothers_good.Post
    (λ k a. of_others (λ n x. live a.0.places x.mother.0) a.0)
unfolding tables_open
mothers_good_chain_not_followed =
    wrong_at tt (tasks (first ∷ under 3 Ready None ∷ under 2 Ready None ∷ []), tt) refl tt (λ b. b) refl refl

-- the chain is left one task too early: each of 32 tasks is the daughter of the one before
pub mothers_good_through_31_tasks : RuledOut (λ k. fits-TaskTable ⊗ fits_end) mothers_good.Pre mothers_good.Post
    (λ k a. of_others (λ n x. live a.0.places x.mother.0 && chain 31 a.0.places (λ m. eqb m job_step_task) n)
    a.0)
unfolding tables_open
mothers_good_through_31_tasks =
    wrong_at tt (task_table_of (map ready (numbers 0 highest_task)), tt) refl tt not refl refl

-- only live tasks are looked at: 2 has ended, and its mother 3 is free
pub mothers_good_ended_task_passes : RuledOut (λ k. fits-TaskTable ⊗ fits_end) mothers_good.Pre mothers_good.Post
    (λ k a. every_at (λ n x. not (is_live x.condition) || mother_good a.0.places n x) 1 a.0.places)
unfolding tables_open
mothers_good_ended_task_passes =
    wrong_at tt (tasks (first ∷ under 3 Ended (ecb 5) ∷ []), tt) refl tt (λ b. b) refl refl

-- a dispatching priority above the limit passes: 101 with a limit of 100
pub priorities_good_dispatching_above_limit :
    RuledOut (λ k. fits-TaskTable ⊗ fits_end) priorities_good_fn.Pre priorities_good_fn.Post
    (λ k a. every (λ x. priority_good x.limit && priority_good x.dispatching) a.0.places)
unfolding tables_open
priorities_good_dispatching_above_limit =
    wrong_at tt (tasks (ranked Ready 100 101 ∷ []), tt) refl tt (λ b. b) refl refl

-- a dispatching priority has to be below the limit: 100 with a limit of 100 is refused
pub priorities_good_dispatching_equal_refused :
    RuledOut (λ k. fits-TaskTable ⊗ fits_end) priorities_good_fn.Pre priorities_good_fn.Post
    (λ k a. every (λ x. is_free x.condition || ltb x.dispatching x.limit) a.0.places)
unfolding tables_open
priorities_good_dispatching_equal_refused = wrong_at tt (tasks (ranked Ready 100 100 ∷ []), tt) refl tt not refl refl

-- task 32 is overlooked, with a dispatching priority above its limit
pub priorities_good_task_32_overlooked :
    RuledOut (λ k. fits-TaskTable ⊗ fits_end) priorities_good_fn.Pre priorities_good_fn.Post
    (λ k a. priorities_good (but_last a.0))
unfolding tables_open
priorities_good_task_32_overlooked = wrong_at tt (lastly (ranked Ready 100 101), tt) refl tt (λ b. b) refl refl

-- a task without an ECB fails
pub task_ecbs_good_none_refused : RuledOut (λ k. fits-TaskTable ⊗ fits_end) task_ecbs_good_fn.Pre task_ecbs_good_fn.Post
    (λ k a. every (λ x. is_free x.condition || (has_ecb x.ecb && maybe_good x.ecb)) a.0.places)
unfolding tables_open
task_ecbs_good_none_refused = wrong_at tt (tasks (first ∷ []), tt) refl tt not refl refl

-- a task passes with ECB 64
pub task_ecbs_good_one_above_passes : RuledOut (λ k. fits-TaskTable ⊗ fits_end) task_ecbs_good_fn.Pre task_ecbs_good_fn.Post
    (λ k a. every (λ x. ecb_to (highest_ecb + 1) x.ecb) a.0.places)
unfolding tables_open
task_ecbs_good_one_above_passes =
    wrong_at tt (tasks (first ∷ under 1 Ready (ecb 64) ∷ []), tt) refl tt (λ b. b) refl refl

-- task 32 is overlooked, with ECB 64
pub task_ecbs_good_task_32_overlooked : RuledOut (λ k. fits-TaskTable ⊗ fits_end) task_ecbs_good_fn.Pre task_ecbs_good_fn.Post
    (λ k a. task_ecbs_good (but_last a.0))
unfolding tables_open
task_ecbs_good_task_32_overlooked = wrong_at tt (lastly (under 1 Ready (ecb 64)), tt) refl tt (λ b. b) refl refl

-- every task has to have an ECB: task 1, which is ready and has none, fails
pub ended_tasks_good_ready_refused :
    RuledOut (λ k. fits-TaskTable ⊗ fits_end) ended_tasks_good_fn.Pre ended_tasks_good_fn.Post
    (λ k a. every (λ x. is_free x.condition || has_ecb x.ecb) a.0.places)
unfolding tables_open
ended_tasks_good_ready_refused = wrong_at tt (tasks (first ∷ []), tt) refl tt not refl refl

-- an ended task is to have no ECB any more: task 2, which has ended and has ECB 5, fails
pub ended_tasks_good_with_ecb_refused :
    RuledOut (λ k. fits-TaskTable ⊗ fits_end) ended_tasks_good_fn.Pre ended_tasks_good_fn.Post
    (λ k a. every (λ x. (is_free x.condition || is_live x.condition) || not (has_ecb x.ecb)) a.0.places)
unfolding tables_open
ended_tasks_good_with_ecb_refused = wrong_at tt (tasks (first ∷ under 1 Ended (ecb 5) ∷ []), tt) refl tt not refl refl

-- task 32 is overlooked, which has ended and has no ECB
pub ended_tasks_good_task_32_overlooked :
    RuledOut (λ k. fits-TaskTable ⊗ fits_end) ended_tasks_good_fn.Pre ended_tasks_good_fn.Post
    (λ k a. ended_tasks_good (but_last a.0))
unfolding tables_open
ended_tasks_good_task_32_overlooked = wrong_at tt (lastly (under 1 Ended None), tt) refl tt (λ b. b) refl refl

-- the numbers of a place are zero
abbrev zero_numbers : Task → Bool
zero_numbers x = eqb x.mother.0 0 && (eqb x.limit 0 && eqb x.dispatching 0)

-- the ECB is not looked at: a free place with one passes
pub free_places_good_with_ecb : RuledOut (λ k. fits-TaskTable ⊗ fits_end) free_places_good_fn.Pre free_places_good_fn.Post
    (λ k a. every (λ x. not (is_free x.condition) || zero_numbers x) a.0.places)
unfolding tables_open
free_places_good_with_ecb = wrong_at tt (tasks (first ∷ free_with_ecb ∷ []), tt) refl tt (λ b. b) refl refl

-- places in use have to be zero as well: that of task 1 fails
pub free_places_good_in_use_refused :
    RuledOut (λ k. fits-TaskTable ⊗ fits_end) free_places_good_fn.Pre free_places_good_fn.Post
    (λ k a. every zero_task a.0.places)
unfolding tables_open
free_places_good_in_use_refused = wrong_at tt (tasks (first ∷ []), tt) refl tt not refl refl

-- place 32 is overlooked, which is free and has an ECB
pub free_places_good_place_32_overlooked :
    RuledOut (λ k. fits-TaskTable ⊗ fits_end) free_places_good_fn.Pre free_places_good_fn.Post
    (λ k a. free_places_good (but_last a.0))
unfolding tables_open
free_places_good_place_32_overlooked = wrong_at tt (lastly free_with_ecb, tt) refl tt (λ b. b) refl refl

-- places in use pass: that of task 1
pub all_zero_in_use_passes : RuledOut (λ k. fits-TaskTable ⊗ fits_end) all_zero.Pre all_zero.Post
    (λ k a. free_places_good a.0.places)
unfolding tables_open
all_zero_in_use_passes = wrong_at tt (tasks (first ∷ []), tt) refl tt (λ b. b) refl refl

-- a free place passes whatever stands in it: a limit of 1
pub all_zero_free_with_a_limit : RuledOut (λ k. fits-TaskTable ⊗ fits_end) all_zero.Pre all_zero.Post
    (λ k a. every (λ x. is_free x.condition) a.0.places)
unfolding tables_open
all_zero_free_with_a_limit = wrong_at tt (tasks (ranked Free 1 0 ∷ []), tt) refl tt (λ b. b) refl refl

-- place 32 is overlooked, which is free and has an ECB
pub all_zero_place_32_overlooked : RuledOut (λ k. fits-TaskTable ⊗ fits_end) all_zero.Pre all_zero.Post
    (λ k a. every zero_task (but_last a.0))
unfolding tables_open
all_zero_place_32_overlooked = wrong_at tt (lastly free_with_ecb, tt) refl tt (λ b. b) refl refl
