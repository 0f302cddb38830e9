-- Wrong answers that the contracts of `tasks` rule out.
use Prim.Native.Nat.{ℕ, ◌+◌, ◌-◌}
use mathlib.Core.Path.{refl}
use mathlib.Core.Bool.{Bool, not, ◌&&◌, ◌||◌}
use mathlib.Core.List.{List, [], ◌∷◌}
use native.Mathlib.Omega.{arith}
use lib.Dec.{eqb, leb}
use lib.ListN.{get_or, set, replicate, take}
use Rattle.lists.specs.Pick.{pick}
use Rattle.lists.specs.Lists.{every, some, how_many, first_at}
use Rattle.kinds.specs.Limits.{highest_task}
use Rattle.kinds.specs.Tasks.{no_task, is_free, is_live, is_ready}
use Rattle.kinds.specs.declared.tasks.Task.{Task}
use Rattle.kinds.specs.declared.tasks.Condition.{Condition}
use Rattle.kinds.specs.declared.tasks.Condition.TheVariants.{Free, Ready}
use Rattle.std.specs.Prelude.{None}
use Rattle.rules.specs.Table.{row_of}
use Rattle.rules.specs.Family.{place, with_place, condition_of, live, used, direct_subtask, has_subtasks, below}
use Rattle.laws.specs.Wiping.{in_use}
use Rattle.tasks.specs.TaskTables.{task_table_of}
use Rattle.tasks.specs.declared.TaskTable.{TaskTable}
use Rattle.tasks.proofs.choice.lowest_free.Reads as lowest_free
use Rattle.tasks.proofs.choice.dispatched.Reads as dispatched
use Rattle.tasks.proofs.empty.Reads as empty
use Rattle.tasks.proofs.at.Reads as at
use Rattle.tasks.proofs.is_live.Reads as is_live_fn
use Rattle.tasks.proofs.in_use.Reads as in_use_fn
use Rattle.tasks.proofs.with_place.Reads as with_place_fn
use Rattle.tasks.proofs.direct.is_subtask.Reads as is_subtask
use Rattle.tasks.proofs.direct.has_subtasks.Reads as has_subtasks_fn
use Rattle.impostors.specs.Fitting.{◌⊗◌, fits-TaskTable, fits-Task, fits-TaskNumber, fits_end}
use Rattle.impostors.specs.Opened.{tables_open}
use Rattle.impostors.specs.Wrong.{RuledOut, wrong_at, told_apart}
use Rattle.impostors.specs.Samples.{task}
use Rattle.impostors.specs.Parts.{last_best, tasks, first, ready, waiting, ended}

-- a ready daughter of task 1 with these priorities
abbrev prior : ℕ → ℕ → Task
prior limit dispatching = row_of Ready 1 limit dispatching None

-- the number is the count of the tasks in use, and one more: with 1 and 3 in use it is 3 and not 2
pub lowest_free_counts_the_tasks :
    RuledOut (λ k. fits-TaskTable ⊗ fits_end) lowest_free.Pre lowest_free.Post
    (λ k a. task (how_many in_use a.0.places + 1))
unfolding tables_open
lowest_free_counts_the_tasks = record {
  lifetimes = tt;
  given = (tasks (first ∷ no_task ∷ ready 1 ∷ []), tt);
  fitting = refl;
  asked = tt;
  broken = λ e p. told_apart p (eqb 3) refl refl;
}

-- the place of an ended task, not detached, counts as free: 2 and not 3
pub lowest_free_an_ended_place :
    RuledOut (λ k. fits-TaskTable ⊗ fits_end) lowest_free.Pre lowest_free.Post
    (λ k a. task (first_at (λ (x : Task). not (is_live x.condition)) 1 a.0.places))
unfolding tables_open
lowest_free_an_ended_place = wrong_at tt (tasks (first ∷ ended 1 ∷ []), tt) refl tt (eqb 2) refl refl

-- the highest number among equals: 2 and not 1
pub dispatched_the_last_among_equals : RuledOut (λ k. fits-TaskTable ⊗ fits_end) dispatched.Pre dispatched.Post
    (λ k a. task (last_best a.0.places))
unfolding tables_open
dispatched_the_last_among_equals = wrong_at tt (tasks (first ∷ ready 1 ∷ []), tt) refl tt (eqb 2) refl refl

-- the first of those who may run that none of them is above, by this priority
abbrev best_by : (Condition → Bool) → (Task → ℕ) → List Task → ℕ
best_by may by ts =
    first_at (λ (x : Task). may x.condition
    && every (λ (y : Task). not (may y.condition) || leb (by y) (by x)) ts) 1 ts

-- the highest priority among all who are live: task 1, which waits, and not 2
pub dispatched_a_waiting_task :
    RuledOut (λ k. fits-TaskTable ⊗ fits_end) dispatched.Pre dispatched.Post
    (λ k a. task (best_by is_live (λ (x : Task). x.dispatching) a.0.places))
unfolding tables_open
dispatched_a_waiting_task = wrong_at tt (tasks (waiting 0 1 ∷ ready 1 ∷ []), tt) refl tt (eqb 1) refl refl

-- by the limit priority: task 1, 200/150, and not 2, 170/170
pub dispatched_by_the_limit :
    RuledOut (λ k. fits-TaskTable ⊗ fits_end) dispatched.Pre dispatched.Post
    (λ k a. task (best_by is_ready (λ (x : Task). x.limit) a.0.places))
unfolding tables_open
dispatched_by_the_limit = wrong_at tt (tasks (first ∷ prior 170 170 ∷ []), tt) refl tt (eqb 1) refl refl

-- the places are free and not zero: each has task 1 for its mother
pub empty_with_mothers : RuledOut (λ k. fits_end) empty.Pre empty.Post
    (λ k a. task_table_of (replicate highest_task
    (record { condition = Free; mother = task 1; limit = 0; dispatching = 0; ecb = None })))
unfolding tables_open
empty_with_mothers = wrong_at tt tt refl tt (λ f. eqb (place f.places 2).mother.0 1) refl refl

-- task 1 stands there already
pub empty_with_task_1 : RuledOut (λ k. fits_end) empty.Pre empty.Post (λ k a. tasks (first ∷ []))
unfolding tables_open
empty_with_task_1 = wrong_at tt tt refl tt (λ f. is_ready (condition_of f.places 1)) refl refl

-- task n is looked up at place n, as if there were a task 0: task 1 is free
pub at_one_place_behind : RuledOut (λ k. fits-TaskTable ⊗ fits-TaskNumber ⊗ fits_end) at.Pre at.Post
    (λ k a. get_or a.0.places a.1.0.0 no_task)
unfolding tables_open
at_one_place_behind = wrong_at tt (tasks (first ∷ []), (task 1, tt)) refl tt (λ x. is_free x.condition) refl refl

-- number 0, which has no place, is taken for task 1
pub at_0_is_task_1 : RuledOut (λ k. fits-TaskTable ⊗ fits-TaskNumber ⊗ fits_end) at.Pre at.Post
    (λ k a. get_or a.0.places (a.1.0.0 - 1) no_task)
unfolding tables_open
at_0_is_task_1 = wrong_at tt (tasks (first ∷ []), (task 0, tt)) refl tt (λ x. is_ready x.condition) refl refl

-- an ended task, not detached, is live
pub is_live_when_ended : RuledOut (λ k. fits-TaskTable ⊗ fits-TaskNumber ⊗ fits_end) is_live_fn.Pre is_live_fn.Post
    (λ k a. used a.0.places a.1.0.0)
unfolding tables_open
is_live_when_ended = wrong_at tt (tasks (first ∷ ended 1 ∷ []), (task 2, tt)) refl tt (λ b. b) refl refl

-- a task that waits is not
pub is_live_only_when_ready : RuledOut (λ k. fits-TaskTable ⊗ fits-TaskNumber ⊗ fits_end) is_live_fn.Pre is_live_fn.Post
    (λ k a. is_ready (condition_of a.0.places a.1.0.0))
unfolding tables_open
is_live_only_when_ready = wrong_at tt (tasks (first ∷ waiting 1 1 ∷ []), (task 2, tt)) refl tt not refl refl

-- the place of an ended task, not detached, is free
pub in_use_only_when_live : RuledOut (λ k. fits-Task ⊗ fits_end) in_use_fn.Pre in_use_fn.Post
    (λ k a. is_live a.0.condition)
unfolding tables_open
in_use_only_when_live = wrong_at tt (ended 1, tt) refl tt not refl refl

-- a place without a mother is free, and so that of task 1
pub in_use_only_with_a_mother : RuledOut (λ k. fits-Task ⊗ fits_end) in_use_fn.Pre in_use_fn.Post
    (λ k a. in_use a.0 && not (eqb a.0.mother.0 0))
unfolding tables_open
in_use_only_with_a_mother = wrong_at tt (first, tt) refl tt not refl refl

-- x stands one place behind: task 1's place stays free
pub with_place_one_behind :
    RuledOut (λ k. fits-TaskTable ⊗ fits-TaskNumber ⊗ fits-Task ⊗ fits_end) with_place_fn.Pre with_place_fn.Post
    (λ k a. task_table_of (set a.0.places a.1.0.0 a.1.1.0))
unfolding tables_open
with_place_one_behind =
    wrong_at tt (tasks [], (task 1, (first, tt))) refl (omega arith, omega arith)
    (λ f. is_free (condition_of f.places 1)) refl refl

-- a place in use is not written over: task 2, which is to be freed, stays
pub with_place_only_where_free :
    RuledOut (λ k. fits-TaskTable ⊗ fits-TaskNumber ⊗ fits-Task ⊗ fits_end) with_place_fn.Pre with_place_fn.Post
    (λ k a. pick (used a.0.places a.1.0.0) a.0
    (task_table_of (with_place a.0.places a.1.0.0 a.1.1.0)))
unfolding tables_open
with_place_only_where_free =
    wrong_at tt (tasks (first ∷ ready 1 ∷ []), (task 2, (no_task, tt))) refl (omega arith, omega arith)
    (λ f. is_ready (condition_of f.places 2)) refl refl

-- DIRECT SUBTASKS

-- every task below is one: 3, the daughter of 2, of task 1
pub is_subtask_all_below :
    RuledOut (λ k. fits-TaskTable ⊗ fits-TaskNumber ⊗ fits-TaskNumber ⊗ fits_end) is_subtask.Pre is_subtask.Post
    (λ k a. not (eqb a.1.1.0.0 a.1.0.0) && below a.0.places a.1.0.0 a.1.1.0.0)
unfolding tables_open
is_subtask_all_below =
    wrong_at tt (tasks (first ∷ ready 1 ∷ ready 2 ∷ []), (task 1, (task 3, tt))) refl tt (λ b. b) refl refl

-- one that has ended and is not detached is none: 2 of task 1
pub is_subtask_only_while_live :
    RuledOut (λ k. fits-TaskTable ⊗ fits-TaskNumber ⊗ fits-TaskNumber ⊗ fits_end) is_subtask.Pre is_subtask.Post
    (λ k a. live a.0.places a.1.1.0.0 && direct_subtask a.0.places a.1.0.0 a.1.1.0.0)
unfolding tables_open
is_subtask_only_while_live =
    wrong_at tt (tasks (first ∷ ended 1 ∷ []), (task 1, (task 2, tt))) refl tt not refl refl

-- mother and daughter are exchanged: task 1 is a subtask of 2
pub is_subtask_the_mother :
    RuledOut (λ k. fits-TaskTable ⊗ fits-TaskNumber ⊗ fits-TaskNumber ⊗ fits_end) is_subtask.Pre is_subtask.Post
    (λ k a. direct_subtask a.0.places a.1.1.0.0 a.1.0.0)
unfolding tables_open
is_subtask_the_mother =
    wrong_at tt (tasks (first ∷ ready 1 ∷ []), (task 2, (task 1, tt))) refl tt (λ b. b) refl refl

-- only live ones count: that of task 1 has ended and is not detached
pub has_subtasks_only_live :
    RuledOut (λ k. fits-TaskTable ⊗ fits-TaskNumber ⊗ fits_end) has_subtasks_fn.Pre has_subtasks_fn.Post
    (λ k a. some (λ (x : Task). is_live x.condition && eqb x.mother.0 a.1.0.0) a.0.places)
unfolding tables_open
has_subtasks_only_live = wrong_at tt (tasks (first ∷ ended 1 ∷ []), (task 1, tt)) refl tt not refl refl

-- the last place is not looked at: the only daughter of task 1 is 32
abbrev last_in : Task → TaskTable
last_in x = task_table_of (set (tasks (first ∷ [])).places (highest_task - 1) x)

pub has_subtasks_but_the_last_place :
    RuledOut (λ k. fits-TaskTable ⊗ fits-TaskNumber ⊗ fits_end) has_subtasks_fn.Pre has_subtasks_fn.Post
    (λ k a. has_subtasks (take (highest_task - 1) a.0.places) a.1.0.0)
unfolding tables_open
has_subtasks_but_the_last_place = wrong_at tt (last_in (ready 1), (task 1, tt)) refl tt not refl refl
