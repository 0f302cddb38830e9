-- Wrong answers that the contracts of `tasks::ending` rule out.
use Prim.Native.Nat.{ℕ}
use mathlib.Core.Path.{refl}
use mathlib.Core.Bool.{not, ◌&&◌, ◌||◌}
use mathlib.Core.List.{List, [], ◌∷◌}
use lib.Dec.{eqb}
use Rattle.lists.specs.Pick.{pick}
use Rattle.lists.specs.Lists.{map_at}
use Rattle.kinds.specs.Tasks.{no_task, is_free, is_live}
use Rattle.kinds.specs.declared.tasks.Task.{Task}
use Rattle.rules.specs.Family.{with_place, condition_of, live, direct_subtask, below}
use Rattle.rules.specs.Ending.{end_tasks}
use Rattle.tasks.specs.TaskTables.{task_table_of}
use Rattle.tasks.specs.declared.TaskTable.{TaskTable}
use Rattle.tasks.proofs.ending.end_tasks.Reads as end_tasks_fn
use Rattle.impostors.specs.Fitting.{◌⊗◌, fits-TaskTable, fits-Task, fits-TaskNumber, fits_end}
use Rattle.impostors.specs.Opened.{tables_open}
use Rattle.impostors.specs.Wrong.{RuledOut, wrong_at}
use Rattle.impostors.specs.Samples.{task}
use Rattle.impostors.specs.Parts.{tasks, first, ready, ended}

-- 2 is task 1's daughter, 3 is 2's, 4 is 3's
abbrev four : TaskTable
four = tasks (first ∷ ready 1 ∷ ready 2 ∷ ready 3 ∷ [])

-- 2 is task 1's daughter, 3 is 2's and has ended, and is not detached
abbrev one_ended : TaskTable
one_ended = tasks (first ∷ ready 1 ∷ ended 2 ∷ [])

-- only the daughters of the task that ends go with it: 2 ends, and 4 stays
abbrev only_daughters : List Task → ℕ → Task → List Task
only_daughters ts c last =
    map_at (λ n x. pick (below ts c n && (eqb n c || direct_subtask ts c n)) (pick (eqb n c) last no_task) x) 1 ts

pub end_tasks_only_daughters :
    RuledOut (λ k. fits-TaskTable ⊗ fits-TaskNumber ⊗ fits-Task ⊗ fits_end) end_tasks_fn.Pre end_tasks_fn.Post
    (λ k a. task_table_of (only_daughters a.0.places a.1.0.0 a.1.1.0))
unfolding tables_open
end_tasks_only_daughters = wrong_at tt (four, (task 2, (no_task, tt))) refl tt (λ f. live f.places 4) refl refl

-- a number that no task has ends as well: 5, whose place is free, is left as ended
pub end_tasks_of_nobody :
    RuledOut (λ k. fits-TaskTable ⊗ fits-TaskNumber ⊗ fits-Task ⊗ fits_end) end_tasks_fn.Pre end_tasks_fn.Post
    (λ k a. task_table_of (with_place (end_tasks a.0.places a.1.0.0 a.1.1.0) a.1.0.0 a.1.1.0))
unfolding tables_open
end_tasks_of_nobody =
    wrong_at tt (four, (task 5, (ended 1, tt))) refl tt (λ f. not (is_free (condition_of f.places 5))) refl refl

-- only live tasks go: 2 ends, and the place of 3, which has ended before, is not free
abbrev only_live : List Task → ℕ → Task → List Task
only_live ts c last = map_at (λ n x. pick (below ts c n && is_live x.condition) (pick (eqb n c) last no_task) x) 1 ts

pub end_tasks_only_the_live :
    RuledOut (λ k. fits-TaskTable ⊗ fits-TaskNumber ⊗ fits-Task ⊗ fits_end) end_tasks_fn.Pre end_tasks_fn.Post
    (λ k a. task_table_of (only_live a.0.places a.1.0.0 a.1.1.0))
unfolding tables_open
end_tasks_only_the_live =
    wrong_at tt (one_ended, (task 2, (no_task, tt))) refl tt (λ f. not (is_free (condition_of f.places 3))) refl refl

-- its own place is free, whatever is given: that of 2, which is to be kept as ended
pub end_tasks_nothing_kept :
    RuledOut (λ k. fits-TaskTable ⊗ fits-TaskNumber ⊗ fits-Task ⊗ fits_end) end_tasks_fn.Pre end_tasks_fn.Post
    (λ k a. task_table_of (end_tasks a.0.places a.1.0.0 no_task))
unfolding tables_open
end_tasks_nothing_kept =
    wrong_at tt (four, (task 2, (ended 1, tt))) refl tt (λ f. is_free (condition_of f.places 2)) refl refl
