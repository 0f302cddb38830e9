-- A number of no task in use changes nothing; else the task goes with all below it, and its place becomes `last`.
use Rattle.std.proofs.Common.{rules, ap, ◌∙◌}
use Rattle.tasks.specs.TaskTables.{task_table_of}
use Rattle.tasks.proofs.Chains.{use_of}
use Rattle.tasks.proofs.Freeing.{in_places, ends_none, ends_in}
use Rattle.tasks.proofs.ending.end_tasks.Goals as goal

pub set-requires : goal.set-requires
set-requires c = in_places _ _ (search rules) (use_of _ _ _ _ c.place.ensures c.if-in_use.ensures)

pub returns-then-in_use : goal.returns-then-in_use
returns-then-in_use c =
    let u = use_of c.args.f.places c.args.c.0 _ _ c.place.ensures c.if-in_use.ensures in
    let w = rw c.end_task.ensures at c.set.ensures in
    w ∙ ap task_table_of (ends_in _ _ u (search rules) _)

pub returns-else-in_use : goal.returns-else-in_use
returns-else-in_use c =
    ap task_table_of (ends_none _ _ (use_of _ _ _ _ c.place.ensures c.if-in_use.ensures) _)
