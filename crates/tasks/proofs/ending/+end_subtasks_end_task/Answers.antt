use Rattle.std.proofs.Common.{◌+◌, length, arith, rules, sym, ap, le_refl, ◌∙◌}
use Rattle.rules.specs.Family.{below}
use Rattle.laws.specs.Wiping.{length_wiped}
use Rattle.laws.specs.Chains.{used_places, wiped_few}
use Rattle.tasks.specs.TaskTables.{task_table_of}
use Rattle.tasks.specs.declared.TaskTable.{TaskTable}
use Rattle.tasks.proofs.Chains.{use_of}
use Rattle.tasks.proofs.Walks.{walk_starts, walk_done, walk_on, step_in}
use Rattle.tasks.proofs.Freeing.{in_places, end_none, end_in, freed_fewer}
use Rattle.tasks.proofs.ending.+end_subtasks_end_task.Goals.{end_subtasks-then-is_subtask_of}
use Rattle.tasks.proofs.ending.+end_subtasks_end_task.Goals.{end_subtasks-else-is_subtask_of}
use Rattle.tasks.proofs.ending.+end_subtasks_end_task.Goals as goal

pub end_subtasks-loop-k-init : goal.end_subtasks-loop-k-init
end_subtasks-loop-k-init t c = record {
  long = search rules;
  fewer = le_refl _;
  same = walk_starts _ _ (search rules);
}

pub end_subtasks-loop-k-preserved : goal.end_subtasks-loop-k-preserved
end_subtasks-loop-k-preserved t c =
    let l = c.loop-k in
    let ts = l.f.places in
    elim c.if-is_subtask_of.branch [
      | end_subtasks-then-is_subtask_of w ↦
          let e = ap (λ (f : TaskTable). f.places) (w.f-is ∙ w.end_task.ensures) in
          let h = sym w.if-is_subtask_of.ensures in
          record {
            long = ap length e ∙ length_wiped (below ts (l.k + 1)) ts ∙ l.invariant.long;
            fewer = omega (arith, ap used_places e, wiped_few (below ts (l.k + 1)) ts);
            same = step_in ts _ c.args.n.0 l.k l.invariant.long h e ∙ l.invariant.same;
          }
      | end_subtasks-else-is_subtask_of w ↦
          let h = sym w.if-is_subtask_of.ensures in
          rw w.f-is (record {
            long = l.invariant.long;
            fewer = l.invariant.fewer;
            same = walk_on ts c.args.n.0 l.k l.invariant.long h ∙ l.invariant.same;
          })
    ]

pub end_subtasks-returns : goal.end_subtasks-returns
end_subtasks-returns t c =
    ap task_table_of (walk_done _ c.args.n.0 c.loop-k.k (omega arith) ∙ c.loop-k.invariant.same)

pub end_task-set-requires : goal.end_task-set-requires
end_task-set-requires t c = in_places _ _ (search rules) (use_of _ _ _ _ c.place.ensures c.if-in_use.ensures)

pub end_task-end_subtasks-requires : goal.end_task-end_subtasks-requires
end_task-end_subtasks-requires t c =
    let u = use_of c.args.f.now.places c.args.n.0 _ _ c.place.ensures c.if-in_use.ensures in
    let w = ap (λ (f : TaskTable). f.places) c.set.ensures in
    let r = freed_fewer _ _ u _ _ c.free.ensures w in
    search rules

pub end_task-returns-then-in_use : goal.end_task-returns-then-in_use
end_task-returns-then-in_use t c =
    let u = use_of c.args.f.now.places c.args.n.0 _ _ c.place.ensures c.if-in_use.ensures in
    let w = ap (λ (f : TaskTable). f.places) c.set.ensures in
    c.end_subtasks.ensures ∙ ap task_table_of (end_in _ _ u (search rules) _ _ c.free.ensures w)

pub end_task-returns-else-in_use : goal.end_task-returns-else-in_use
end_task-returns-else-in_use t c =
    ap task_table_of (end_none _ _ (use_of _ _ _ _ c.place.ensures c.if-in_use.ensures))
