use Prim.Native.Nat.{◌+◌}
use mathlib.Core.Path.{ap}
use native.Mathlib.Omega.{arith}
use borrow.Author.Rules.{rules}
use Rattle.lists.specs.Arrays.{mapped_length}
use Rattle.lists.specs.Numbered.{up_to_next}
use Rattle.kinds.specs.Tasks.{no_task}
use Rattle.tasks.specs.TaskTables.{task_table_of}
use Rattle.between.proofs.Wakes.{wakes_are}
use Rattle.between.proofs.waking.wake.Goals as goal

pub loop-i-preserved : goal.loop-i-preserved
loop-i-preserved c =
    let l = c.loop-i in
    let e = rw l.invariant at c.woken.ensures in
    rw l.invariant (up_to_next _ 1 l.i (l.i + 1) _ no_task _ (omega arith) (omega arith) e)

pub returns : goal.returns
returns c =
    let l = c.loop-i in
    ap task_table_of
    (wakes_are _ _ _ _ l.i _ (search (rules, mapped_length)) (omega arith) c.waiting.ensures c.lacking-lacking.ensures
    l.invariant)
