-- The list has the lines of the tasks below number t.
use Prim.Native.Nat.{◌-◌}
use Rattle.queue.specs.Queues.{entries_in}
use Rattle.queue.specs.Marking.{mark_at}
use Rattle.rings.proofs.Ahead.{Lines}
use Rattle.rings.proofs.held.stuck_list.Given as goal

abbrev pub invariant-loop-t : goal.invariant-loop-t
invariant-loop-t l = Lines (mark_at l.on) (entries_in l.q) (l.t - 1) l.l
