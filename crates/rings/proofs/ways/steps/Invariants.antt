-- The steps of the first i entries, and those of the next by the first ones ahead of it.
use mathlib.Core.List.{map}
use lib.ListN.{take}
use Rattle.rules.specs.Rings.{waits_for}
use Rattle.queue.specs.Queues.{entry_of}
use Rattle.rings.specs.Ways.{Full}
use Rattle.rings.proofs.Stepping.{Stepping}
use Rattle.rings.proofs.ways.steps.Given as goal

abbrev pub invariant-loop-x : goal.invariant-loop-x
invariant-loop-x l = Stepping (take l.i (take l.q.count l.q.slots)) l.e l.x-index l.r

abbrev pub invariant-loop-i : goal.invariant-loop-i
invariant-loop-i l = Full (waits_for (map entry_of (take l.i (take l.q.count l.q.slots)))) l.r
