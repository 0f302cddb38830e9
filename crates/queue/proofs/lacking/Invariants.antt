-- The marks are those of the entries before place i.
use Rattle.std.proofs.Common.{map, take}
use Rattle.queue.specs.Queues.{entry_of}
use Rattle.queue.proofs.Barring.{Found}
use Rattle.queue.proofs.lacking.Given as goal

abbrev pub invariant-loop-i : goal.invariant-loop-i
invariant-loop-i l = Found l.fn.among (take l.i (map entry_of l.used)) l.found
