-- The slots before the index are read.
use Rattle.names.specs.Pointers.{pointer}
use Rattle.queue.proofs.Soles.{ReadTo}
use Rattle.queue.proofs.lead.is_sole.Given as goal

abbrev pub invariant-loop-x : goal.invariant-loop-x
invariant-loop-x l = ReadTo l.t.0 (pointer l.n.0) l.used l.x-index l.s
