-- The new names before place i are written (invariant).
use Rattle.namearea.specs.Appending.{Writing}
use Rattle.namearea.proofs.append.append.Given as goal

abbrev pub invariant-loop-i : goal.invariant-loop-i
invariant-loop-i l = Writing l.p.from l.p.list.names l.fn.l l.initial.bytes l.bytes l.at l.i
