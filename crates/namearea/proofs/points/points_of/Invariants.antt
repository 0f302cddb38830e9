-- The names before place i have their offsets (invariant).
use Rattle.namearea.specs.Pointing.{shown_by}
use Rattle.namearea.specs.Placing.{Pointing}
use Rattle.namearea.proofs.points.points_of.Given as goal

abbrev pub invariant-loop-i : goal.invariant-loop-i
invariant-loop-i l = Pointing (shown_by l.ats l.n l.bytes) l.fn.l l.names l.from l.end l.i
