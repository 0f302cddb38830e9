-- The names before the entry are passed, and end at `at` (invariant).
use Rattle.namearea.specs.Finding.{Passed}
use Rattle.namearea.proofs.points.names_end.Given as goal

abbrev pub invariant-loop-o : goal.invariant-loop-o
invariant-loop-o l = Passed l.ats l.n l.bytes l.at l.o-index
