-- The entries before i are passed, and the test is that of the rest (invariant).
use Rattle.namearea.specs.Steps.{Turn}
use Rattle.namearea.proofs.scanning.scan.Given as goal

abbrev pub invariant-loop-i : goal.invariant-loop-i
invariant-loop-i l = Turn l.bytes l.ats l.n l.i l.at
