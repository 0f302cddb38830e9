-- The first i codes are those of the first i names, the rest 0.
use Rattle.resources.specs.Coding.{code_at}
use Rattle.resources.proofs.Looked.{CodedTo}
use Rattle.resources.proofs.looks.told.Given as goal

abbrev pub invariant-loop-i : goal.invariant-loop-i
invariant-loop-i l = CodedTo (code_at l.has l.wanted l.clear) l.i l.codes.bytes l.zero
