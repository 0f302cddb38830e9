-- The tasks up to i are marked just where they wait.
use Rattle.between.proofs.Wakes.{WaitsTo}
use Rattle.between.proofs.waking.waiting.Given as goal

abbrev pub invariant-loop-i : goal.invariant-loop-i
invariant-loop-i l = WaitsTo l.fn.f.places l.i l.m
