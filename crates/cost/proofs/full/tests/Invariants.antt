-- At most i of the first i tests came out true.
use Prim.Native.Nat.{◌≤◌}
use Rattle.cost.proofs.full.tests.Given as goal

abbrev pub invariant-loop-i : goal.invariant-loop-i
invariant-loop-i l = l.hits ≤ l.i
