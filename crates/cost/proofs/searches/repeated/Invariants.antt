-- At most i of the first i searches found an address.
use Prim.Native.Nat.{◌≤◌}
use Rattle.cost.proofs.searches.repeated.Given as goal

abbrev pub invariant-loop-i : goal.invariant-loop-i
invariant-loop-i g l = l.found ≤ l.i
