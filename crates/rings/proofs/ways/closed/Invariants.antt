-- Ways lead as far as by way of the numbers below k.
use mathlib.Core.Path.{◌≡◌}
use Rattle.rules.specs.Rings.{leads_by}
use Rattle.rings.specs.Ways.{way_at, ways_by, down}
use Rattle.rings.proofs.ways.closed.Given as goal

abbrev pub invariant-loop-k : goal.invariant-loop-k
invariant-loop-k l = l.m ≡ ways_by (leads_by (way_at l.initial.m) (down l.k))
