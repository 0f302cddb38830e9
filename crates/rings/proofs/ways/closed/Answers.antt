use mathlib.Core.Path.{◌∙◌}
use native.Mathlib.Omega.{arith}
use borrow.Author.Rules.{rules}
use Rattle.rings.specs.Ways.{way_at, ways_none, joined_by_lem}
use Rattle.rings.proofs.ways.closed.Goals as goal

pub loop-k-init : goal.loop-k-init
loop-k-init c = ways_none _ (search rules)

pub loop-k-preserved : goal.loop-k-preserved
loop-k-preserved c =
    let l = c.loop-k in
    c.join.ensures ∙ joined_by_lem (way_at c.args.m) l.m l.k (omega arith) l.invariant
