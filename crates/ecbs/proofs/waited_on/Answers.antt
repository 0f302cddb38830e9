use Rattle.std.proofs.Common.{arith, refl, rules, ap, ◌∙◌}
use Rattle.kinds.specs.Ecbs.{no_ecb}
use Rattle.ecbs.specs.Blocks.{tally_from}
use Rattle.ecbs.specs.Counts.{counted_few, counted, not_counted}
use Rattle.ecbs.specs.declared.Tally.{Tally}
use Rattle.ecbs.proofs.waited_on.Goals.{then-w-lt-PLACES, else-w-lt-PLACES}
use Rattle.ecbs.proofs.waited_on.Goals as goal

pub loop-x-init : goal.loop-x-init
unfolding tally_from
loop-x-init c = search rules

pub overflow_add-t : goal.overflow_add-t
overflow_add-t c =
    let l = c.loop-x in
    let h = counted_few _ _ l.x-index no_ecb _ (search rules) l.invariant _ c.if-w-lt-PLACES.true in
    omega arith

pub loop-x-preserved : goal.loop-x-preserved
loop-x-preserved c =
    let l = c.loop-x in
    elim c.if-w-lt-PLACES.branch [
      | then-w-lt-PLACES w ↦
          ap (λ (t : Tally). t.ecbs) w.t-is
          ∙ counted _ c.args.e.ecbs l.x-index no_ecb _ (search rules) l.invariant _ w.if-w-lt-PLACES.true refl
      | else-w-lt-PLACES w ↦
          ap (λ (t : Tally). t.ecbs) w.t-is
          ∙ not_counted _ c.args.e.ecbs l.x-index no_ecb _ (search rules) l.invariant w.if-w-lt-PLACES.false
    ]
