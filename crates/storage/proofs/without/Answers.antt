use Rattle.std.proofs.Common.{arith, ap, sym, ◌∙◌, not, take_all, length-take}
use Rattle.lists.specs.Lists.{keep}
use Rattle.lists.specs.Packed.{swept_start, swept_kept, swept_passed}
use Rattle.storage.specs.Kept.{table}
use Rattle.storage.specs.Stored.{stored_areas, areas_in}
use Rattle.storage.proofs.without.Invariants.{stays}
use Rattle.storage.proofs.without.Goals.{else-not-same_area, then-not-same_area}
use Rattle.storage.proofs.without.Goals as goal

pub loop-x-init : goal.loop-x-init
loop-x-init c =
    (omega (arith, c.requires.room, length-take c.args.s.count c.args.s.areas), swept_start table c.empty-r.ensures)

pub loop-x-preserved : goal.loop-x-preserved
loop-x-preserved c =
    let v = c.loop-x.invariant.1 in
    let t = sym c.same_area.ensures in (
      omega arith,
      elim c.if-not-same_area.branch [
        | then-not-same_area w ↦
            swept_kept table v (omega arith) (omega arith) _ (ap not (t ∙ w.if-not-same_area.true)) w.r-is
        | else-not-same_area w ↦
            swept_passed table v (omega arith) (omega arith) _ (ap not (t ∙ w.if-not-same_area.false)) w.r-is
      ],
    )

pub returns : goal.returns
returns c =
    let l = areas_in c.args.s in
    c.loop-x.invariant.1.so_far
    ∙ ap (λ k. stored_areas (keep (stays c.args.a) k)) (take_all c.loop-x.x-index l (omega arith))
