use Rattle.std.proofs.Common.{rules, arith, sym, ◌∙◌}
use Rattle.lists.specs.Arrays.{mapped_length}
use Rattle.mainstorage.proofs.Searching.{none_beyond, none_at_end}
use Rattle.mainstorage.proofs.Trials.{tries_first, found_free, jump, none_left}
use Rattle.mainstorage.proofs.room.lowest.Goals as goal

pub loop-init : goal.loop-init
loop-init c = tries_first _ _ _ c.requires (search (rules, mapped_length))

pub returns-then-at-ge-REGION : goal.returns-then-at-ge-REGION
returns-then-at-ge-REGION c = none_at_end c.loop.invariant.searching c.if-at-ge-REGION.true

pub returns-then-end_of : goal.returns-then-end_of
returns-then-end_of c = none_beyond c.loop.invariant.searching _ _ c.placed-a.ensures c.end_of.ensures c.if-end_of.true

pub returns-in_default : goal.returns-in_default
returns-in_default c =
    found_free c.loop.invariant _ c.if-at-ge-REGION.false c.placed-a.ensures (omega (arith, c.end_of.ensures))
    (sym c.in_way.ensures ∙ c.in_default.is)

pub loop-preserved : goal.loop-preserved
loop-preserved c =
    jump c.loop.invariant _ c.if-at-ge-REGION.false c.placed-a.ensures (omega (arith, c.end_of.ensures)) _
    (sym c.in_way.ensures ∙ c.in-Some.is) _ _ c.bar.ensures c.next-at.ensures

pub returns : goal.returns
returns c = none_left c.loop.invariant (omega arith)
