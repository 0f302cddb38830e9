use Rattle.std.proofs.Common.{sym, ap, ◌∙◌, eqb, map}
use Rattle.lists.specs.Lists.{distinct}
use Rattle.lists.specs.Keeping.{take_map}
use Rattle.events.proofs.Listing.{number, once_more}
use Rattle.events.proofs.ecb_list.all_distinct.Goals as goal

pub loop-m-init : goal.loop-m-init
loop-m-init c =
    ap (distinct eqb) (take_map number c.args.l.count c.args.l.ecbs ∙ ap (map number) (sym c.listed-rest.ensures))

pub returns-then-contains : goal.returns-then-contains
returns-then-contains c =
    sym (c.loop-m.invariant ∙ once_more _ _ c.in-Some.ensures.cases.0 c.if-contains.ensures.value)

pub loop-m-preserved : goal.loop-m-preserved
loop-m-preserved c = c.loop-m.invariant ∙ once_more _ _ c.in-Some.ensures.cases.0 c.if-contains.ensures.value
