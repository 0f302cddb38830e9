use Rattle.std.proofs.Common.{eqb, rules, tests, ◌∙◌}
use Rattle.std.proofs.lemmas.Iterator.{YieldsList-from_slice}
use Rattle.std.proofs.lemmas.Iterator.Search.{any_from_yields_List}
use Rattle.kinds.specs.declared.names.Slot.{Slot}
use Rattle.rings.proofs.ByName.{some_named}
use Rattle.rings.proofs.standing.one_named.Goals as goal

pub returns : goal.returns
returns c =
    let es = c.args.entries.now in
    any_from_yields_List (λ (s : Slot). eqb s.name.0 c.args.n.0) _ _ _ c.any.ensures.ran (YieldsList-from_slice es cc)
    (λ x b q k. search (rules, tests))
    ∙ some_named es c.args.n
