use Rattle.std.proofs.Common.{rules, tests, ◌∙◌, take}
use Rattle.std.proofs.lemmas.Iterator.{YieldsList-from_slice}
use Rattle.std.proofs.lemmas.Iterator.Search.{any_from_yields_List}
use Rattle.rules.specs.Names.{is_system, asks_system}
use Rattle.names.proofs.Listed.{some_listed}
use Rattle.names.proofs.list.asks_system.Goals as goal

pub returns : goal.returns
unfolding asks_system
returns c =
    any_from_yields_List _ _ _ _ c.any.ensures.ran (YieldsList-from_slice (take c.args.l.count c.args.l.names) cc)
    (λ x b q k. search (rules, tests))
    ∙ some_listed is_system c.args.l
