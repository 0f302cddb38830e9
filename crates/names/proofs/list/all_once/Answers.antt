use Rattle.std.proofs.Common.{rules, tests, ◌≡◌, sym, ◌∙◌}
use Rattle.std.proofs.lemmas.Iterator.{YieldsList-from_slice}
use Rattle.std.proofs.lemmas.Iterator.Search.{any_from_yields_List}
use Rattle.lists.specs.Lists.{some}
use Rattle.names.specs.Named.{same_wanted}
use Rattle.names.proofs.list.all_once.Goals as goal

pub loop-v-preserved : goal.loop-v-preserved
loop-v-preserved c =
    let v = c.in-Some.v.now in
    let behind = c.in-Some.behind.now in
    let found : c.any.result ≡ some (same_wanted v) behind =
    any_from_yields_List _ _ _ _ c.any.ensures.ran (YieldsList-from_slice behind cc)
    (λ x b q k. search (rules, tests)) in
    c.loop-v.invariant ∙ rw (c.in-Some.ensures.cases.0, sym found, c.if-any.false)
