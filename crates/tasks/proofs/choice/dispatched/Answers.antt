use Rattle.std.proofs.Common.{rules, tests, sym, ◌∙◌}
use Rattle.std.proofs.lemmas.Iterator.{YieldsList-from_slice}
use Rattle.std.proofs.lemmas.Iterator.Search.{position_from_yields_List}
use Rattle.tasks.specs.Highest.{reaching}
use Rattle.tasks.proofs.Found.{first_found}
use Rattle.tasks.proofs.Reaching.{two_passes}
use Rattle.tasks.proofs.choice.dispatched.Goals as goal

pub returns : goal.returns
returns c =
    let p = reaching c.highest_ready-h.result in
    let e =
    position_from_yields_List p _ _ c.position.result c.position.ensures.ran
    (YieldsList-from_slice c.args.f.places cc) (λ x b q k. search (rules, tests)) in
    c.numbered.ensures ∙ first_found p c.args.f.places _ e ∙ sym (two_passes _ _ c.highest_ready-h.ensures)
