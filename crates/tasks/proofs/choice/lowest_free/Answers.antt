use Rattle.std.proofs.Common.{rules, tests, ◌∙◌}
use Rattle.std.proofs.lemmas.Iterator.{YieldsList-from_slice}
use Rattle.std.proofs.lemmas.Iterator.Search.{position_from_yields_List}
use Rattle.kinds.specs.Tasks.{is_free}
use Rattle.kinds.specs.declared.tasks.Task.{Task}
use Rattle.tasks.proofs.Found.{first_found}
use Rattle.tasks.proofs.choice.lowest_free.Goals as goal

pub returns : goal.returns
returns c =
    let p = λ (x : Task). is_free x.condition in
    let e =
    position_from_yields_List p _ _ c.position.result c.position.ensures.ran
    (YieldsList-from_slice c.args.f.places cc) (λ x b q k. search (rules, tests)) in
    c.numbered.ensures ∙ first_found p c.args.f.places _ e
