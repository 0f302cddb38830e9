-- The contract of `serve`, where no names stand beside the request and no area is lent.
use mathlib.Core.Path.{◌∙◌, ap}
use mathlib.Core.List.{[]}
use Rattle.kinds.specs.declared.names.NameList.{NameList}
use Rattle.names.specs.Named.{names_in}
use Rattle.ecbs.specs.Blocks.{ecbs_in}
use Rattle.rules.specs.Serve.{service_of}
use Rattle.services.specs.Kept.{answered}
use Rattle.services.proofs.Glue.{plain_said}
use Rattle.services.proofs.Tables.plain.Goals as goal

pub returns : goal.returns
returns c =
    let a = c.args in
    plain_said a.self a.request _ _ _ c.serve.result _ c.serve.ensures
    ∙ ap (λ (l : NameList). answered a.self
    (λ s. (service_of s a.request (names_in l) (ecbs_in a.ecbs) []).outcome))
    c.none.ensures
