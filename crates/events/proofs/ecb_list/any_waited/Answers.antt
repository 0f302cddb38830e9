use Rattle.std.proofs.Common.{rules, ◌∙◌}
use Rattle.std.proofs.lemmas.Iterator.{YieldsList-from_slice}
use Rattle.std.proofs.lemmas.Iterator.Search.{any_from_yields_List}
use Rattle.lists.specs.Loops.{any_shown}
use Rattle.kinds.specs.declared.numbers.EcbNumber.{EcbNumber}
use Rattle.events.proofs.Waiting.{waited_at}
use Rattle.events.proofs.ecb_list.any_waited.Goals as goal

pub returns : goal.returns
returns c =
    let l = c.args.l in
    let es = c.args.e.ecbs in
    any_from_yields_List (λ (m : EcbNumber). waited_at es m.0) _ _ _ c.any.ensures.ran
    (YieldsList-from_slice _ (c.iter.ensures.rest ∙ c.listed.ensures)) (λ x b q k. search rules)
    ∙ any_shown (λ (m : EcbNumber). m.0) (waited_at es) l.count l.ecbs
