use Rattle.std.proofs.Common.{rules, ◌∙◌}
use Rattle.std.proofs.lemmas.Iterator.{YieldsList-from_slice}
use Rattle.std.proofs.lemmas.Iterator.Search.{all_from_yields_List}
use Rattle.lists.specs.Loops.{all_shown}
use Rattle.kinds.specs.Ranges.{ecb_good}
use Rattle.kinds.specs.declared.numbers.EcbNumber.{EcbNumber}
use Rattle.events.proofs.ecb_list.all_in_range.Goals as goal

pub returns : goal.returns
returns c =
    let l = c.args.l in
    all_from_yields_List (λ (e : EcbNumber). ecb_good e.0) _ _ _ c.all.ensures.ran
    (YieldsList-from_slice _ (c.iter.ensures.rest ∙ c.listed.ensures)) (λ x b q k. search rules)
    ∙ all_shown (λ (e : EcbNumber). e.0) ecb_good l.count l.ecbs
