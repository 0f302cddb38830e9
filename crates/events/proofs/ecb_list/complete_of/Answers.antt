use Rattle.std.proofs.Common.{rules, ap, ◌∙◌, take}
use Rattle.std.specs.Slice.Iter.{iter_rest}
use Rattle.std.proofs.lemmas.Iterator.{YieldsList-from_slice}
use Rattle.std.proofs.lemmas.Iterator.Consumers.{YieldsList-from_filter, count_from_yields_List}
use Rattle.lists.specs.Counting.{how_many_keep}
use Rattle.kinds.specs.declared.numbers.EcbNumber.{EcbNumber}
use Rattle.events.proofs.Listing.{counted_shown}
use Rattle.events.proofs.Waiting.{complete_at}
use Rattle.events.proofs.ecb_list.complete_of.Goals as goal

pub returns : goal.returns
returns c =
    let l = c.args.l in
    let test = λ (m : EcbNumber). complete_at c.args.e.ecbs m.0 in
    count_from_yields_List c.filter.result _ c.count.ensures.ran
    (YieldsList-from_filter _ test
    (YieldsList-from_slice _ (ap iter_rest c.filter.ensures.source ∙ c.iter.ensures.rest ∙ c.listed.ensures))
    c.filter.ensures.closure (λ x b q k. search rules))
    ∙ how_many_keep test (take l.count l.ecbs)
    ∙ counted_shown (complete_at c.args.e.ecbs) l.count l.ecbs
