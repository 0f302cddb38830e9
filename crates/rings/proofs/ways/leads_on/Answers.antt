use Rattle.std.proofs.Common.{◌≡◌, ℕ, ◌+◌, ◌-◌, ◌*◌, ◌∙◌, Bool, length, take, drop, ap, arith, rules, tests}
use Rattle.std.proofs.lemmas.Iterator.{YieldsList-from_slice}
use Rattle.std.proofs.lemmas.Iterator.Search.{any_from_yields_List}
use Rattle.lists.specs.Lists.{some}
use Rattle.rings.specs.Ways.{wide, all_ways, row_leads}
use Rattle.rings.proofs.ways.leads_on.Goals as goal

pub returns : goal.returns
returns c =
    let m = c.args.m.now in
    let k = c.args.k in
    let n : length m.of ≡ all_ways = search rules in
    let w : k * wide + wide - k * wide ≡ wide = omega arith in
    any_from_yields_List (λ (b : Bool). b) _ _ _ c.any.ensures.ran
    (YieldsList-from_slice (take (k * wide + wide - k * wide) (drop (k * wide) m.of)) cc)
    (λ x b q h. search (rules, tests))
    ∙ ap (λ (j : ℕ). some (λ (b : Bool). b) (take j (drop (k * wide) m.of))) w ∙ row_leads m k n (omega arith)
