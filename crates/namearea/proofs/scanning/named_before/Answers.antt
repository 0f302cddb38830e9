-- Each of the offsets shows a name that lies within the bytes.
use Rattle.std.proofs.Common.{rules, tests, ◌≡◌, true, take, ap, ◌∙◌}
use Rattle.std.proofs.lemmas.Iterator.{YieldsList-from_slice}
use Rattle.std.proofs.lemmas.Iterator.Adapters.{serves_from_places}
use Rattle.std.proofs.lemmas.Iterator.Search.{any_from_yields_List}
use Rattle.lists.specs.Lists.{same_bytes}
use Rattle.lists.specs.Setting.{every_at_lem}
use Rattle.namearea.specs.Spelling.{spelt, name_at}
use Rattle.namearea.specs.Scanning.{fits_at, fit_whole}
use Rattle.namearea.specs.Steps.{spelt_among}
use Rattle.namearea.proofs.scanning.named_before.Goals as goal

pub any-requires-clause-callable : goal.any-requires-clause-callable
any-requires-clause-callable c =
    let bytes = c.args.bytes.now in
    let os = take c.args.n c.args.ats.now in
    serves_from_places (YieldsList-from_slice os cc) (λ x q k. search (rules, tests))
    (λ x k h e.
    let f : fits_at bytes x.now ≡ true =
    ap (fits_at bytes) e ∙ every_at_lem (fits_at bytes) os k x.now c.requires.at_value.1 h in
    search rules)

pub returns : goal.returns
returns c =
    let bytes = c.args.bytes.now in
    let os = take c.args.n c.args.ats.now in
    let n = name_at bytes c.args.at in
    any_from_yields_List (λ o. same_bytes (spelt n) (spelt (name_at bytes o))) _ _ _ c.any.ensures.ran
    (YieldsList-from_slice os cc) (λ x b q k. search (rules, tests))
    ∙ spelt_among bytes n os (fit_whole bytes c.args.at c.requires.at_value.0) c.requires.at_value.1
