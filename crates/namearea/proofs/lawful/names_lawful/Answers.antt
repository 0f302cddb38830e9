-- Each of the offsets shows a name that lies within the bytes.
use Rattle.std.proofs.Common.{rules, tests, ◌≡◌, true, take, sym, ap, ◌∙◌}
use Rattle.std.proofs.lemmas.Iterator.{YieldsList-from_slice}
use Rattle.std.proofs.lemmas.Iterator.Adapters.{serves_from_places}
use Rattle.std.proofs.lemmas.Iterator.Search.{all_from_yields_List}
use Rattle.std.proofs.lemmas.List.Folds.{list_all-map}
use Rattle.lists.specs.Setting.{every_at_lem}
use Rattle.rules.specs.Names.{lawful}
use Rattle.namearea.specs.Spelling.{name_at}
use Rattle.namearea.specs.Scanning.{fits_at}
use Rattle.namearea.proofs.lawful.names_lawful.Goals as goal

pub all-requires-clause-callable : goal.all-requires-clause-callable
all-requires-clause-callable c =
    let bytes = c.args.bytes.now in
    let os = take c.args.n c.args.ats.now in
    serves_from_places (YieldsList-from_slice os cc) (λ x q k. search (rules, tests))
    (λ x k h e.
    let f : fits_at bytes x.now ≡ true =
    ap (fits_at bytes) e ∙ every_at_lem (fits_at bytes) os k x.now c.requires.2 h in
    search rules)

pub returns : goal.returns
returns c =
    let os = take c.args.n c.args.ats.now in
    all_from_yields_List _ _ _ _ c.all.ensures.ran (YieldsList-from_slice os cc) (λ x b q k. search (rules, tests))
    ∙ sym (list_all-map lawful (name_at c.args.bytes.now) os)
