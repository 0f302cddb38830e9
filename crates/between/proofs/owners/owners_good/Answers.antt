use Rattle.std.proofs.Common.{rules, take}
use Rattle.std.proofs.lemmas.Iterator.{YieldsList-from_slice}
use Rattle.std.proofs.lemmas.Iterator.Search.{all_from_yields_List}
use Rattle.rules.specs.SoundAreas.{area_owner_good, area_owners_good}
use Rattle.between.proofs.owners.owners_good.Goals as goal

pub returns : goal.returns
unfolding area_owners_good
returns c =
    let s = c.args.s in
    all_from_yields_List (area_owner_good c.args.f.places) _ _ _ c.all.ensures.ran
    (YieldsList-from_slice (take s.count s.areas) (search rules))
    (λ x b q k. search rules)
