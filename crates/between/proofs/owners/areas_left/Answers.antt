-- What stays, and zero areas behind it.
use Rattle.std.proofs.Common.{List, ap, ap₂, take, ℕ, rules}
use Rattle.kinds.specs.Areas.{no_area}
use Rattle.kinds.specs.Limits.{most_areas}
use Rattle.kinds.specs.declared.areas.Area.{Area}
use Rattle.rules.specs.Ending.{area_stays}
use Rattle.storage.specs.declared.Storage.{Storage}
use Rattle.between.proofs.Stays.{all_stored}
use Rattle.between.proofs.owners.areas_left.Goals as goal

pub returns : goal.returns
returns c =
    let s = c.args.s in
    let v = c.staying.ensures (area_stays c.args.f.places) (λ x b k. search rules) in
    ap₂ (λ (l : List Area) (n : ℕ). record { areas = l; count = n })
    (all_stored most_areas no_area _ (take s.count s.areas) _ _ _ (ap (λ (r : Storage). r.areas) c.empty-r.ensures) v)
    v.many
