-- What GETMAIN comes to: the place that its one search finds, the reply and the storage.
use Rattle.std.specs.Prelude.{◌≡◌, refl, Bool, not, List, ℕ, ◌<◌, leb, length}
use Rattle.std.proofs.Math.Bool.{false, true}
use borrow.Author.Tests.{leb-false}
use Rattle.lists.specs.Pick.{pick}
use Rattle.kinds.specs.Limits.{most_areas}
use Rattle.kinds.specs.Ranges.{length_good}
use Rattle.kinds.specs.declared.areas.Area.{Area}
use Rattle.kinds.specs.declared.numbers.Address.{Address}
use Rattle.kinds.specs.declared.numbers.TaskNumber.{TaskNumber}
use Rattle.std.specs.Prelude.{Option, Some, Ok, None}
use Rattle.kinds.specs.declared.replies.Reply.{Reply}
use Rattle.kinds.specs.declared.replies.Reply.TheVariants.{Got, Four}
use Rattle.rules.specs.Storage.{lowest, placed_at, inserted_in}
use Rattle.rules.specs.Getmain.{getmain_good, wanted, getmain_tests, getmain_verdict}
use Rattle.laws.specs.Decided.{none_hold, good_of}
use Rattle.laws.specs.InRange.{getmain_ranges}
use Rattle.storage.specs.Stored.{areas_in, stored_areas}
use Rattle.storage.specs.declared.Storage.{Storage}

-- the lowest address, where no test refuses the request before the search
unfoldable pub place_for : List Area → TaskNumber → ℕ → ℕ → Option Address
place_for l c bytes subpool =
    pick (not (getmain_good bytes subpool)) None
    (pick (leb most_areas (length l)) None (lowest l (wanted bytes subpool c.0)))

module _ (l : List Area) (c : TaskNumber) (bytes subpool : ℕ) where
  -- where the request goes on, the place is the lowest address of the rules
  pub place_found : (conditional : Bool) → getmain_verdict l c bytes subpool conditional ≡ Ok tt
      → place_for l c bytes subpool ≡ lowest l (wanted bytes subpool c.0)
  unfolding getmain_verdict place_for pick
  place_found conditional h = let g = none_hold (getmain_tests l c bytes subpool conditional) h in rw (g.0, g.1.0)

  -- a place is found only for a length in range, and with a place left in the table
  pub place_asked : (a : Address) → place_for l c bytes subpool ≡ Some a
      → (length_good bytes ≡ true) × (length l < most_areas)
  unfolding place_for pick
  place_asked a h =
      let b = getmain_good bytes subpool in
      let g = one (not b) (leb most_areas (length l)) (lowest l (wanted bytes subpool c.0)) h in
      ((getmain_ranges bytes subpool (good_of b g.0)).0, leb-false most_areas (length l) g.1)
    where
      one : (x y : Bool) (p : Option Address) → pick x None (pick y None p) ≡ Some a → (x ≡ false) × (y ≡ false)
      one true y p g = (cc, cc)
      one false true p g = (refl, cc)
      one false false p g = (refl, refl)

-- the address that is answered, or 4
abbrev pub reply_at : Option Address → Reply
reply_at (Some a) = Got a
reply_at None = Four

-- the area in its place
abbrev pub put_at : Option Address → Area → Storage → Storage
put_at (Some a) want s = stored_areas (inserted_in (placed_at want a.0) (areas_in s))
put_at None want s = s
