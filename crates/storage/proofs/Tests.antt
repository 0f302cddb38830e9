-- How the count and the test of the unused places come out.
use Rattle.std.proofs.Common.{◌≡◌, sym, ap, false, ℕ, ◌-◌, ◌≤◌, ◌<◌, length, take, drop}
use Rattle.std.proofs.Common.{length-drop, arith, le-ltb, lt-ltb, eq-eqb}
use Rattle.std.proofs.lemmas.List.{take_all}
use Rattle.std.specs.Prelude.{leb}
use Rattle.lists.specs.Arrays.{mapped_length}
use Rattle.lists.specs.Lists.{every}
use Rattle.lists.specs.Pick.{pick}
use Rattle.lists.specs.Packed.{live_count}
use Rattle.kinds.specs.Limits.{most_areas}
use Rattle.rules.specs.SoundAreas.{areas_fit}
use Rattle.storage.specs.Stored.{areas_in, is_zero, rest_zero, packed_areas}
use Rattle.storage.specs.Kept.{table}
use Rattle.storage.specs.declared.Storage.{Storage}

pub fit_is : (s : Storage) → s.count ≤ most_areas → length s.areas ≡ most_areas
    → leb s.count most_areas ≡ areas_fit (areas_in s)
unfolding areas_fit
fit_is s h k = ap (λ (n : ℕ). leb n most_areas) (sym (live_count table s k h))

-- where the count is within the array, the test is of all that stands behind it
pub rest_is : (s : Storage) → s.count ≤ most_areas → length s.areas ≡ most_areas
    → packed_areas s ≡ every is_zero (take (length s.areas - s.count) (drop s.count s.areas))
unfolding packed_areas rest_zero pick
rest_is s h k =
    rw (le-ltb most_areas s.count h, eq-eqb (length s.areas) most_areas k)
    (ap (every is_zero)
    (sym (take_all (length s.areas - s.count) (drop s.count s.areas) (omega (arith, length-drop s.count s.areas)))))

-- and no storage passes that counts more areas than there are places
pub too_many : (s : Storage) → most_areas < s.count → packed_areas s ≡ false
unfolding packed_areas pick
too_many s h = rw (lt-ltb most_areas s.count h)

pub ruleset counted = (fit_is, rest_is, too_many, mapped_length)
