-- The storage's struct, the list of areas that it stands for, and the struct that keeps a list.
use Rattle.std.specs.Prelude.{◌≡◌, Bool, false, ◌&&◌, List, ◌≤◌, eqb, ltb, length, take, drop}
use Rattle.lists.specs.Pick.{pick}
use Rattle.lists.specs.Lists.{every}
use Rattle.lists.specs.Tables.{padded}
use Rattle.kinds.specs.Limits.{most_areas}
use Rattle.kinds.specs.Areas.{no_area}
use Rattle.kinds.specs.declared.areas.Area.{Area}
use Rattle.rules.specs.Storage.{same_area}
use Rattle.storage.specs.declared.Storage.{Storage}

-- the list that a storage stands for, and the storage that keeps a list
abbrev pub areas_in : Storage → List Area
areas_in s = take s.count s.areas

abbrev pub stored_areas : List Area → Storage
stored_areas l = record { areas = padded most_areas no_area l; count = length l }

-- the storage keeps its list: nothing else stands in it
pub record PackedAreas (s : Storage) : Type 0 where
  pub form : s ≡ stored_areas (areas_in s)
  pub room : s.count ≤ most_areas

-- the test of it
unfoldable pub is_zero : Area → Bool
is_zero a = same_area a no_area

unfoldable pub rest_zero : Storage → Bool
rest_zero s = eqb (length s.areas) most_areas && every is_zero (drop s.count s.areas)

unfoldable pub packed_areas : Storage → Bool
packed_areas s = pick (ltb most_areas s.count) false (rest_zero s)
