-- A loop that copies what passes a test into a fresh storage, over the first i places of an array.
use mathlib.Core.Path.{◌≡◌}
use mathlib.Core.List.{List}
use mathlib.Core.Bool.{Bool, true, false}
use Prim.Native.Nat.{ℕ, ◌+◌, ◌<◌}
use lib.ListN.{length, take, get_or}
use Rattle.lists.specs.Lists.{keep}
use Rattle.lists.specs.Packed as packed
use Rattle.kinds.specs.Limits.{most_areas}
use Rattle.kinds.specs.declared.areas.Area.{Area}
use Rattle.storage.specs.Changes.{appended}
use Rattle.storage.specs.Stored.{stored_areas}
use Rattle.storage.specs.Kept.{table}
use Rattle.storage.specs.declared.Storage.{Storage}

module _ (f : Area → Bool) (l : List Area) (i : ℕ) (here : i < length l) (few : i < most_areas)
    (r : Storage) (so_far : r ≡ stored_areas (keep f (take i l))) where
  pub room : r.count < most_areas
  room = packed.room table f l i here few r so_far

  pub full : length r.areas ≡ most_areas
  full = packed.full table f l i here few r so_far

  pub kept : (d : Area) (s : Storage) → f (get_or l i d) ≡ true → s ≡ appended r (get_or l i d)
      → s ≡ stored_areas (keep f (take (i + 1) l))
  kept = packed.kept table f l i here few r so_far

  pub passed : (d : Area) (s : Storage) → f (get_or l i d) ≡ false → s ≡ r → s ≡ stored_areas (keep f (take (i + 1) l))
  passed = packed.passed table f l i here few r so_far
