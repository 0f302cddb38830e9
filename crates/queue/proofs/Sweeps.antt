-- A loop that copies the slots that pass a test into a fresh queue, over the first i slots of an array.
use mathlib.Core.Path.{◌≡◌}
use mathlib.Core.List.{List}
use mathlib.Core.Bool.{Bool, true, false}
use Prim.Native.Nat.{ℕ, ◌+◌, ◌<◌}
use lib.ListN.{length, take, get_or}
use Rattle.lists.specs.Lists.{keep}
use Rattle.lists.specs.Packed as packed
use Rattle.kinds.specs.Limits.{most_entries}
use Rattle.kinds.specs.declared.names.Slot.{Slot}
use Rattle.queue.specs.Queues.{rows_of}
use Rattle.queue.specs.declared.Queue.{Queue}
use Rattle.queue.proofs.Views.{table}

module _ (f : Slot → Bool) (l : List Slot) (i : ℕ) (here : i < length l) (few : i < most_entries)
    (r : Queue) (so_far : r ≡ rows_of (keep f (take i l))) where
  pub room : r.count < most_entries
  room = packed.room table f l i here few r so_far

  pub full : length r.slots ≡ most_entries
  full = packed.full table f l i here few r so_far

  pub kept : (d : Slot) (q : Queue) → f (get_or l i d) ≡ true → q ≡ packed.appended table r (get_or l i d)
      → q ≡ rows_of (keep f (take (i + 1) l))
  kept = packed.kept table f l i here few r so_far

  pub passed : (d : Slot) (q : Queue) → f (get_or l i d) ≡ false → q ≡ r → q ≡ rows_of (keep f (take (i + 1) l))
  passed = packed.passed table f l i here few r so_far
