-- A queue that keeps entries, no more than its places, passes the packed test.
use mathlib.Core.Path.{◌≡◌, refl, ◌∙◌}
use mathlib.Core.Bool.{true, false}
use mathlib.Core.List.{List, map}
use Prim.Native.Nat.{◌≤◌}
use lib.Dec.{ltb}
use lib.ListN.{length, length-map}
use borrow.Author.Tests.{le-ltb}
use Rattle.lists.specs.Pick.{pick_false}
use Rattle.lists.specs.Packed as packed
use Rattle.kinds.specs.Limits.{most_entries}
use Rattle.rules.specs.Control.{Entry}
use Rattle.queue.specs.Queues.{slot_of, stored_entries, is_zero, rest_zero, packed_entries}
use Rattle.queue.proofs.Views.{table}

pub stored_passes : (l : List Entry) → length l ≤ most_entries → packed_entries (stored_entries l) ≡ true
unfolding packed_entries rest_zero is_zero
stored_passes l k =
    let m : length (map slot_of l) ≤ most_entries = rw (length-map l slot_of) k in
    pick_false (ltb most_entries (length (map slot_of l))) false _ (le-ltb most_entries (length (map slot_of l)) m)
    ∙ packed.rest_passes table is_zero refl (map slot_of l) m
