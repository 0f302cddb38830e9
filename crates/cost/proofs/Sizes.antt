-- What is asked for is a length.
use mathlib.Core.Path.{◌≡◌}
use mathlib.Core.Bool.{true, ◌&&◌}
use Prim.Native.Nat.{ℕ, ◌≤◌}
use borrow.Author.Tests.{le-leb}
use Rattle.std.proofs.lemmas.Bool.{and_from}
use Rattle.lists.specs.Bools.{both}
use Rattle.kinds.specs.Limits.{region}
use Rattle.queue.specs.Queues.{packed_entries}
use Rattle.queue.proofs.Views.{packed_kept as queue_kept}
use Rattle.storage.specs.Stored.{packed_areas}
use Rattle.storage.specs.Kept.{packed_kept}
use Rattle.tables.specs.declared.AllTables.{AllTables}
use Rattle.cost.specs.Searches.{Searched}

pub searched : (t : AllTables) (n : ℕ) → (packed_entries t.queue && packed_areas t.storage) ≡ true → 1 ≤ n → n ≤ region
    → Searched t n
searched t n e h k =
    let p = both _ _ e in
    record {
      packed = record { queue = queue_kept _ p.0; storage = packed_kept _ p.1 };
      good = and_from _ _ (le-leb 1 n h) (le-leb n region k);
    }
