-- The struct in which the list of a report grows, the list that it stands for, and what comes of it in a list area.
use Rattle.std.specs.Prelude.{Bool, cond, List, [], ◌∷◌, ℕ, ◌+◌, ◌*◌, ltb, length, take, set}
use Rattle.lists.specs.Pick.{pick}
use Rattle.lists.specs.Tables.{padded}
use Rattle.kinds.specs.Limits.{most_entries}
use Rattle.kinds.specs.declared.replies.Refusal.TheVariants.{ShortArea}
use Rattle.kinds.specs.declared.replies.Reply.{Reply}
use Rattle.kinds.specs.declared.replies.Reply.TheVariants.{Counted, Refused}
use Rattle.rules.specs.Codes.{written_on}
use Rattle.rules.specs.Control.{Entry}
use Rattle.rules.specs.Reports.{StuckTask, first_stuck_at, ItemList}
use Rattle.rings.specs.declared.listing.Listing.{Listing}

-- two for each entry
abbrev pub most_bytes : ℕ
most_bytes = 2 * most_entries

-- the struct that keeps a list of items, and the list that a struct stands for
abbrev pub stored_items : ItemList → Listing
stored_items r = record { bytes = padded most_bytes 0 r.bytes; count = length r.bytes; items = r.items }

abbrev pub items_in : Listing → ItemList
items_in l = record { items = l.items; bytes = take l.count l.bytes }

-- one byte more, and all the bytes of one item more
abbrev pub with_byte : Listing → ℕ → Listing
with_byte l b = record { bytes = set l.bytes l.count b; count = l.count + 1; items = l.items }

abbrev pub with_bytes : Listing → List ℕ → Listing
with_bytes l [] = l
with_bytes l (b ∷ bs) = with_bytes (with_byte l b) bs

abbrev pub with_item : Listing → List ℕ → Listing
with_item l item = record {
  bytes = (with_bytes l item).bytes;
  count = (with_bytes l item).count;
  items = l.items + 1;
}

-- an item for each of a list more
abbrev pub with_items : {A : Type 0} → (A → List ℕ) → Listing → List A → Listing
with_items item l [] = l
with_items item l (x ∷ xs) = with_items item (with_item l (item x)) xs

-- what the list of stuck tasks has of task t, these being stuck
abbrev pub line_of : (ℕ → Bool) → List Entry → ℕ → List StuckTask
line_of these q t = cond (these t) (first_stuck_at these q t) []

-- "a list area too short gives 104, unchanged"; else so many items, at the front of the area
unfoldable pub report_reply : ItemList → ℕ → Reply
report_reply r space = pick (ltb space (length r.bytes)) (Refused ShortArea) (Counted r.items)

unfoldable pub report_written : ItemList → List ℕ → List ℕ
report_written r area = pick (ltb (length area) (length r.bytes)) area (written_on r.bytes area)
