-- A queue is a packed table of slots, and each slot is had back from the entry that it shows: so what points to names
-- shows again when it is kept, and a queue that passes the test is packed.
use mathlib.Core.Path.{◌≡◌, refl, sym, ap, ◌∙◌}
use mathlib.Core.Bool.{Bool, true, not}
use mathlib.Core.List.{List, [], ◌∷◌, ◌++◌, map}
use Prim.Native.Nat.{◌≤◌}
use native.Mathlib.Omega.{arith}
use lib.Dec.{eqb, ltb}
use lib.ListN.{length, take, drop, length-map}
use borrow.Author.Tests.{eqb-true, ltb-false, not-true}
use Rattle.lists.specs.Pick.{chain_not}
use Rattle.lists.specs.Lists.{keep}
use Rattle.lists.specs.Keeping.{length_keep, keep_map, take_map}
use Rattle.lists.specs.Bools.{both}
use Rattle.lists.specs.Tables.{padded_take}
use Rattle.lists.specs.Packed.{Table, plain}
use Rattle.lists.specs.Packed as packed
use Rattle.kinds.specs.Limits.{most_entries}
use Rattle.kinds.specs.declared.names.Slot.{Slot}
use Rattle.rules.specs.Control.{Entry}
use Rattle.queue.specs.Queues.{entry_of, slot_of, zero_slot, rows_of, entries_in, stored_entries, PackedEntries, is_zero}
use Rattle.queue.specs.Queues.{rest_zero, packed_entries}
use Rattle.queue.specs.declared.Queue.{Queue}

abbrev pub table : Table Queue Slot Slot
table = record {
  array = λ q. q.slots;
  count = λ q. q.count;
  make = λ l n. record { slots = l; count = n };
  array_made = λ l n. refl;
  count_made = λ l n. refl;
  whole = λ q. refl;
  size = most_entries;
  zero = zero_slot;
  view = plain;
}

slots_again : (l : List Slot) → map slot_of (map entry_of l) ≡ l
slots_again [] = refl
slots_again (s ∷ l) = ap (λ (r : List Slot). s ∷ r) (slots_again l)

-- the entries are what the slots in use show, which are had back from them
pub entries_shown : (q : Queue) → entries_in q ≡ map entry_of (take q.count q.slots)
entries_shown q = take_map entry_of q.count q.slots

slots_used : (q : Queue) → map slot_of (entries_in q) ≡ take q.count q.slots
slots_used q = ap (map slot_of) (entries_shown q) ∙ slots_again (take q.count q.slots)

-- a list of entries that slots show: each points to its name
pub record Pointing (l : List Entry) : Type 0 where
  pub slots : List Slot
  pub shown : l ≡ map entry_of slots

-- whatever such list is kept shows again
pub live_stored : (l : List Entry) → Pointing l → entries_in (stored_entries l) ≡ l
live_stored l p =
    entries_shown (stored_entries l)
    ∙ ap (map entry_of) (padded_take most_entries zero_slot (map slot_of l) ∙ ap (map slot_of) p.shown)
    ∙ ap (map entry_of) (slots_again p.slots)
    ∙ sym p.shown

pub entries_count : (l : List Entry) (q : Queue) → q ≡ stored_entries l → q.count ≡ length l
entries_count l q e = packed.stored_count table (map slot_of l) q e ∙ length-map l slot_of

-- whatever is kept within the places is packed
pub stored_packed : (l : List Entry) (q : Queue) → q ≡ stored_entries l → length l ≤ most_entries → PackedEntries q
stored_packed l q e h = record {
  form = packed.stored_form table (map slot_of l) q e ∙ ap rows_of (sym (slots_used q));
  room = omega (arith, entries_count l q e);
}

pub keep_packed : (f : Entry → Bool) (q r : Queue) → PackedEntries q → r ≡ stored_entries (keep f (entries_in q))
    → PackedEntries r
keep_packed f q r p e =
    stored_packed (keep f (entries_in q)) r e
    (omega (arith, length_keep f (entries_in q), entries_count (entries_in q) q p.form, p.room))

zero_eq : (s : Slot) → is_zero s ≡ true → s ≡ zero_slot
unfolding is_zero
zero_eq s h =
    let p = both (eqb s.task.0 0) _ h in
    let q = both (not s.exclusive) _ p.1 in
    λ i. record {
      task = record { 0 = eqb-true s.task.0 0 p.0 i };
      exclusive = not-true s.exclusive q.0 i;
      name = record { 0 = eqb-true s.name.0 0 q.1 i };
    }

-- a queue that passes the test keeps its list
pub packed_kept : (q : Queue) → packed_entries q ≡ true → PackedEntries q
unfolding packed_entries rest_zero
packed_kept q h =
    let a = chain_not (ltb most_entries q.count) _ h in
    let k : q.count ≤ most_entries = ltb-false most_entries q.count a.0 in
    record { form = packed.passed_form table is_zero zero_eq q k a.1 refl ∙ ap rows_of (sym (slots_used q)); room = k }

-- the slots that show what passes a test are the slots of what passes
pub swept_rows : (f : Entry → Bool) (q : Queue)
    → rows_of (keep (λ (s : Slot). f (entry_of s)) (take q.count q.slots)) ≡ stored_entries (keep f (entries_in q))
swept_rows f q =
    ap rows_of (sym (slots_again (keep (λ (s : Slot). f (entry_of s)) (take q.count q.slots))))
    ∙ ap stored_entries (sym (ap (keep f) (entries_shown q) ∙ keep_map entry_of f (take q.count q.slots)))

-- slots changed in place, to those that show other entries
pub changed_rows : (g : List Slot → List Slot) (l : List Entry) (q : Queue) → PackedEntries q
    → map entry_of (g (take q.count q.slots)) ≡ l → length l ≡ length (entries_in q) → (r : Queue)
    → r.slots ≡ g (take q.count q.slots) ++ drop q.count q.slots → r.count ≡ q.count
    → r ≡ stored_entries l
changed_rows g l q p h n r e k =
    packed.changed table q (p.form ∙ ap rows_of (slots_used q)) g (map slot_of l) r
    (sym (slots_again (g (take q.count q.slots))) ∙ ap (map slot_of) h)
    (length-map l slot_of ∙ n ∙ sym (length-map (entries_in q) slot_of) ∙ ap length (slots_used q)) e k

-- what is kept of a queue's entries shows again
pub kept_pointing : (f : Entry → Bool) (q : Queue) → Pointing (keep f (entries_in q))
kept_pointing f q = record {
  slots = keep (λ (s : Slot). f (entry_of s)) (take q.count q.slots);
  shown = ap (keep f) (entries_shown q) ∙ keep_map entry_of f (take q.count q.slots);
}
