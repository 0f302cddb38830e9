-- The loops over where the names of the entries lie: read, compared, and written.
use mathlib.Core.Path.{◌≡◌, refl, sym, ap, ap₂, ◌∙◌}
use mathlib.Core.Bool.{Bool, false, ◌&&◌}
use mathlib.Core.List.{List, [], ◌∷◌, ◌++◌, map, append-nil}
use Prim.Native.Nat.{ℕ, zero, suc, ◌+◌, ◌≤◌, ◌<◌}
use native.Mathlib.Numerals.{add-one}
use native.Mathlib.Nat.{le_of_suc-le-suc}
use native.Mathlib.Omega.{arith}
use lib.Dec.{eqb}
use lib.ListN.{length, get_or, take, drop, set, length-map, drop_of_length-le}
use lib.Seq.{length-take-le, take-length}
use Rattle.lists.specs.Lists.{same_bytes}
use Rattle.lists.specs.Bytes.{same_lengths}
use Rattle.lists.specs.Filling.{map_at, copy_next}
use Rattle.lists.specs.Keeping.{take_map}
use Rattle.std.specs.List.{list_all, zip}
use Rattle.kinds.specs.declared.names.Slot.{Slot}
use Rattle.rules.specs.Control.{Entry}
use Rattle.queue.specs.Queues.{entry_of, entries_in, stored_entries, PackedEntries}
use Rattle.queue.specs.Pointing.{slot_offset, offsets_at, offsets_in, offsets_taken, pointed_by}
use Rattle.queue.specs.declared.Queue.{Queue}
use Rattle.queue.specs.declared.offsets.Offsets.{Offsets}
use Rattle.queue.proofs.Views.{entries_shown, entries_count, changed_rows}

-- READ, place by place: the first i are written over what was there
pub read_next : (q : Queue) (old r : List ℕ) (i : ℕ) (d : Slot) → i < length q.slots → i < length old
    → r ≡ take i (offsets_at q).of ++ drop i old
    → set r i (get_or q.slots i d).name.0 ≡ take (i + 1) (offsets_at q).of ++ drop (i + 1) old
read_next q old r i d h k e =
    ap₂ (λ (l : List ℕ) (o : ℕ). set l i o) e (sym (map_at slot_offset q.slots i d 0 h))
    ∙ copy_next (offsets_at q).of old i 0 (rw (length-map q.slots slot_offset) h) k

pub read_over : (q : Queue) (old : List ℕ) (i : ℕ) (r : Offsets) → i ≡ length q.slots → length old ≤ i
    → r.of ≡ take i (offsets_at q).of ++ drop i old → r ≡ offsets_at q
read_over q old i r n k e =
    let l = (offsets_at q).of in
    let t : take i l ≡ l = ap (λ (j : ℕ). take j l) (n ∙ sym (length-map q.slots slot_offset)) ∙ take-length l in
    let p : r.of ≡ l = e ∙ ap₂ (λ (u v : List ℕ). u ++ v) t (drop_of_length-le old k) ∙ append-nil l in
    λ j. record { of = p j }

-- COMPARED, slot by slot
same_all : (l m : List Slot) → length l ≡ length m
    → list_all (λ (p : Slot × Slot). eqb p.0.name.0 p.1.name.0) (zip l m)
    ≡ same_bytes (map slot_offset l) (map slot_offset m)
same_all [] [] h = refl
same_all [] (y ∷ m) h = absurd (omega arith)
same_all (x ∷ l) [] h = absurd (omega arith)
same_all (x ∷ l) (y ∷ m) h = ap (λ (t : Bool). eqb x.name.0 y.name.0 && t) (same_all l m (omega arith))

offsets_shown : (q : Queue) → map slot_offset (take q.count q.slots) ≡ offsets_in q
offsets_shown q = sym (take_map slot_offset q.count q.slots) ∙ offsets_taken q

pub same_is : (a b : Queue) → length (take a.count a.slots) ≡ length (take b.count b.slots)
    → list_all (λ (p : Slot × Slot). eqb p.0.name.0 p.1.name.0) (zip (take a.count a.slots) (take b.count b.slots))
    ≡ same_bytes (offsets_in a) (offsets_in b)
same_is a b h =
    same_all (take a.count a.slots) (take b.count b.slots) h ∙ ap₂ same_bytes (offsets_shown a) (offsets_shown b)

offsets_count : (q : Queue) → q.count ≤ length q.slots → length (offsets_in q) ≡ q.count
offsets_count q h =
    ap length (sym (offsets_taken q))
    ∙ length-take-le q.count (offsets_at q).of (rw (length-map q.slots slot_offset) h)

pub same_counts : (a b : Queue) → a.count ≤ length a.slots → b.count ≤ length b.slots
    → (a.count ≡ b.count → ⊥) → false ≡ same_bytes (offsets_in a) (offsets_in b)
same_counts a b h k n =
    sym (same_lengths (offsets_in a) (offsets_in b) (λ e. n (sym (offsets_count a h) ∙ e ∙ offsets_count b k)))

-- WRITTEN, slot by slot
abbrev pub slot_to : ℕ → Slot → Slot
slot_to o s = record { task = s.task; exclusive = s.exclusive; name = record { 0 = o } }

abbrev pub slots_to : List ℕ → List Slot → List Slot
slots_to [] l = []
slots_to (o ∷ os) [] = []
slots_to (o ∷ os) (s ∷ l) = slot_to o s ∷ slots_to os l

-- the first i slots are written
abbrev pub written_to : List ℕ → List Slot → ℕ → List Slot
written_to os l i = slots_to (take i os) (take i l) ++ drop i l

one_more : (os : List ℕ) (l : List Slot) (i : ℕ) (d : Slot) → i < length os → i < length l
    → set (written_to os l i) i (slot_to (get_or os i 0) (get_or (written_to os l i) i d)) ≡ written_to os l (suc i)
one_more [] l i d h k = absurd (omega arith)
one_more (o ∷ os) [] i d h k = absurd (omega arith)
one_more (o ∷ os) (s ∷ l) zero d h k = refl
one_more (o ∷ os) (s ∷ l) (suc i) d h k =
    ap (λ (r : List Slot). slot_to o s ∷ r) (one_more os l i d (le_of_suc-le-suc h) (le_of_suc-le-suc k))

pub write_next : (os : List ℕ) (l r : List Slot) (i : ℕ) (d : Slot) → i < length os → i < length l
    → r ≡ written_to os l i → set r i (slot_to (get_or os i 0) (get_or r i d)) ≡ written_to os l (i + 1)
write_next os l r i d h k e = rw (e, add-one) (one_more os l i d h k)

pub slots_shown : (os : List ℕ) (l : List Slot) → map entry_of (slots_to os l) ≡ pointed_by os (map entry_of l)
slots_shown [] l = refl
slots_shown (o ∷ os) [] = refl
slots_shown (o ∷ os) (s ∷ l) = ap (λ (r : List Entry). entry_of (slot_to o s) ∷ r) (slots_shown os l)

pointed_length : (os : List ℕ) (l : List Entry) → length os ≡ length l → length (pointed_by os l) ≡ length l
pointed_length [] l e = e
pointed_length (o ∷ os) [] e = refl
pointed_length (o ∷ os) (x ∷ l) e = ap suc (pointed_length os l (omega arith))

pub write_over : (os : List ℕ) (q r : Queue) → PackedEntries q → q.count ≤ length os
    → r.slots ≡ written_to os q.slots q.count → r.count ≡ q.count
    → r ≡ stored_entries (pointed_by (take q.count os) (entries_in q))
write_over os q r p h e k =
    let to = take q.count os in
    let n = length-take-le q.count os h ∙ entries_count (entries_in q) q p.form in
    changed_rows (slots_to to) (pointed_by to (entries_in q)) q p
    (slots_shown to (take q.count q.slots) ∙ ap (pointed_by to) (sym (entries_shown q)))
    (pointed_length to (entries_in q) n) r e k
