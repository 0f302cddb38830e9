-- How the tests of a queue come out.
use mathlib.Core.Path.{◌≡◌, refl, sym, ap, ◌∙◌}
use mathlib.Core.Bool.{Bool, true, false, not, ◌&&◌}
use mathlib.Core.List.{List, [], ◌∷◌, map}
use Prim.Native.Nat.{ℕ, ◌+◌, ◌≤◌, ◌<◌}
use native.Mathlib.Numerals.{add-one}
use lib.Dec.{ltb}
use lib.ListN.{length, get_or, take, drop, drop_of_length-le, length-map}
use lib.Seq.{drop-cons}
use borrow.Author.Tests.{le-ltb, eq-eqb, le-leb}
use Rattle.std.proofs.Common.{arith, ◌-◌, length-drop, take_all}
use Rattle.lists.specs.Pick.{pick_false}
use Rattle.lists.specs.Lists.{every, some, distinct}
use Rattle.lists.specs.Bools.{join}
use Rattle.lists.specs.Every.{some_of}
use Rattle.lists.specs.Packed as packed
use Rattle.kinds.specs.Limits.{most_entries}
use Rattle.kinds.specs.declared.names.Slot.{Slot}
use Rattle.names.specs.Pointers.{lawful_pointer}
use Rattle.rules.specs.Names.{lawful}
use Rattle.rules.specs.Control.{Entry}
use Rattle.rules.specs.SoundQueue.{same_request, queue_fits, entry_names_good}
use Rattle.queue.specs.Queues.{entry_of, entries_in, is_zero, rest_zero, packed_entries}
use Rattle.queue.specs.declared.Queue.{Queue}
use Rattle.queue.proofs.Views.{table, entries_shown}

-- the places behind those in use are zero
pub packed_is : (q : Queue) (yet : Bool) → length q.slots ≡ most_entries → q.count ≤ most_entries
    → yet ≡ every is_zero (drop q.count q.slots) → yet ≡ packed_entries q
unfolding packed_entries rest_zero
packed_is q yet n k e =
    sym (pick_false (ltb most_entries q.count) false _ (le-ltb most_entries q.count k)
    ∙ rw (eq-eqb (length q.slots) most_entries n) (sym e))

-- no two of the slots from place i on are for one request
abbrev pub once_from : List Slot → ℕ → Bool
once_from l i = distinct same_request (map entry_of (drop i l))

pub once_over : (l : List Slot) (i : ℕ) → length l ≤ i → once_from l i ≡ true
once_over l i h = ap (λ (r : List Slot). distinct same_request (map entry_of r)) (drop_of_length-le l h)

-- the slot at place i, of which `again` tells whether a later one is for the same request
module _ (l : List Slot) (i : ℕ) (d : Slot) (again : Bool) (h : i < length l)
    (e : again ≡ some (λ (y : Slot). same_request (entry_of (get_or l i d)) (entry_of y))
    (take (length l - (i + 1)) (drop (i + 1) l))) where
  once_next : once_from l i ≡ (not again && once_from l (i + 1))
  once_next =
      let later = drop (i + 1) l in
      let n = length l - (i + 1) in
      let all : take n later ≡ later = take_all n later (omega (arith, length-drop (i + 1) l)) in
      let first : drop i l ≡ get_or l i d ∷ later = rw (add-one) (drop-cons l i d h) in
      ap (λ (r : List Slot). distinct same_request (map entry_of r)) first
      ∙ ap (λ (b : Bool). not b && once_from l (i + 1))
      (some_of entry_of (same_request (entry_of (get_or l i d))) later
      ∙ sym (e ∙ ap (some (λ (y : Slot). same_request (entry_of (get_or l i d)) (entry_of y))) all))

  pub once_stops : again ≡ true → once_from l i ≡ false
  once_stops t = once_next ∙ rw t

  pub once_goes : again ≡ false → once_from l i ≡ once_from l (i + 1)
  once_goes t = once_next ∙ rw t

-- a queue's array bounds its list
pub fits_is : (q : Queue) → length q.slots ≡ most_entries → true ≡ queue_fits (entries_in q)
unfolding queue_fits
fits_is q h =
    sym (le-leb (length (entries_in q)) most_entries (rw (entries_shown q, length-map) (packed.live_few table q h)))

-- and its offsets stand for lawful names
pub names_are : (q : Queue) → true ≡ entry_names_good (entries_in q)
unfolding entry_names_good
names_are q = sym (ap (every (λ (e : Entry). lawful e.name)) (entries_shown q) ∙ all (take q.count q.slots))
  where
    all : (l : List Slot) → every (λ (e : Entry). lawful e.name) (map entry_of l) ≡ true
    all [] = refl
    all (s ∷ l) = join (lawful (entry_of s).name) _ (lawful_pointer s.name.0) (all l)
