-- The search for the first entry of a task that one of these tasks holds up, and for the first that does.
use mathlib.Core.Path.{◌≡◌, refl, sym, subst, ap, ap₂, ◌∙◌}
use mathlib.Core.Bool.{Bool, true, false, cond, ◌&&◌}
use mathlib.Core.List.{List, [], ◌∷◌, ◌++◌, map}
use Prim.Native.Nat.{ℕ, ◌+◌, ◌-◌, ◌*◌, ◌≤◌, ◌<◌}
use native.Mathlib.Omega.{arith}
use Rattle.std.specs.Prelude.{None, Some}
use Rattle.std.specs.List.{find}
use native.Mathlib.Numerals.{add-one}
use lib.ListN.{length, take, drop, get_or, length-map, length-take, length-append}
use lib.Seq.{drop-cons, length-take-le}
use Rattle.std.proofs.Common.{drop_of_length-le}
use Rattle.lists.specs.Lists.{keep, numbers, gathered}
use Rattle.lists.specs.Changing.{map_next}
use Rattle.lists.specs.Keeping.{keep_none, length_keep}
use Rattle.lists.specs.Filling.{number_at}
use Rattle.kinds.specs.Limits.{highest_task}
use Rattle.kinds.specs.declared.names.Slot.{Slot}
use Rattle.rules.specs.Control.{Entry, of_task}
use Rattle.rules.specs.Reports.{StuckTask, stuck_at, holds_up, stuck_at_from, first_stuck_at, stuck_item, itemised}
use Rattle.laws.specs.Gathering.{gathered_append, gathered_kept, gathered_few, gathered_long}
use Rattle.queue.specs.Queues.{entry_of}
use Rattle.rings.specs.Listings.{stored_items, with_items, line_of}
use Rattle.rings.specs.declared.listing.Listing.{Listing}
use Rattle.rings.proofs.Items.{items_count, items_many, items_stored}

-- the first element that passes a test, and those that do
find_none : {A B : Type 0} (p : B → Bool) (view : A → B) (l : List A) → find (λ (a : A). p (view a)) l ≡ None
    → keep p (map view l) ≡ []
find_none p view [] h = refl
find_none {A} p view (a ∷ l) h = one (p (view a)) h (find_none p view l)
  where
    one : (b : Bool) → cond b (Some a) (find (λ (x : A). p (view x)) l) ≡ None
        → (find (λ (x : A). p (view x)) l ≡ None → keep p (map view l) ≡ [])
        → cond b (view a ∷ keep p (map view l)) (keep p (map view l)) ≡ []
    one true e ih = cc
    one false e ih = ih e

find_some : {A B C : Type 0} (p : B → Bool) (view : A → B) (f : B → C) (rest : List C) (x : A) (l : List A)
    → find (λ (a : A). p (view a)) l ≡ Some x → take 1 (map f (keep p (map view l)) ++ rest) ≡ f (view x) ∷ []
find_some p view f rest x [] h = cc
find_some {A} p view f rest x (a ∷ l) h = one (p (view a)) h (find_some p view f rest x l)
  where
    one : (b : Bool) → cond b (Some a) (find (λ (y : A). p (view y)) l) ≡ Some x
        → (find (λ (y : A). p (view y)) l ≡ Some x → take 1 (map f (keep p (map view l)) ++ rest) ≡ f (view x) ∷ [])
        → take 1 (map f (cond b (view a ∷ keep p (map view l)) (keep p (map view l))) ++ rest) ≡ f (view x) ∷ []
    one true e ih = let k : a ≡ x = cc in ap (λ (y : A). f (view y) ∷ []) k
    one false e ih = ih e

-- what is left from slot i on
pub record From (these : ℕ → Bool) (t : ℕ) (es : List Slot) (i : ℕ) : Type 0 where
  pub left : first_stuck_at these (map entry_of es) t
      ≡ take 1 (stuck_at_from these t (map entry_of (take i es)) (map entry_of (drop i es)))

module _ {these : ℕ → Bool} {t : ℕ} {es : List Slot} where
  pub from_start : From these t es 0
  from_start = record { left = refl }

  pub from_over : {i : ℕ} → From these t es i → length es ≤ i → first_stuck_at these (map entry_of es) t ≡ []
  from_over {i} v h =
      v.left
      ∙ ap (λ (l : List Slot). take 1 (stuck_at_from these t (map entry_of (take i es)) (map entry_of l)))
      (drop_of_length-le es h)

  -- slot i, with what is found ahead of it
  module _ {i : ℕ} (v : From these t es i) (h : i < length es) (d : Slot) where
    abbrev here : Entry
    here = entry_of (get_or es i d)

    looked : first_stuck_at these (map entry_of es) t
        ≡ take 1 (map (stuck_at i here) (keep (λ (x : Entry). of_task t here && holds_up these here x)
        (map entry_of (take i es)))
        ++ stuck_at_from these t (map entry_of (take (i + 1) es)) (map entry_of (drop (i + 1) es)))
    looked =
        v.left
        ∙ ap (λ (l : List Slot). take 1 (stuck_at_from these t (map entry_of (take i es)) (map entry_of l)))
        (drop-cons es i d h ∙ ap (λ (k : ℕ). get_or es i d ∷ drop k es) (sym (add-one i)))
        ∙ ap₂ (λ (m : ℕ) (l : List Entry). take 1 (map (stuck_at m here)
        (keep (λ (x : Entry). of_task t here && holds_up these here x) (map entry_of (take i es)))
        ++ stuck_at_from these t l (map entry_of (drop (i + 1) es)))) before next
      where
        before : length (map entry_of (take i es)) ≡ i
        before = length-map (take i es) entry_of ∙ length-take-le i es (omega arith)

        next : map entry_of (take i es) ++ (here ∷ []) ≡ map entry_of (take (i + 1) es)
        next = sym (map_next entry_of es i d h)

    -- another task's
    pub from_other : of_task t here ≡ false → From these t es (i + 1)
    from_other k = record {
      left =
          looked
          ∙ ap (λ (b : Bool). take 1 (map (stuck_at i here) (keep (λ (x : Entry). b && holds_up these here x)
          (map entry_of (take i es)))
          ++ stuck_at_from these t (map entry_of (take (i + 1) es)) (map entry_of (drop (i + 1) es)))) k
          ∙ ap (λ (l : List Entry). take 1 (map (stuck_at i here) l
          ++ stuck_at_from these t (map entry_of (take (i + 1) es)) (map entry_of (drop (i + 1) es))))
          (keep_none (map entry_of (take i es)));
    }

    module _ (k : of_task t here ≡ true) where
      mine : first_stuck_at these (map entry_of es) t
          ≡ take 1 (map (stuck_at i here) (keep (holds_up these here) (map entry_of (take i es)))
          ++ stuck_at_from these t (map entry_of (take (i + 1) es)) (map entry_of (drop (i + 1) es)))
      mine =
          looked
          ∙ ap (λ (b : Bool). take 1 (map (stuck_at i here) (keep (λ (x : Entry). b && holds_up these here x)
          (map entry_of (take i es)))
          ++ stuck_at_from these t (map entry_of (take (i + 1) es)) (map entry_of (drop (i + 1) es)))) k

      pub from_free : find (λ (s : Slot). holds_up these here (entry_of s)) (take i es) ≡ None
          → From these t es (i + 1)
      from_free e = record {
        left =
            mine
            ∙ ap (λ (l : List Entry). take 1 (map (stuck_at i here) l
            ++ stuck_at_from these t (map entry_of (take (i + 1) es)) (map entry_of (drop (i + 1) es))))
            (find_none (holds_up these here) entry_of (take i es) e);
      }

      pub from_found : (x : Slot) → find (λ (s : Slot). holds_up these here (entry_of s)) (take i es) ≡ Some x
          → first_stuck_at these (map entry_of es) t ≡ stuck_at i here (entry_of x) ∷ []
      from_found x e =
          mine
          ∙ find_some (holds_up these here) entry_of (stuck_at i here)
          (stuck_at_from these t (map entry_of (take (i + 1) es)) (map entry_of (drop (i + 1) es))) x (take i es) e

-- the line of a task
module _ (these : ℕ → Bool) (q : List Entry) (t : ℕ) where
  pub no_line : these t ≡ false → [] ≡ line_of these q t
  no_line h = rw h

  pub line_is : (l : List StuckTask) → these t ≡ true → first_stuck_at these q t ≡ l → l ≡ line_of these q t
  line_is l h e = sym (ap (λ (b : Bool). cond b (first_stuck_at these q t) []) h ∙ e)

-- the lines of the tasks up to number i
abbrev pub lines_to : (ℕ → Bool) → List Entry → ℕ → List StuckTask
lines_to these q i = gathered (first_stuck_at these q) (keep these (take i (numbers 1 highest_task)))

-- each task has one at most
pub few_lines : (these : ℕ → Bool) (q : List Entry) (i : ℕ) → length (lines_to these q i) ≤ i
few_lines these q i =
    let l = take i (numbers 1 highest_task) in
    let m = gathered_few (first_stuck_at these q) (λ t. one t) (keep these l) in
    omega (arith, length_keep these l, length-take i (numbers 1 highest_task))
  where
    one : (t : ℕ) → length (first_stuck_at these q t) ≤ 1
    one t = omega (arith, length-take 1 (stuck_at_from these t [] q))

-- three bytes each
pub lines_long : (these : ℕ → Bool) (q : List Entry) (i : ℕ)
    → length (gathered stuck_item (lines_to these q i)) ≡ 3 * length (lines_to these q i)
lines_long these q i = gathered_long stuck_item 3 (λ x. refl) (lines_to these q i)

line_next : (these : ℕ → Bool) (q : List Entry) (i : ℕ) → i < highest_task
    → lines_to these q (i + 1) ≡ lines_to these q i ++ line_of these q (i + 1)
line_next these q i h =
    let n : 1 + i ≡ i + 1 = omega arith in
    gathered_kept (first_stuck_at these q) these i (numbers 1 highest_task) 0 h
    ∙ ap (λ (t : ℕ). lines_to these q i ++ line_of these q t) (number_at 1 highest_task i 0 h ∙ n)

-- a list that has them
pub record Lines (these : ℕ → Bool) (q : List Entry) (i : ℕ) (l : Listing) : Type 0 where
  pub so_far : l ≡ stored_items (itemised stuck_item (lines_to these q i))

module _ {these : ℕ → Bool} {q : List Entry} where
  pub no_lines : {l : Listing} → l ≡ stored_items (record { items = 0; bytes = [] }) → Lines these q 0 l
  no_lines e = record { so_far = e }

  module _ {i : ℕ} {l : Listing} (v : Lines these q i l) (h : i ≤ highest_task) where
    pub lines_room : (l.count ≤ 3 * highest_task) × (l.items ≤ highest_task)
    lines_room =
        let m = items_count stuck_item (lines_to these q i) l v.so_far in
        let n = items_many stuck_item (lines_to these q i) l v.so_far in
        let k = few_lines these q i in
        (omega (arith, lines_long these q i), omega arith)

  one_line : {i : ℕ} {l s : Listing} → Lines these q i l → i < highest_task
      → s ≡ with_items stuck_item l (line_of these q (i + 1)) → Lines these q (i + 1) s
  one_line {i} {l} {s} v h e =
      let m = length-append (gathered stuck_item (lines_to these q i)) (gathered stuck_item (line_of these q (i + 1))) in
      let n =
      ap length (ap (gathered stuck_item) (line_next these q i h)
      ∙ gathered_append stuck_item (lines_to these q i) (line_of these q (i + 1))) in
      let k = few_lines these q (i + 1) in record {
        so_far =
            items_stored stuck_item (lines_to these q i) (line_of these q (i + 1)) l s
            (omega (arith, lines_long these q (i + 1))) v.so_far e
            ∙ ap (λ (xs : List StuckTask). stored_items (itemised stuck_item xs)) (sym (line_next these q i h));
      }

  pub lines_next : {t : ℕ} {l s : Listing} → Lines these q (t - 1) l → 1 ≤ t → t ≤ highest_task
      → s ≡ with_items stuck_item l (line_of these q t) → Lines these q (t + 1 - 1) s
  lines_next {t} {l} {s} v low h e =
      let n : t ≡ t - 1 + 1 = omega arith in
      let m : t - 1 + 1 ≡ t + 1 - 1 = omega arith in
      let P : ℕ → Type 0 = λ k. Lines these q k s in
      subst P m (one_line v (omega arith) (e ∙ ap (λ (k : ℕ). with_items stuck_item l (line_of these q k)) n))

  pub lines_all : {i : ℕ} {l : Listing} → Lines these q i l → i ≡ highest_task
      → l ≡ stored_items (itemised stuck_item (gathered (first_stuck_at these q) (keep these (numbers 1 highest_task))))
  lines_all v e = v.so_far ∙ ap (λ (k : ℕ). stored_items (itemised stuck_item (lines_to these q k))) e
