-- Which tasks lack control, entry by entry: the search for an entry that bars, and the marks.
use mathlib.Core.Path.{◌≡◌, refl, sym, ap, ◌∙◌}
use mathlib.Core.Bool.{Bool, true, false, not, ◌&&◌, ◌||◌, or-false, or_assoc, and-false}
use mathlib.Core.List.{List, [], ◌∷◌, ◌++◌, map, append-nil}
use Prim.Native.Nat.{ℕ, ◌+◌, ◌<◌}
use native.Mathlib.Numerals.{add-one}
use native.Mathlib.Omega.{arith}
use lib.Dec.{eqb}
use lib.ListN.{length, take, get_or, set, length-map, length-set, length-replicate, get_or-replicate, get_or-map}
use Rattle.std.proofs.lemmas.List.{set-get_or}
use lib.Seq.{take-suc, append_snoc, get_or-set_same, get_or-set_other}
use borrow.Author.Tests.{eqb-true, eqb-false}
use Rattle.lists.specs.Lists.{every}
use Rattle.lists.specs.Loops.{all_shown}
use Rattle.kinds.specs.Limits.{highest_task}
use Rattle.kinds.specs.declared.names.Slot.{Slot}
use Rattle.rules.specs.Control.{Entry, of_task, control, lacks_from, lacks}
use Rattle.rules.specs.Rings.{bars}
use Rattle.laws.specs.Control.{free, control_each}
use Rattle.queue.specs.Queues.{entry_of}
use Rattle.queue.specs.Marking.{mark_at, no_marks, lacks_among, with_mark, Marked}
use Rattle.queue.specs.declared.marks.Marks.{Marks}

-- an entry that none of those before it bars has control
pub none_bars-control : (e : Entry) (n : ℕ) (l : List Slot)
    → every (λ (x : Slot). not (bars (entry_of x) e)) (take n l) ≡ control (take n (map entry_of l)) e
unfolding free
none_bars-control e n l = all_shown entry_of (free e) n l ∙ sym (control_each (take n (map entry_of l)) e)

-- one more entry: whoever lacked control lacks it, and its task too where it has none
pub lacks_append : (t : ℕ) (p l : List Entry) (e : Entry)
    → lacks_from t p (l ++ (e ∷ [])) ≡ (lacks_from t p l || (of_task t e && not (control (p ++ l) e)))
lacks_append t p [] e =
    or-false (of_task t e && not (control p e))
    ∙ ap (λ (r : List Entry). of_task t e && not (control r e)) (sym (append-nil p))
lacks_append t p (x ∷ l) e =
    ap (λ (b : Bool). (of_task t x && not (control p x)) || b)
    (lacks_append t (p ++ (x ∷ [])) l e
    ∙ ap (λ (r : List Entry). lacks_from t (p ++ (x ∷ [])) l || (of_task t e && not (control r e))) (append_snoc p x l))
    ∙ sym (or_assoc (of_task t x && not (control p x)) (lacks_from t (p ++ (x ∷ [])) l)
    (of_task t e && not (control (p ++ (x ∷ l)) e)))

-- the marks are those of a list of entries, among these
abbrev pub Found : Marks → List Entry → Marks → Type 0
Found among q m = Marked (lacks_among among q) (highest_task + 1) m

pub none_found : (among : Marks) → Found among [] no_marks
none_found among = record {
  long = length-replicate (highest_task + 1) false;
  each = λ t h. get_or-replicate (highest_task + 1) t false false h ∙ sym (and-false (mark_at among t));
}

-- task t is to be looked at: it is one of these, and was not found
abbrev pub sought_in : Marks → Marks → ℕ → Bool
sought_in among m t = mark_at among t && not (mark_at m t)

set_mark : (l : List Bool) (k t : ℕ) (b : Bool) → t < length l
    → get_or (set l k (get_or l k false || b)) t false ≡ (get_or l t false || (eqb k t && b))
set_mark l k t b h = one (eqb k t) refl
  where
    one : (so : Bool) → eqb k t ≡ so → get_or (set l k (get_or l k false || b)) t false ≡ (get_or l t false || (so && b))
    one true e = let n : k ≡ t = eqb-true k t e in
        ap (λ (j : ℕ). get_or (set l j (get_or l j false || b)) t false) n ∙ get_or-set_same l t (get_or l t false || b) false h
    one false e =
        get_or-set_other l k t (get_or l k false || b) false (λ n. eqb-false k t e (sym n))
        ∙ sym (or-false (get_or l t false))

-- a: the task is among these; l: it lacked control; k: the entry is
-- the task's; o: it has control; g: it has control or is not looked at
mark_is : (a l k o g : Bool) → (k ≡ true → (not (a && not (a && l)) || o) ≡ g)
    → ((a && l) || (k && not g)) ≡ (a && (l || (k && not o)))
mark_is false l false o g h = refl
mark_is true l false o g h = refl
mark_is false l true o g h = sym (ap not (h refl))
mark_is true true true o g h = refl
mark_is true false true o g h = sym (ap not (h refl))

with_mark_lem : (among m : Marks) (l : List Entry) (e : Entry) (g : Bool) → Found among l m
    → (not (sought_in among m e.task) || control l e) ≡ g
    → Found among (l ++ (e ∷ [])) (with_mark m e.task g)
unfolding with_mark
with_mark_lem among m l e g r h = record {
  long = length-set m.tasks e.task (mark_at m e.task || not g) ∙ r.long;
  each = λ t k.
      set_mark m.tasks e.task t (not g) (omega (arith, r.long))
      ∙ ap (λ (b : Bool). b || (of_task t e && not g)) (r.each t k)
      ∙ mark_is (mark_at among t) (lacks t l) (of_task t e) (control l e) g (looked t k)
      ∙ sym (ap (λ (b : Bool). mark_at among t && b) (lacks_append t [] l e));
}
  where
    looked : (t : ℕ) → t < highest_task + 1 → of_task t e ≡ true
        → (not (mark_at among t && not (mark_at among t && lacks t l)) || control l e) ≡ g
    looked t k o =
        sym (ap (λ (b : Bool). not (mark_at among t && not b) || control l e) (r.each t k))
        ∙ ap (λ (x : ℕ). not (sought_in among m x) || control l e) (sym (eqb-true e.task t o))
        ∙ h

mark_kept : (m : Marks) (t : ℕ) → with_mark m t true ≡ m
unfolding with_mark
mark_kept m t =
    let e : set m.tasks t (mark_at m t || false) ≡ m.tasks =
    ap (set m.tasks t) (or-false (mark_at m t)) ∙ set-get_or m.tasks t false in
    λ i. record { tasks = e i }

-- one more slot: its task is looked at, or it has its mark or needs none
module _ (among m : Marks) (es : List Slot) (i : ℕ) (d : Slot) (h : i < length es)
    (v : Found among (take i (map entry_of es)) m) where
  one_slot : (g : Bool)
      → (not (sought_in among m (get_or es i d).task.0)
      || control (take i (map entry_of es)) (entry_of (get_or es i d))) ≡ g
      → Found among (take (i + 1) (map entry_of es)) (with_mark m (get_or es i d).task.0 g)
  one_slot g k =
      let s : take (i + 1) (map entry_of es) ≡ take i (map entry_of es) ++ (entry_of (get_or es i d) ∷ []) =
      rw (add-one) (take-suc (map entry_of es) i (entry_of d) (omega (arith, length-map es entry_of)))
      ∙ ap (λ (x : Entry). take i (map entry_of es) ++ (x ∷ [])) (get_or-map entry_of es i d) in
      rw s (with_mark_lem among m (take i (map entry_of es)) (entry_of (get_or es i d)) g v k)

  pub found_looked : (g : Bool) {r : Marks} → sought_in among m (get_or es i d).task.0 ≡ true
      → control (take i (map entry_of es)) (entry_of (get_or es i d)) ≡ g
      → r ≡ with_mark m (get_or es i d).task.0 g → Found among (take (i + 1) (map entry_of es)) r
  found_looked g e k f = rw f (one_slot g (rw e k))

  pub found_passed : {r : Marks} → sought_in among m (get_or es i d).task.0 ≡ false → r ≡ m
      → Found among (take (i + 1) (map entry_of es)) r
  found_passed e f =
      rw (f ∙ sym (mark_kept m (get_or es i d).task.0)) (one_slot true (rw e refl))
