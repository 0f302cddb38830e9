-- Who waits for whom, entry by entry: one more entry e, and one more before it that bars e or not.
use mathlib.Core.Path.{◌≡◌, refl, sym, ap, ap₂, ◌∙◌}
use mathlib.Core.Bool.{Bool, true, false, not, ◌&&◌, ◌||◌, or-false, or_assoc, and-false}
use mathlib.Core.List.{List, [], ◌∷◌, ◌++◌, map, append-nil}
use Prim.Native.Nat.{ℕ, ◌+◌, ◌*◌, ◌/◌, ◌%◌, ◌≤◌, ◌<◌}
use lib.Dec.{eqb}
use lib.ListN.{length, take, get_or, set, replicate, length-replicate, get_or-replicate}
use lib.Seq.{append_snoc, take_all}
use Rattle.lists.specs.Changing.{map_next}
use borrow.Author.Tests.{eqb-true, eq-eqb}
use Rattle.lists.specs.Lists.{some}
use Rattle.lists.specs.Every.{some_append}
use Rattle.kinds.specs.declared.names.Slot.{Slot}
use Rattle.rules.specs.Control.{Entry, of_task, control}
use Rattle.rules.specs.Rings.{bars, waits_from, waits_for}
use Rattle.laws.specs.Among.{some_besides}
use Rattle.laws.specs.OnRing.{bars_of, barred_lacks}
use Rattle.queue.specs.Queues.{entry_of}
use Rattle.rings.specs.Ways.{Full, full_at, full_same, full_set, way_at, wide, all_ways}
use Rattle.rings.specs.declared.ways.Ways.{Ways}

-- one more entry: whoever waited waits, and its task too where one bars it
waits_append : (a b : ℕ) (p l : List Entry) (e : Entry)
    → waits_from p a b (l ++ (e ∷ [])) ≡ (waits_from p a b l || (of_task a e && some (bars_of b e) (p ++ l)))
waits_append a b p [] e =
    or-false (of_task a e && (not (control p e) && some (bars_of b e) p))
    ∙ ap (λ (s : Bool). of_task a e && s) (barred_lacks b p e)
    ∙ ap (λ (r : List Entry). of_task a e && some (bars_of b e) r) (sym (append-nil p))
waits_append a b p (x ∷ l) e =
    ap (λ (s : Bool). (of_task a x && (not (control p x) && some (bars_of b x) p)) || s)
    (waits_append a b (p ++ (x ∷ [])) l e
    ∙ ap (λ (r : List Entry). waits_from (p ++ (x ∷ [])) a b l || (of_task a e && some (bars_of b e) r))
    (append_snoc p x l))
    ∙ sym (or_assoc (of_task a x && (not (control p x) && some (bars_of b x) p)) (waits_from (p ++ (x ∷ [])) a b l)
    (of_task a e && some (bars_of b e) (p ++ (x ∷ l))))

-- e and x, which stands before it, are a step from a to b
abbrev step_by : Entry → ℕ → ℕ → Entry → Bool
step_by e a b x = of_task a e && (not (eqb a b) && (of_task b x && bars x e))

-- the steps of a list of entries, and those of e by the entries before it that are passed
abbrev pub steps_with : List Entry → Entry → List Entry → ℕ → ℕ → Bool
steps_with l e passed a b = waits_for l a b || some (step_by e a b) passed

with_all : (n w o s : Bool) → ((n && w) || (o && (n && s))) ≡ (n && (w || (o && s)))
with_all true w o s = refl
with_all false w o s = and-false o

-- all before it are passed
all_passed : (l : List Entry) (e : Entry) (a b : ℕ) → steps_with l e l a b ≡ waits_for (l ++ (e ∷ [])) a b
unfolding waits_for
all_passed l e a b =
    ap (λ (s : Bool). (not (eqb a b) && waits_from [] a b l) || s)
    (some_besides (of_task a e) (λ (x : Entry). not (eqb a b) && bars_of b e x) l
    ∙ ap (λ (s : Bool). of_task a e && s) (some_besides (not (eqb a b)) (bars_of b e) l))
    ∙ with_all (not (eqb a b)) (waits_from [] a b l) (of_task a e) (some (bars_of b e) l)
    ∙ ap (λ (s : Bool). not (eqb a b) && s) (sym (waits_append a b [] l e))

-- one more is passed
one_passed : (l : List Entry) (e : Entry) (p : List Entry) (x : Entry) (a b : ℕ)
    → steps_with l e (p ++ (x ∷ [])) a b ≡ (steps_with l e p a b || step_by e a b x)
one_passed l e p x a b =
    ap (λ (s : Bool). waits_for l a b || s)
    (some_append (step_by e a b) p (x ∷ [])
    ∙ ap (λ (s : Bool). some (step_by e a b) p || s) (or-false (step_by e a b x)))
    ∙ sym (or_assoc (waits_for l a b) (some (step_by e a b) p) (step_by e a b x))

-- x is a step between no others
step_other : (e x : Entry) (a b : ℕ) → (e.task ≡ a → x.task ≡ b → ⊥) → step_by e a b x ≡ false
step_other e x a b h = one (eqb e.task a) (eqb x.task b) refl refl
  where
    one : (o p : Bool) → eqb e.task a ≡ o → eqb x.task b ≡ p → (o && (not (eqb a b) && (p && bars x e))) ≡ false
    one true true u v = absurd (h (eqb-true e.task a u) (eqb-true x.task b v))
    one true false u v = and-false (not (eqb a b))
    one false p u v = refl

step_here : (e x : Entry)
    → step_by e e.task x.task x ≡ (not (eqb e.task x.task) && bars x e)
step_here e x = rw (eq-eqb e.task e.task refl, eq-eqb x.task x.task refl)

-- THE TABLE
pub none_full : Full (waits_for []) (record { of = replicate all_ways false })
unfolding waits_for
none_full = record {
  long = length-replicate all_ways false;
  each = λ i k. get_or-replicate all_ways i false false k ∙ sym (and-false (not (eqb (i / wide) (i % wide))));
}

-- one more before e
module _ (l : List Entry) (e : Entry) (p : List Entry) (x : Entry) (m : Ways) (v : Full (steps_with l e p) m) where
  no_step : (a b : ℕ) → step_by e a b x ≡ false → steps_with l e p a b ≡ steps_with l e (p ++ (x ∷ [])) a b
  no_step a b k =
      sym (one_passed l e p x a b ∙ ap (λ (s : Bool). steps_with l e p a b || s) k ∙ or-false (steps_with l e p a b))

  -- both tasks have places: whether x is a step is written
  step_written : (so : Bool) → e.task < wide → x.task < wide
      → so ≡ (way_at m e.task x.task || (not (eqb e.task x.task) && bars x e))
      → Full (steps_with l e (p ++ (x ∷ []))) (record { of = set m.of (e.task * wide + x.task) so })
  step_written so h k q =
      full_set (steps_with l e p) (steps_with l e (p ++ (x ∷ []))) m e.task x.task so h k
      (q ∙ ap₂ (λ (r s : Bool). r || s) (full_at (steps_with l e p) m e.task x.task h k v)
      (sym (step_here e x)) ∙ sym (one_passed l e p x e.task x.task))
      (λ c d n. no_step c d (step_other e x c d n)) v

  -- one of them has none, and x is passed over
  step_past : (e.task < wide → x.task < wide → ⊥) → Full (steps_with l e (p ++ (x ∷ []))) m
  step_past t =
      full_same (steps_with l e p) (steps_with l e (p ++ (x ∷ []))) m
      (λ a b h k. no_step a b (step_other e x a b (λ u w. t (rw u h) (rw w k)))) v

-- ALONG THE LOOPS, over slots

-- the table has the steps of these slots, and those of e, which is the next, by the first j of them
pub record Stepping (es : List Slot) (e : Slot) (j : ℕ) (m : Ways) : Type 0 where
  pub yet : Full (steps_with (map entry_of es) (entry_of e) (map entry_of (take j es))) m

pub steps_start : (es : List Slot) (e : Slot) (m : Ways) → Full (waits_for (map entry_of es)) m → Stepping es e 0 m
steps_start es e m v = record {
  yet =
      full_same (waits_for (map entry_of es)) (steps_with (map entry_of es) (entry_of e) []) m
      (λ a b h k. sym (or-false (waits_for (map entry_of es) a b))) v;
}

module _ {es : List Slot} {e : Slot} {j : ℕ} {m : Ways} (v : Stepping es e j m) where
  module _ (h : j < length es) (d : Slot) where
    pub steps_next : (so : Bool) → e.task.0 < wide → (get_or es j d).task.0 < wide
        → so ≡ (way_at m e.task.0 (get_or es j d).task.0
        || (not (eqb e.task.0 (get_or es j d).task.0) && bars (entry_of (get_or es j d)) (entry_of e)))
        → Stepping es e (j + 1) (record { of = set m.of (e.task.0 * wide + (get_or es j d).task.0) so })
    steps_next so s t k = record {
      yet =
          rw (map_next entry_of es j d h) (step_written (map entry_of es) (entry_of e) (map entry_of (take j es))
          (entry_of (get_or es j d)) m v.yet so s t k);
    }

    pub steps_past : (e.task.0 < wide → (get_or es j d).task.0 < wide → ⊥) → Stepping es e (j + 1) m
    steps_past t = record {
      yet =
          rw (map_next entry_of es j d h) (step_past (map entry_of es) (entry_of e) (map entry_of (take j es))
          (entry_of (get_or es j d)) m v.yet t);
    }

  -- all before it are passed
  pub steps_end : length es ≤ j → Full (waits_for (map entry_of es ++ (entry_of e ∷ []))) m
  steps_end h =
      full_same (steps_with (map entry_of es) (entry_of e) (map entry_of (take j es)))
      (waits_for (map entry_of es ++ (entry_of e ∷ []))) m
      (λ a b p q.
      ap (λ (l : List Slot). steps_with (map entry_of es) (entry_of e) (map entry_of l) a b) (take_all j es h)
      ∙ all_passed (map entry_of es) (entry_of e) a b) v.yet
