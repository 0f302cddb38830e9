-- On a ring: the diagonal of the closed table says it of each task.
use mathlib.Core.Path.{◌≡◌, refl, sym, ap, ap₂, ◌∙◌}
use mathlib.Core.Bool.{Bool, true, false, ◌&&◌, ◌||◌}
use mathlib.Core.List.{List}
use Prim.Native.Nat.{ℕ, zero, suc, ◌+◌, ◌≤◌, ◌<◌}
use native.Mathlib.Omega.{arith}
use denote.Param.Members.{Mut}
use Rattle.std.specs.Fn.{Called}
use Rattle.std.specs.Array.{IsFromFnResultFrom}
use Rattle.std.proofs.Common.{get_or, subst}
use Rattle.std.proofs.lemmas.Bool.{eqb-false}
use lib.Dec.{eqb}
use borrow.Author.Tests.{eqb-true, eq-eqb}
use Rattle.lists.specs.Lists.{some, every}
use Rattle.lists.specs.Every.{every_one, every_of}
use Rattle.kinds.specs.Ranges.{task_good}
use Rattle.rules.specs.Control.{Entry}
use Rattle.rules.specs.Rings.{waits_for, leads_by, tasks_of, tasks_queued, stuck}
use Rattle.laws.specs.ByWay.{by_same}
use Rattle.laws.specs.Grouping.{same_numbers, firsts_all}
use Rattle.laws.specs.OnRing.{waiter_has}
use Rattle.queue.specs.Marking.{marked_by, Marked, marks_are}
use Rattle.queue.specs.declared.marks.Marks.{Marks}
use Rattle.rings.specs.Ways.{way_at, ways_by, down, wide, way_at_lem, none_below}
use Rattle.rings.specs.declared.ways.Ways.{Ways}
use Rattle.rings.proofs.InRange.{good_high}

-- an array that a closure made, place by place
pub made_by : {F B : Type 0} (g : Mut F (ℕ × Unit {0}) B) (test : ℕ → B) (d : B) (ys : List B) (n i : ℕ) (f : F)
    → ((x : ℕ) (y : B) (q : F) → Called g f (x, tt) y q → (q ≡ f) × (y ≡ test x)) → IsFromFnResultFrom g f ys i n
    → (k : ℕ) → i ≤ k → k < i + n → get_or ys k d ≡ test k
made_by g test d ys zero i f h m k low high = absurd (omega arith)
made_by {F} {B} g test d ys (suc n) i f h m k low high =
    let P : F → Type 0 = λ q. IsFromFnResultFrom g q ys (i + 1) n in
    one (eqb k i) refl (made_by g test d ys n (i + 1) f h (subst P (h i m.1 m.0 m.3).0 m.4) k)
  where
    one : (b : Bool) → eqb k i ≡ b → (i + 1 ≤ k → k < i + 1 + n → get_or ys k d ≡ test k) → get_or ys k d ≡ test k
    one true t ih =
        let j : k ≡ i = eqb-true k i t in
        ap (λ (x : ℕ). get_or ys x d) j ∙ m.2.1 d ∙ (h i m.1 m.0 m.3).1 ∙ ap test (sym j)
    one false t ih = let ne : k ≡ i → ⊥ = eqb-false k i t in ih (omega arith) (omega arith)

-- among the numbers of the table
down_has : (a n : ℕ) → a < n → some (eqb a) (down n) ≡ true
down_has a n h = one (some (eqb a) (down n)) refl
  where
    one : (o : Bool) → some (eqb a) (down n) ≡ o → o ≡ true
    one true u = refl
    one false u = sym (none_below (eqb a) n u a h) ∙ eq-eqb a a refl

-- STEPS THAT AGREE ON THE NUMBERS OF THE TABLE lead as far by way of them
leads_alike : (f g : ℕ → ℕ → Bool) → ((a b : ℕ) → a < wide → b < wide → f a b ≡ g a b) → (n : ℕ) → n ≤ wide
    → (a b : ℕ) → a < wide → b < wide → leads_by f (down n) a b ≡ leads_by g (down n) a b
unfolding leads_by
leads_alike f g h zero m a b p q = h a b p q
leads_alike f g h (suc n) m a b p q =
    let l : n ≤ wide = omega arith in
    let k : n < wide = omega arith in
    ap₂ (λ (x y : Bool). x || y) (leads_alike f g h n l a b p q)
    (ap₂ (λ (x y : Bool). x && y) (leads_alike f g h n l a n p k) (leads_alike f g h n l n b k q))

-- THE TABLE OF STEPS, CLOSED, on its diagonal
module _ (q : List Entry) (good : every (λ (e : Entry). task_good e.task) q ≡ true) where
  below : (a b : ℕ) → waits_for q a b ≡ true → a < wide
  below a b h =
      let k =
      good_high a (every_one eqb eqb-true task_good (tasks_of q) a (every_of (λ (e : Entry). e.task) task_good q ∙ good)
      (sym (firsts_all same_numbers a (tasks_of q)) ∙ waiter_has q a b h)) in
      omega arith

  round : (t : ℕ) → t < wide → leads_by (way_at (ways_by (waits_for q))) (down wide) t t ≡ stuck q t
  unfolding stuck
  round t h =
      leads_alike (way_at (ways_by (waits_for q))) (waits_for q) (way_at_lem (waits_for q)) wide (omega arith) t t h h
      ∙ by_same (waits_for q) (down wide) (tasks_queued q) (λ a b k. down_has a wide (below a b k))
      (waiter_has q) t t

  pub ring_marks : (s w : Ways) → s ≡ ways_by (waits_for q) → w ≡ ways_by (leads_by (way_at s) (down wide))
      → (m : Marks) (n : ℕ) → wide ≤ n → Marked (λ (t : ℕ). way_at w t t) n m → m ≡ marked_by (stuck q)
  ring_marks s w d e m n h v =
      marks_are (stuck q) wide m (omega arith)
      (record { long = v.long; each = λ t k. v.each t (omega arith) ∙ at t k })
    where
      at : (t : ℕ) → t < wide → way_at w t t ≡ stuck q t
      at t k =
          ap (λ (x : Ways). way_at x t t) (e ∙ ap (λ (x : Ways). ways_by (leads_by (way_at x) (down wide))) d)
          ∙ way_at_lem (leads_by (way_at (ways_by (waits_for q))) (down wide)) t t k k ∙ round t k
