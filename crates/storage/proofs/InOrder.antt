-- Areas of which each starts above the one before it and is apart from it: a transitive test, whatever their shapes,
-- so neighbours are enough.
use mathlib.Core.Path.{◌≡◌, refl, sym, ◌∙◌}
use mathlib.Core.Bool.{Bool, true, false, ◌&&◌, ◌||◌, or-true, or-false, and-false}
use mathlib.Core.List.{List, [], ◌∷◌}
use Prim.Native.Nat.{ℕ, zero, suc, ◌≤◌, ◌<◌}
use native.Mathlib.Omega.{arith}
use native.Mathlib.Numerals.{add-one}
use lib.Dec.{eqb, leb}
use lib.ListN.{length, get_or}
use Rattle.std.specs.List.{IsAllAdjacentAnswer}
use Rattle.lists.specs.Every.{every_gives}
use borrow.Author.Tests.{leb-true, le-leb, lt-leb, ltb-true, eqb-true}
use Rattle.lists.specs.Lists.{every, pairwise}
use Rattle.lists.specs.Pairs.{Chains}
use Rattle.lists.specs.Bools.{both, join}
use Rattle.kinds.specs.declared.areas.Area.{Area}
use Rattle.rules.specs.Storage.{start_of, past_end, first_page, past_page, one_holder, bytes_apart, pages_apart, apart}
use Rattle.rules.specs.SoundAreas.{areas_rise, areas_apart}
use Rattle.laws.specs.Areas.{rises, rises_chain}

-- b starts above a and is apart from it
abbrev pub after : Area → Area → Bool
after a b = rises a b && apart a b

-- of two that rise, only the first can end before the other starts
apart_upwards : (a b : Area) → start_of a < start_of b
    → apart a b ≡ (leb (past_end a) (start_of b) && (one_holder a b || leb (past_page a) (first_page b)))
unfolding apart bytes_apart pages_apart
apart_upwards a b r =
    let e : start_of a < past_end b = omega arith in
    let p : first_page a < past_page b = omega arith in
    rw (lt-leb (past_end b) (start_of a) e, lt-leb (past_page b) (first_page a) p) (simp or-false)

same_holder : (a b d : Area) → one_holder a b ≡ true → one_holder a d ≡ one_holder b d
unfolding one_holder
same_holder a b d h =
    let p = both (eqb a.owner.0 b.owner.0) (eqb a.subpool b.subpool) h in
    rw (eqb-true a.owner.0 b.owner.0 p.0, eqb-true a.subpool b.subpool p.1)

-- one holder, or one page at or below another: a lower one passes too
or_lower : (t : Bool) (m n k : ℕ) → m ≤ n → (t || leb n k) ≡ true → (t || leb m k) ≡ true
or_lower true m n k h e = refl
or_lower false m n k h e = le-leb m k (omega (arith, leb-true n k e))

module _ (x y z : Area) (past : past_end x ≤ start_of y) (up : start_of y < start_of z) where
  pages_chain : (t : Bool) → one_holder x y ≡ t → (t || leb (past_page x) (first_page y)) ≡ true
      → (one_holder y z || leb (past_page y) (first_page z)) ≡ true
      → (one_holder x z || leb (past_page x) (first_page z)) ≡ true
  pages_chain true e h k =
      rw (same_holder x y z e) (or_lower (one_holder y z) (past_page x) (past_page y) (first_page z) (omega arith) k)
  pages_chain false e h k =
      rw (le-leb (past_page x) (first_page z) (omega (arith, leb-true (past_page x) (first_page y) h)))
      (or-true (one_holder x z))

pub after_chain : Chains after
after_chain x y z h k =
    let p = both (rises x y) (apart x y) h in
    let q = both (rises y z) (apart y z) k in
    let r : start_of x < start_of y = ltb-true (start_of x) (start_of y) p.0 in
    let t : start_of y < start_of z = ltb-true (start_of y) (start_of z) q.0 in
    let b = both (leb (past_end x) (start_of y)) _ (sym (apart_upwards x y r) ∙ p.1) in
    let d = both (leb (past_end y) (start_of z)) _ (sym (apart_upwards y z t) ∙ q.1) in
    let e : past_end x ≤ start_of y = leb-true (past_end x) (start_of y) b.0 in
    join (rises x z) (apart x z) (rises_chain x y z p.0 q.0)
    (apart_upwards x z (omega arith) ∙ join (leb (past_end x) (start_of z)) _
    (le-leb (past_end x) (start_of z) (omega arith)) (pages_chain x y z e t (one_holder x y) refl b.1 d.1))

-- two tests of all pairs are one test of both
module _ {A : Type 0} (p q : A → A → Bool) where
  crossed : (a b c d : Bool) → ((a && b) && (c && d)) ≡ ((a && c) && (b && d))
  crossed true true c d = refl
  crossed true false true d = refl
  crossed true false false d = refl
  crossed false b c d = refl

  every_both : (x : A) (l : List A) → every (λ (y : A). p x y && q x y) l ≡ (every (p x) l && every (q x) l)
  every_both x [] = refl
  every_both x (y ∷ l) = rw (every_both x l) (crossed (p x y) (q x y) (every (p x) l) (every (q x) l))

  pairs_both : (l : List A) → pairwise (λ (x : A) (y : A). p x y && q x y) l ≡ (pairwise p l && pairwise q l)
  pairs_both [] = refl
  pairs_both (x ∷ l) =
      rw (every_both x l, pairs_both l) (crossed (every (p x) l) (every (q x) l) (pairwise p l) (pairwise q l))

pub in_order : (l : List Area) → pairwise after l ≡ (areas_rise l && areas_apart l)
unfolding areas_rise areas_apart
in_order l = pairs_both rises apart l

-- of a transitive test neighbours are enough
module _ {A : Type 0} (p : A → A → Bool) (chain : Chains p) where
  neighbours : (l : List A) → ((k : ℕ) (d : A) → suc k < length l → true ≡ p (get_or l k d) (get_or l (suc k) d))
      → pairwise p l ≡ true
  neighbours [] h = refl
  neighbours (x ∷ []) h = refl
  neighbours (x ∷ y ∷ l) h =
      let e = neighbours (y ∷ l) (λ k d b. h (suc k) d (omega (arith, b))) in
      let f : p x y ≡ true = sym (h 0 x (omega arith)) in
      let g = every_gives (p y) (p x) (λ z. chain x y z f) l (both (every (p y) l) (pairwise p l) e).0 in
      join (every (p x) (y ∷ l)) (pairwise p (y ∷ l)) (join (p x y) (every (p x) l) f g) e

  no_neighbours : (l : List A) (k : ℕ) → suc k < length l → ((d : A) → false ≡ p (get_or l k d) (get_or l (suc k) d))
      → pairwise p l ≡ false
  no_neighbours [] k h e = absurd (omega arith)
  no_neighbours (x ∷ []) k h e = absurd (omega arith)
  no_neighbours (x ∷ y ∷ l) zero h e = rw (sym (e x))
  no_neighbours (x ∷ y ∷ l) (suc k) h e =
      rw (no_neighbours (y ∷ l) k (omega arith) e) (and-false (every (p x) (y ∷ l)))

  pub sorted_pairs : (l : List A) (r : Bool) → IsAllAdjacentAnswer (λ x y b. b ≡ p x y) l r → r ≡ pairwise p l
  sorted_pairs l true h = sym (neighbours l (λ k d b. rw add-one at (h k d (omega arith))))
  sorted_pairs l false h = sym (no_neighbours l h.0 (omega (arith, h.1)) (λ d. rw add-one at (h.2 d)))

pub sorted_in_order : (l : List Area) (r : Bool) → IsAllAdjacentAnswer (λ x y b. b ≡ after x y) l r
    → r ≡ (areas_rise l && areas_apart l)
sorted_in_order l r h = sorted_pairs after after_chain l r h ∙ in_order l
