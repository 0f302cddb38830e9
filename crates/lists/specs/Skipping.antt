-- What is left of a list where the elements with a flag are skipped: by a test, no two alike, along a loop, over map.
use Rattle.std.specs.Prelude.{◌≡◌, refl, Bool, true, false, not, cond, List, [], ◌∷◌, ◌++◌, map, ℕ, ◌+◌, ◌≤◌, ◌<◌, length, get_or, drop}
use Rattle.std.proofs.Common.{sym, ap, ap₂, ◌∙◌, add-one, drop-cons}
use Rattle.std.proofs.lemmas.List.{length-map}
use Rattle.std.proofs.Math.ListN.{get_or-map}
use Rattle.std.proofs.Math.Seq.{slice, slice_empty}
use Rattle.std.proofs.lemmas.Bool.{not-true}
use Rattle.lists.specs.Lists.{some, keep, unskipped, distinct}
use Rattle.lists.specs.Bools.{both, join, or_left, or_right}
use Rattle.lists.specs.Every.{slice_next}

module _ {A : Type 0} where
  other_way : (b : Bool) (x : A) (l m : List A) → l ≡ m → cond b l (x ∷ l) ≡ cond (not b) (x ∷ m) m
  other_way true x l m e = e
  other_way false x l m e = ap {B = List A} (λ r. x ∷ r) e

  -- flags by a test leave what fails it, whatever flags stand behind them
  pub unskipped_flags : (f : A → Bool) (rest : List Bool) (l : List A)
      → unskipped (map f l ++ rest) l ≡ keep (λ (x : A). not (f x)) l
  unskipped_flags f rest [] = refl
  unskipped_flags f rest (x ∷ l) =
      other_way (f x) x (unskipped (map f l ++ rest) l) (keep (λ (y : A). not (f y)) l) (unskipped_flags f rest l)

  -- nothing else comes in
  some_unskipped : (p : A → Bool) (skip : List Bool) (l : List A) → some p l ≡ false → some p (unskipped skip l) ≡ false
  some_unskipped p [] [] e = refl
  some_unskipped p [] (x ∷ l) e = e
  some_unskipped p (b ∷ skip) [] e = refl
  some_unskipped p (b ∷ skip) (x ∷ l) e =
      one b (or_left (p x) (some p l) e) (some_unskipped p skip l (or_right (p x) (some p l) e))
    where
      one : (b : Bool) → p x ≡ false → some p (unskipped skip l) ≡ false
          → some p (cond b (unskipped skip l) (x ∷ unskipped skip l)) ≡ false
      one true u v = v
      one false u v = rw (u, v)

  pub distinct_unskipped : (same : A → A → Bool) (skip : List Bool) (l : List A) → distinct same l ≡ true
      → distinct same (unskipped skip l) ≡ true
  distinct_unskipped same [] [] e = refl
  distinct_unskipped same [] (x ∷ l) e = e
  distinct_unskipped same (b ∷ skip) [] e = refl
  distinct_unskipped same (b ∷ skip) (x ∷ l) e =
      let a = both (not (some (same x) l)) (distinct same l) e in
      one b (some_unskipped (same x) skip l (not-true (some (same x) l) a.0)) (distinct_unskipped same skip l a.1)
    where
      one : (b : Bool) → some (same x) (unskipped skip l) ≡ false → distinct same (unskipped skip l) ≡ true
          → distinct same (cond b (unskipped skip l) (x ∷ unskipped skip l)) ≡ true
      one true u v = v
      one false u v = join (not (some (same x) (unskipped skip l))) (distinct same (unskipped skip l)) (ap not u) v

  -- what is left of the places i to n - 1
  abbrev pub left_from : List Bool → List A → ℕ → ℕ → List A
  left_from skip l i n = unskipped (drop i skip) (slice i n l)

  module _ (skip : List Bool) (l : List A) (i n : ℕ) where
    pub left_next : (d : A) (e : Bool) → i < n → n ≤ length l → i < length skip
        → left_from skip l i n
        ≡ cond (get_or skip i e) (left_from skip l (i + 1) n) (get_or l i d ∷ left_from skip l (i + 1) n)
    left_next d e h k j =
        ap₂ unskipped (drop-cons skip i e j ∙ ap (λ (m : ℕ). get_or skip i e ∷ drop m skip) (sym (add-one i)))
        (slice_next i n l d h k)

    pub left_over : i ≡ n → left_from skip l i n ≡ []
    left_over e = rw e (ap (unskipped (drop n skip)) (slice_empty n l))

module _ {A B : Type 0} (g : A → B) where
  pub unskipped_map : (skip : List Bool) (l : List A) → unskipped skip (map g l) ≡ map g (unskipped skip l)
  unskipped_map [] [] = refl
  unskipped_map [] (x ∷ l) = refl
  unskipped_map (b ∷ skip) [] = refl
  unskipped_map (b ∷ skip) (x ∷ l) = one b (unskipped_map skip l)
    where
      one : (b : Bool) → unskipped skip (map g l) ≡ map g (unskipped skip l)
          → cond b (unskipped skip (map g l)) (g x ∷ unskipped skip (map g l))
          ≡ map g (cond b (unskipped skip l) (x ∷ unskipped skip l))
      one true e = e
      one false e = ap (λ (r : List B). g x ∷ r) e

-- what the places i to n - 1 of an array show, but for the skipped
module _ {A B : Type 0} (view : A → B) (skip : List Bool) (l : List A) (i n : ℕ) where
  pub left_view : (d : A) (e : Bool) → i < n → n ≤ length l → i < length skip
      → left_from skip (map view l) i n
      ≡ cond (get_or skip i e) (left_from skip (map view l) (i + 1) n)
      (view (get_or l i d) ∷ left_from skip (map view l) (i + 1) n)
  left_view d e h k j =
      let rest = left_from skip (map view l) (i + 1) n in
      left_next skip (map view l) i n (view d) e h (rw (length-map l view) k) j
      ∙ ap (λ (b : B). cond (get_or skip i e) rest (b ∷ rest)) (get_or-map view l i d)
