-- What stands in a list: its elements, those of its front, and what a change makes of them.
use Rattle.std.specs.Prelude.{◌≡◌, refl, Bool, true, false, not, cond, Option, Some, None, ◌||◌, List, [], ◌∷◌, map, ℕ, zero, suc, ◌+◌, ◌≤◌, ◌<◌, eqb, ltb, length, get_or, take}
use Rattle.std.proofs.Common.{sym, ap, ap₂, ◌∙◌, arith, get_or-take, length-take-le, eqb-true, eq-eqb, ne_eqb, ltb-true, ltb-false}
use Rattle.std.specs.List.{position, position_or_len}
use Rattle.std.proofs.lemmas.List.Quantifiers.{position-Some}
use Rattle.std.proofs.Math.Bool.{or-true}
use Rattle.lists.specs.Lists.{every, some}
use Rattle.lists.specs.Bools.{both, join, same_test}
use Rattle.lists.specs.Every.{every_gives, every_one, every_of}
use Rattle.lists.specs.Setting.{every_at_lem}

-- one of two tests holds where the second does
pub or_late : (a b : Bool) → b ≡ true → (a || b) ≡ true
or_late a b h = rw h (or-true a)

module _ {A : Type 0} where
  -- each element of a list stands in it
  all_in : (same : A → A → Bool) → ((x : A) → same x x ≡ true) → (l : List A)
      → every (λ (x : A). some (same x) l) l ≡ true
  all_in same itself [] = refl
  all_in same itself (x ∷ l) =
      join (some (same x) (x ∷ l)) _ (rw (itself x))
      (every_gives (λ (y : A). some (same y) l) (λ (y : A). some (same y) (x ∷ l))
      (λ y h. or_late (same y x) (some (same y) l) h) l (all_in same itself l))

  -- what holds of every element holds of every one of the front
  pub every_front : (f : A → Bool) (k : ℕ) (l : List A) → every f l ≡ true → every f (take k l) ≡ true
  every_front f zero l h = refl
  every_front f (suc k) [] h = refl
  every_front f (suc k) (x ∷ l) h =
      let b = both (f x) (every f l) h in join (f x) _ b.0 (every_front f k l b.1)

  -- and what holds of every one of the front holds of each
  pub front_at : (f : A → Bool) (l : List A) (n i : ℕ) (d : A) → every f (take n l) ≡ true → i < n → n ≤ length l
      → f (get_or l i d) ≡ true
  front_at f l n i d h k m =
      rw (get_or-take n l i d k) at (every_at_lem f (take n l) i d h (omega (arith, length-take-le n l m)))

-- each number of a list stands in it
pub numbers_in : (os : List ℕ) → every (λ (o : ℕ). some (eqb o) os) os ≡ true
numbers_in os = all_in eqb (λ o. eq-eqb o o refl) os

-- a test that finds no place holds of no element
never_found : (p : ℕ → Bool) (os : List ℕ) → length os ≤ position_or_len p os → some p os ≡ false
never_found p [] h = refl
never_found p (x ∷ os) h = one (p x) (never_found p os) h
  where
    one : (b : Bool) → (length os ≤ position_or_len p os → some p os ≡ false)
        → suc (length os) ≤ cond (not b) (1 + position_or_len p os) 0 → (b || some p os) ≡ false
    one true f k = absurd (omega arith)
    one false f k = f (omega arith)

-- whether it is there, asked the other way round
pub turned : (o : ℕ) (os : List ℕ) → some (λ (x : ℕ). eqb x o) os ≡ some (eqb o) os
turned o [] = refl
turned o (x ∷ os) =
    ap₂ ◌||◌
    (same_test (eqb x o) (eqb o x) (λ e. eq-eqb o x (sym (eqb-true x o e))) (λ e. eq-eqb x o (sym (eqb-true o x e))))
    (turned o os)

-- the place of the first of n numbers that is o, if any is
pub record FirstOf (os : List ℕ) (n o : ℕ) (r : Option ℕ) : Type 0 where
  pub is : r ≡ position (eqb o) (take n os)

-- a first one is there
module _ {os : List ℕ} {n o j : ℕ} (f : FirstOf os n o (Some j)) where
  pub first_found : (j < length (take n os)) × (get_or (take n os) j 0 ≡ o)
  first_found =
      let p = position-Some (eqb o) (take n os) j 0 (sym f.is) in (p.0, sym (eqb-true o (get_or (take n os) j 0) p.1))

  pub first_there : some (eqb o) (take n os) ≡ true
  first_there =
      ap (λ (x : ℕ). some (eqb x) (take n os)) (sym first_found.1)
      ∙ every_at_lem (λ (x : ℕ). some (eqb x) (take n os)) (take n os) j 0 (numbers_in (take n os)) first_found.0

-- without a first one there is none
pub first_none : {os : List ℕ} {n o : ℕ} → FirstOf os n o None → some (eqb o) (take n os) ≡ false
first_none {os} {n} {o} f = one (ltb (position_or_len (eqb o) (take n os)) (length (take n os))) refl f.is
  where
    one : (b : Bool) → ltb (position_or_len (eqb o) (take n os)) (length (take n os)) ≡ b
        → None ≡ cond b (Some (position_or_len (eqb o) (take n os))) None → some (eqb o) (take n os) ≡ false
    one true e k = cc
    one false e k = never_found (eqb o) (take n os) (ltb-false _ _ e)

module _ {A B : Type 0} where
  -- two changes that agree on all that is there make one list
  pub map_among : (p : A → Bool) (f g : A → B) → ((x : A) → p x ≡ true → f x ≡ g x) → (l : List A) → every p l ≡ true
      → map f l ≡ map g l
  map_among p f g h [] e = refl
  map_among p f g h (x ∷ l) e =
      let b = both (p x) (every p l) e in
      ap₂ (λ (y : B) (r : List B). y ∷ r) (h x b.0) (map_among p f g h l b.1)

  -- what is there, changed, is among what all become
  pub changed_in : (same : A → A → Bool) → ((x y : A) → same x y ≡ true → x ≡ y) → (then : B → B → Bool)
      → ((y : B) → then y y ≡ true) → (f : A → B) (l : List A) (x : A) → some (same x) l ≡ true
      → some (then (f x)) (map f l) ≡ true
  changed_in same eq then itself f l x h =
      every_one same eq (λ (z : A). some (then (f z)) (map f l)) l x
      (sym (every_of f (λ (y : B). some (then y) (map f l)) l) ∙ all_in then itself (map f l)) h

-- a change that leaves a list leaves each number that is there
pub one_stays : (f : ℕ → ℕ) (os : List ℕ) (o : ℕ) → os ≡ map f os → some (eqb o) os ≡ true → f o ≡ o
one_stays f os o e h =
    eqb-true (f o) o (every_one eqb eqb-true (λ (x : ℕ). eqb (f x) x) os o (each os e) h)
  where
    each : (l : List ℕ) → l ≡ map f l → every (λ (x : ℕ). eqb (f x) x) l ≡ true
    each [] k = refl
    each (x ∷ l) k = join (eqb (f x) x) _ (eq-eqb (f x) x (cc)) (each l (cc))

-- every number is below that one
abbrev pub all_below : ℕ → List ℕ → Bool
all_below at os = every (λ (o : ℕ). ltb o at) os

-- which is then none of them
pub below_out : (at : ℕ) (os : List ℕ) → all_below at os ≡ true → some (eqb at) os ≡ false
below_out at [] h = refl
below_out at (x ∷ os) h =
    let b = both (ltb x at) (all_below at os) h in
    let l : x < at = ltb-true x at b.0 in
    rw (ne_eqb at x (λ e. omega arith)) (below_out at os b.1)
