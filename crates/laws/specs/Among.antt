-- What stands in a list: by a split, in what is kept, in what is gathered, among numbers.
use Rattle.std.specs.Prelude.{◌≡◌, refl, Bool, true, false, cond, ◌&&◌, ◌||◌, List, [], ◌∷◌, ◌++◌, map, ◌⊎◌, ℕ, zero, suc, ◌+◌, ◌≤◌, ◌<◌, eqb, ltb}
use Rattle.std.proofs.Common.{sym, ap, ap₂, ◌∙◌, inl, inr, arith, eqb-true, eq-eqb, lt-ltb}
use Rattle.std.proofs.Math.Bool.{and-false, or-true}
use Rattle.std.proofs.lemmas.Bool.{false≢true, eqb-false}
use Rattle.std.proofs.lemmas.List.{map-append}
use Rattle.lists.specs.Lists.{every, some, none, keep, pairwise, gathered, numbers}
use Rattle.lists.specs.Bools.{both, join, or_left, or_right, decided, same_test}
use Rattle.lists.specs.Every.{every_append, some_append}
use Rattle.lists.specs.Keeping.{keep_append}

-- a property of each element
abbrev pub Each : {A : Type 0} → (A → Type 0) → List A → Type 0
Each P [] = Unit
Each P (x ∷ l) = P x × Each P l

module _ {A : Type 0} where
  pub each_append : (P : A → Type 0) (p r : List A) → Each P p → Each P r → Each P (p ++ r)
  each_append P [] r h k = k
  each_append P (x ∷ p) r h k = (h.0, each_append P p r h.1 k)

  pub each_at : (P : A → Type 0) (p : List A) (x : A) (r : List A) → Each P (p ++ (x ∷ r)) → P x
  each_at P [] x r h = h.0
  each_at P (y ∷ p) x r h = each_at P p x r h.1

  pub each_keep : (P : A → Type 0) (f : A → Bool) (l : List A) → Each P l → Each P (keep f l)
  each_keep P f [] h = tt
  each_keep P f (x ∷ l) h = one (f x) (each_keep P f l h.1)
    where
      one : (b : Bool) → Each P (keep f l) → Each P (cond b (x ∷ keep f l) (keep f l))
      one true k = (h.0, k)
      one false k = k

  -- BY A SPLIT
  pub every_there : (f : A → Bool) (p : List A) (x : A) (r : List A) → every f (p ++ (x ∷ r)) ≡ true → f x ≡ true
  every_there f p x r h =
      (both (f x) (every f r) (both (every f p) (f x && every f r) (sym (every_append f p (x ∷ r)) ∙ h)).1).0

  pub some_at : (f : A → Bool) (p : List A) (x : A) (r : List A) → f x ≡ true → some f (p ++ (x ∷ r)) ≡ true
  some_at f p x r h = rw (some_append f p (x ∷ r), h) (or-true (some f p))

  -- the first element that passes a test
  pub record FirstThat (f : A → Bool) (l : List A) : Type 0 where
    pub front : List A
    pub one : A
    pub back : List A
    pub split : l ≡ front ++ (one ∷ back)
    pub passes : f one ≡ true
    pub earlier : some f front ≡ false

  pub first_that : (f : A → Bool) (l : List A) → some f l ≡ true → FirstThat f l
  first_that f [] h = absurd (false≢true h)
  first_that f (x ∷ l) h = one (decided (f x)) (first_that f l)
    where
      one : (f x ≡ true) ⊎ (f x ≡ false) → (some f l ≡ true → FirstThat f l) → FirstThat f (x ∷ l)
      one (inl k) ih = record { front = []; one = x; back = l; split = refl; passes = k; earlier = refl }
      one (inr k) ih =
          let s = ih (sym (ap (λ (b : Bool). b || some f l) k) ∙ h) in
          record {
            front = x ∷ s.front;
            one = s.one;
            back = s.back;
            split = ap (λ (r : List A). x ∷ r) s.split;
            passes = s.passes;
            earlier = ap (λ (b : Bool). b || some f s.front) k ∙ s.earlier;
          }

  -- where some pass, there are some
  pub some_there : (f : A → Bool) (l : List A) → some f l ≡ true → none l ≡ false
  some_there f [] h = sym h
  some_there f (x ∷ l) h = refl

  pub some_same : (f g : A → Bool) → ((x : A) → f x ≡ g x) → (l : List A) → some f l ≡ some g l
  some_same f g h [] = refl
  some_same f g h (x ∷ l) = ap₂ ◌||◌ (h x) (some_same f g h l)

  -- a test that asks for no element besides
  pub some_besides : (b : Bool) (f : A → Bool) (l : List A) → some (λ (x : A). b && f x) l ≡ (b && some f l)
  some_besides true f l = refl
  some_besides false f [] = refl
  some_besides false f (x ∷ l) = some_besides false f l

  -- IN WHAT IS KEPT
  pub some_kept : (p f : A → Bool) (l : List A) → some p (keep f l) ≡ some (λ (x : A). f x && p x) l
  some_kept p f [] = refl
  some_kept p f (x ∷ l) = one (f x) (some_kept p f l)
    where
      one : (b : Bool) → some p (keep f l) ≡ some (λ (y : A). f y && p y) l
          → some p (cond b (x ∷ keep f l) (keep f l)) ≡ ((b && p x) || some (λ (y : A). f y && p y) l)
      one true e = ap (λ (c : Bool). p x || c) e
      one false e = e

  pub all_kept : (f : A → Bool) (l : List A) → every f (keep f l) ≡ true
  all_kept f [] = refl
  all_kept f (x ∷ l) = one (f x) refl (all_kept f l)
    where
      one : (b : Bool) → f x ≡ b → every f (keep f l) ≡ true → every f (cond b (x ∷ keep f l) (keep f l)) ≡ true
      one true k e = join (f x) (every f (keep f l)) k e
      one false k e = e

  pub kept_none : (f : A → Bool) (l : List A) → some f l ≡ false → keep f l ≡ []
  kept_none f [] h = refl
  kept_none f (x ∷ l) h = rw (or_left (f x) (some f l) h) (kept_none f l (or_right (f x) (some f l) h))

  pub kept_first : (f : A → Bool) (p : List A) (x : A) (r : List A) → some f p ≡ false → f x ≡ true
      → keep f (p ++ (x ∷ r)) ≡ x ∷ keep f r
  kept_first f p x r h k =
      keep_append f p (x ∷ r) ∙ ap (λ (l : List A). l ++ keep f (x ∷ r)) (kept_none f p h)
      ∙ ap (λ (b : Bool). cond b (x ∷ keep f r) (keep f r)) k

-- IN WHAT IS GATHERED, where a test holds of all that it is gathered from
module _ {A B : Type 0} (p : A → Bool) (f : A → List B) where
  -- one of each, that tells of what
  pub gathered_back : (g : B → A) → ((x : A) → p x ≡ true → map g (f x) ≡ x ∷ []) → (l : List A) → every p l ≡ true
      → map g (gathered f l) ≡ l
  gathered_back g h [] e = refl
  gathered_back g h (x ∷ l) e =
      let b = both (p x) (every p l) e in
      map-append g (f x) (gathered f l) ∙ ap₂ ◌++◌ (h x b.0) (gathered_back g h l b.1)

  pub each_gathered : (P : B → Type 0) → ((x : A) → p x ≡ true → Each P (f x)) → (l : List A) → every p l ≡ true
      → Each P (gathered f l)
  each_gathered P h [] e = tt
  each_gathered P h (x ∷ l) e =
      let b = both (p x) (every p l) e in
      each_append P (f x) (gathered f l) (h x b.0) (each_gathered P h l b.1)

-- a number is another's as that is its own
pub eqb_swap : (a b : ℕ) → eqb a b ≡ eqb b a
eqb_swap a b =
    same_test (eqb a b) (eqb b a) (λ h. eq-eqb b a (sym (eqb-true a b h))) (λ h. eq-eqb a b (sym (eqb-true b a h)))

-- one number, in what is kept
pub number_kept : (a : ℕ) (f : ℕ → Bool) (l : List ℕ) → some (eqb a) (keep f l) ≡ (f a && some (eqb a) l)
number_kept a f l =
    some_kept (eqb a) f l
    ∙ some_same (λ (x : ℕ). f x && eqb a x) (λ (x : ℕ). f a && eqb a x) (λ x. one x (eqb a x) refl) l
    ∙ some_besides (f a) (eqb a) l
  where
    one : (x : ℕ) (b : Bool) → eqb a x ≡ b → (f x && b) ≡ (f a && b)
    one x true e = ap (λ (y : ℕ). f y && true) (sym (eqb-true a x e))
    one x false e = and-false (f x) ∙ sym (and-false (f a))

-- AMONG NUMBERS
pub numbers_has : (a n k : ℕ) → n ≤ a → a < n + k → some (eqb a) (numbers n k) ≡ true
numbers_has a n zero h l = absurd (omega arith)
numbers_has a n (suc k) h l = one (decided (eqb a n)) (numbers_has a (n + 1) k)
  where
    one : (eqb a n ≡ true) ⊎ (eqb a n ≡ false)
        → (n + 1 ≤ a → a < (n + 1) + k → some (eqb a) (numbers (n + 1) k) ≡ true)
        → (eqb a n || some (eqb a) (numbers (n + 1) k)) ≡ true
    one (inl e) ih = rw e
    one (inr e) ih =
        let d : a ≡ n → ⊥ = eqb-false a n e in
        let m : n < a = more d in
        rw (ih (omega arith) (omega arith)) (or-true (eqb a n))
      where
        more : (a ≡ n → ⊥) → n < a
        more d = omega arith

numbers_above : (m n k : ℕ) → m < n → every (ltb m) (numbers n k) ≡ true
numbers_above m n zero h = refl
numbers_above m n (suc k) h =
    join (ltb m n) (every (ltb m) (numbers (n + 1) k)) (lt-ltb m n h) (numbers_above m (n + 1) k (omega arith))

pub numbers_rise : (n k : ℕ) → pairwise ltb (numbers n k) ≡ true
numbers_rise n zero = refl
numbers_rise n (suc k) =
    join (every (ltb n) (numbers (n + 1) k)) (pairwise ltb (numbers (n + 1) k))
    (numbers_above n (n + 1) k (omega arith)) (numbers_rise (n + 1) k)
