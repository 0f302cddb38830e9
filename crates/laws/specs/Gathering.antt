-- What comes of each element of a list, one after the other.
use Rattle.std.specs.Prelude.{◌≡◌, refl, Bool, true, false, cond, List, [], ◌∷◌, ◌++◌, ℕ, ◌+◌, ◌*◌, ◌≤◌, ◌<◌, length, get_or, take}
use Rattle.std.proofs.Common.{sym, ap, ap₂, ◌∙◌, append_assoc, append-nil, arith, add_comm, mul-suc, mul-zero, length-append}
use Rattle.lists.specs.Lists.{keep, gathered}
use Rattle.lists.specs.Keeping.{keep_next}

module _ {A B : Type 0} (f : A → List B) where
  pub gathered_append : (l m : List A) → gathered f (l ++ m) ≡ gathered f l ++ gathered f m
  gathered_append [] m = refl
  gathered_append (x ∷ l) m =
      ap (λ (r : List B). f x ++ r) (gathered_append l m) ∙ sym (append_assoc (f x) (gathered f l) (gathered f m))

  -- one element more
  pub gathered_next : (l : List A) (x : A) → gathered f (l ++ (x ∷ [])) ≡ gathered f l ++ f x
  gathered_next l x = gathered_append l (x ∷ []) ∙ ap (λ (r : List B). gathered f l ++ r) (append-nil (f x))

  -- a loop over those of a list that pass a test: one element more, which passes or does not
  pub gathered_kept : (p : A → Bool) (i : ℕ) (l : List A) (d : A) → i < length l
      → gathered f (keep p (take (i + 1) l))
      ≡ gathered f (keep p (take i l)) ++ cond (p (get_or l i d)) (f (get_or l i d)) []
  gathered_kept p i l d h =
      ap (gathered f) (keep_next p i l d (p (get_or l i d)) h refl)
      ∙ gathered_append (keep p (take i l)) (cond (p (get_or l i d)) (get_or l i d ∷ []) [])
      ∙ ap (λ (r : List B). gathered f (keep p (take i l)) ++ r) (one (p (get_or l i d)))
    where
      one : (b : Bool) → gathered f (cond b (get_or l i d ∷ []) []) ≡ cond b (f (get_or l i d)) []
      one true = append-nil (f (get_or l i d))
      one false = refl

  -- where one comes of each at most
  pub gathered_few : ((x : A) → length (f x) ≤ 1) → (l : List A) → length (gathered f l) ≤ length l
  gathered_few h [] = omega arith
  gathered_few h (x ∷ l) = omega (arith, length-append (f x) (gathered f l), h x, gathered_few h l)

  -- where k come of each
  pub gathered_long : (k : ℕ) → ((x : A) → length (f x) ≡ k) → (l : List A) → length (gathered f l) ≡ k * length l
  gathered_long k h [] = sym (mul-zero k)
  gathered_long k h (x ∷ l) =
      length-append (f x) (gathered f l)
      ∙ ap₂ (λ (a b : ℕ). a + b) (h x) (gathered_long k h l)
      ∙ add_comm k (k * length l)
      ∙ sym (mul-suc k (length l))
