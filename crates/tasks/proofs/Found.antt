-- The number of the first place that passes, where the library finds the place's index.
use Rattle.std.specs.Prelude.{◌≡◌, Bool, true, false, cond, List, [], ◌∷◌, ℕ, ◌+◌, Option, Some, option_map, unwrap_or}
use Rattle.std.specs.List.{position, position_from}
use Rattle.std.proofs.Common.{refl}
use Rattle.std.proofs.lemmas.Iterator.Adapters.{position_from-zero}
use Rattle.lists.specs.Lists.{first_at}

module _ {A : Type 0} (p : A → Bool) where
  from : (i : ℕ) (l : List A) → unwrap_or (option_map (λ k. k + 1) (position_from p i l)) 0 ≡ first_at p (i + 1) l
  from i [] = refl
  from i (x ∷ l) = one (p x) (from (i + 1) l)
    where
      one : (b : Bool) → unwrap_or (option_map (λ k. k + 1) (position_from p (i + 1) l)) 0 ≡ first_at p (i + 1 + 1) l
          → unwrap_or (option_map (λ k. k + 1) (cond b (Some i) (position_from p (i + 1) l))) 0
          ≡ cond b (i + 1) (first_at p (i + 1 + 1) l)
      one true e = refl
      one false e = e

  pub first_found : (l : List A) (r : Option ℕ) → r ≡ position p l
      → unwrap_or (option_map (λ k. k + 1) r) 0 ≡ first_at p 1 l
  first_found l r e = rw (e, position_from-zero p l) (from 0 l)
