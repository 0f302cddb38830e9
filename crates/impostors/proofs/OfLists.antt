-- Wrong answers that the contracts of `lists` rule out.
use Prim.Native.Nat.{ℕ}
use mathlib.Core.Path.{refl}
use mathlib.Core.Bool.{not, ◌&&◌}
use mathlib.Core.List.{List, [], ◌∷◌}
use lib.Dec.{eqb}
use lib.ListN.{length, take, drop}
use denote.Ref.{Bor}
use Rattle.lists.specs.Lists.{same_bytes}
use Rattle.lists.proofs.same_bytes.Reads as same_bytes_fn
use Rattle.impostors.specs.Fitting.{◌⊗◌, fits_end, fits_lent}
use Rattle.impostors.specs.Wrong.{RuledOut, wrong_at}
use Rattle.impostors.specs.Parts.{lent}

-- two byte strings, lent
abbrev two : List ℕ → List ℕ → Bor (List ℕ) × (Bor (List ℕ) × Unit {0})
two l m = (lent l, (lent m, tt))

-- the first bytes are not compared: 1 2 and 3 2 are the same
pub same_bytes_first_not_compared : RuledOut (λ k. fits_lent ⊗ fits_lent ⊗ fits_end) same_bytes_fn.Pre same_bytes_fn.Post
    (λ k a. eqb (length a.0.now) (length a.1.0.now) && same_bytes (drop 1 a.0.now) (drop 1 a.1.0.now))
same_bytes_first_not_compared = wrong_at ([], ([], tt)) (two (1 ∷ 2 ∷ []) (3 ∷ 2 ∷ [])) refl tt (λ b. b) refl refl

-- the lengths are not compared: 1 and 1 2, which begins with it, are the same
pub same_bytes_a_longer_one : RuledOut (λ k. fits_lent ⊗ fits_lent ⊗ fits_end) same_bytes_fn.Pre same_bytes_fn.Post
    (λ k a. same_bytes (take (length a.1.0.now) a.0.now) (take (length a.0.now) a.1.0.now))
same_bytes_a_longer_one = wrong_at ([], ([], tt)) (two (1 ∷ []) (1 ∷ 2 ∷ [])) refl tt (λ b. b) refl refl

-- two strings without bytes are not the same
pub same_bytes_empty_ones_differ : RuledOut (λ k. fits_lent ⊗ fits_lent ⊗ fits_end) same_bytes_fn.Pre same_bytes_fn.Post
    (λ k a. not (eqb (length a.0.now) 0) && same_bytes a.0.now a.1.0.now)
same_bytes_empty_ones_differ = wrong_at ([], ([], tt)) (two [] []) refl tt not refl refl
