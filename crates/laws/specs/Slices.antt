-- The places i to j - 1 of a list: one more at their end, and all that stands behind them.
use Rattle.std.specs.Prelude.{◌≡◌, List, [], ◌∷◌, ◌++◌, ℕ, ◌+◌, ◌≤◌, ◌<◌, length, get_or, take, drop}
use Rattle.std.proofs.Common.{sym, ap, ◌∙◌, add-one, arith, take-append-drop, take-suc, length-take-le}
use Rattle.std.proofs.Math.Seq.{slice}
use Rattle.std.proofs.lemmas.List.{drop-append-le}

module _ {A : Type 0} (l : List A) (i j : ℕ) (h : i ≤ j) where
  pub slice_more : (d : A) → j < length l → slice i (j + 1) l ≡ slice i j l ++ (get_or l j d ∷ [])
  slice_more d k =
      rw (add-one) (ap (drop i) (take-suc l j d k)
      ∙ drop-append-le i (take j l) (get_or l j d ∷ []) (omega (arith, length-take-le j l (omega arith))))

  pub slice_rest : j ≤ length l → drop i l ≡ slice i j l ++ drop j l
  slice_rest k =
      ap (drop i) (sym (take-append-drop j l))
      ∙ drop-append-le i (take j l) (drop j l) (omega (arith, length-take-le j l k))
