-- The place at which an area goes into a list.
use mathlib.Core.Path.{◌≡◌, refl, sym, ap, ◌∙◌}
use mathlib.Core.Bool.{Bool, true, false, cond}
use mathlib.Core.List.{List, [], ◌∷◌}
use Prim.Native.Nat.{ℕ, suc, ◌+◌, ◌≤◌}
use native.Mathlib.Omega.{arith}
use borrow.Author.Tests.{ltb-false}
use lib.Dec.{ltb}
use lib.ListN.{length}
use Rattle.std.specs.Prelude.{not, position, Some, None}
use Rattle.std.specs.List.{position_or_len}
use Rattle.std.specs.Option.{unwrap_or}
use Rattle.kinds.specs.declared.areas.Area.{Area}
use Rattle.rules.specs.Storage.{start_of, inserted_in}
use Rattle.storage.specs.Changes.{rank_in, inserted_at}

rank_step : (t : Bool) (a b : Area) (l m : List Area) (k : ℕ) → inserted_at k a l ≡ m
    → inserted_at (cond t 0 (suc k)) a (b ∷ l) ≡ cond t (a ∷ b ∷ l) (b ∷ m)
rank_step true a b l m k e = refl
rank_step false a b l m k e = ap {B = List Area} (λ s. b ∷ s) e

-- the insertion in address order is the insertion at the rank
pub inserted_rank : (a : Area) (l : List Area) → inserted_at (rank_in a l) a l ≡ inserted_in a l
unfolding rank_in inserted_in
inserted_rank a [] = refl
inserted_rank a (b ∷ l) =
    rank_step (ltb (start_of a) (start_of b)) a b l (inserted_in a l) (rank_in a l) (inserted_rank a l)

rank_less : (t : Bool) (k n : ℕ) → k ≤ n → cond t 0 (suc k) ≤ suc n
rank_less true k n h = omega arith
rank_less false k n h = omega arith

pub rank_within : (a : Area) (l : List Area) → rank_in a l ≤ length l
unfolding rank_in
rank_within a [] = omega arith
rank_within a (b ∷ l) = rank_less (ltb (start_of a) (start_of b)) (rank_in a l) (length l) (rank_within a l)

rank_prefix : (a : Area) (l : List Area) → rank_in a l ≡ position_or_len (λ (x : Area). ltb (start_of a) (start_of x)) l
unfolding rank_in
rank_prefix a [] = refl
rank_prefix a (b ∷ l) = one (ltb (start_of a) (start_of b)) (rank_prefix a l)
  where
    one : (t : Bool) {m n : ℕ} → m ≡ n → cond t 0 (suc m) ≡ cond (not t) (1 + n) 0
    one true e = refl
    one false e = omega arith

-- it is the place of the first that starts above a, or the place after the last
pub rank_place : (a : Area) (l : List Area) (n : ℕ) → n ≡ length l
    → unwrap_or (position (λ (x : Area). ltb (start_of a) (start_of x)) l) n ≡ rank_in a l
rank_place a l n e = one _ refl (rank_within a l) ∙ sym (rank_prefix a l)
  where
    k : ℕ
    k = position_or_len (λ (x : Area). ltb (start_of a) (start_of x)) l

    one : (b : Bool) → ltb k (length l) ≡ b → rank_in a l ≤ length l → unwrap_or (cond b (Some k) None) n ≡ k
    one true t h = refl
    one false t h = omega (arith, ltb-false k (length l) t, rank_prefix a l)
