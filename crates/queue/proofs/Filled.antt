-- How the loops over the names beside a request fill a table, a place for each name.
use mathlib.Core.Path.{◌≡◌, refl, sym, ap, ◌∙◌}
use mathlib.Core.List.{List, map}
use Prim.Native.Nat.{ℕ, ◌+◌, ◌<◌}
use lib.ListN.{length, get_or, take, set, replicate, length-set, length-replicate}
use Rattle.lists.specs.Tables.{padded}
use Rattle.lists.specs.Filling.{fill_next}
use Rattle.kinds.specs.Limits.{longest_list}

-- the first i elements of a list have filled their places, and the others are zero
pub record Filled {A B : Type 0} (z : B) (f : A → B) (xs : List A) (i : ℕ) (r : List B) : Type 0 where
  pub long : length r ≡ longest_list
  pub full : r ≡ padded longest_list z (map f (take i xs))

module _ {A B : Type 0} (z : B) (f : A → B) (xs : List A) where
  pub none_filled : Filled z f xs 0 (replicate longest_list z)
  unfolding padded
  none_filled = record { long = length-replicate longest_list z; full = refl }

  pub filled_next : (i : ℕ) (d : A) (r : List B) (b : B) → i < longest_list → i < length xs → f (get_or xs i d) ≡ b
      → Filled z f xs i r → Filled z f xs (i + 1) (set r i b)
  filled_next i d r b h k e v = record {
    long = length-set r i b ∙ v.long;
    full = fill_next f longest_list z xs i d r b k h v.full (sym e);
  }

  pub filled_all : (i n : ℕ) (r : List B) → i ≡ n → Filled z f xs i r → r ≡ padded longest_list z (map f (take n xs))
  filled_all i n r e v = v.full ∙ ap (λ (k : ℕ). padded longest_list z (map f (take k xs))) e
