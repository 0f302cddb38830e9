-- The numbers that a list of ECBs shows, and the ECBs that have them.
use Rattle.std.proofs.Common.{◌≡◌, refl, sym, ap, ◌∙◌, Bool, not, ◌&&◌, eqb, ℕ, ◌+◌, ◌<◌}
use Rattle.std.proofs.Common.{List, [], ◌∷◌, ◌++◌, map, take, length, get_or, take-suc, add-one}
use mathlib.Core.List.{map-append}
use Rattle.std.specs.List.{list_any}
use Rattle.lists.specs.Lists.{some, how_many, distinct}
use Rattle.lists.specs.Keeping.{take_map}
use Rattle.laws.specs.Among.{eqb_swap}
use Rattle.kinds.specs.declared.numbers.EcbNumber.{EcbNumber}

abbrev pub number : EcbNumber → ℕ
number e = e.0

counted_of : (f : ℕ → Bool) (l : List EcbNumber) → how_many (λ (e : EcbNumber). f e.0) l ≡ how_many f (map number l)
counted_of f [] = refl
counted_of f (e ∷ l) = rw (counted_of f l) refl

-- so many of the first n pass a test of their numbers
pub counted_shown : (f : ℕ → Bool) (n : ℕ) (l : List EcbNumber)
    → how_many (λ (e : EcbNumber). f e.0) (take n l) ≡ how_many f (take n (map number l))
counted_shown f n l = counted_of f (take n l) ∙ sym (ap (how_many f) (take_map number n l))

-- whether the number m stands among those of l
pub again_shown : (m : EcbNumber) (l : List EcbNumber)
    → list_any (λ (e : EcbNumber). eqb e.0 m.0) l ≡ some (eqb m.0) (map number l)
again_shown m [] = refl
again_shown m (e ∷ l) = rw (eqb_swap e.0 m.0, again_shown m l) refl

-- the first of the numbers left to look at, and whether it stands behind its place
pub once_more : {rest behind : List EcbNumber} (m : EcbNumber) (b : Bool) → rest ≡ m ∷ behind
    → b ≡ list_any (λ (e : EcbNumber). eqb e.0 m.0) behind
    → distinct eqb (map number rest) ≡ (not b && distinct eqb (map number behind))
once_more {rest} {behind} m b e h = rw (e, h, again_shown m behind) refl

-- the numbers of one more of an array's elements
pub next_shown : (l : List EcbNumber) (i : ℕ) (d : EcbNumber) → i < length l
    → map number (take i l) ++ ((get_or l i d).0 ∷ []) ≡ map number (take (i + 1) l)
next_shown l i d h =
    sym (ap (map number) (rw (add-one) (take-suc l i d h)) ∙ map-append number (take i l) (get_or l i d ∷ []))
