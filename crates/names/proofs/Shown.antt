-- Laws of the bytes that are shown, and of the comparison of two names.
use mathlib.Core.Path.{◌≡◌, refl, sym, ap, ◌∙◌}
use mathlib.Core.Bool.{Bool, true, false, ◌&&◌, and-false}
use mathlib.Core.List.{List, [], ◌∷◌, ◌++◌}
use Prim.Native.Nat.{ℕ, zero, suc, min, ◌≤◌}
use native.Mathlib.Nat.{zero-min, min-zero, suc-min-suc}
use native.Mathlib.Omega.{arith}
use lib.Dec.{eqb}
use lib.ListN.{length, take, replicate, length-take, length-append, length-replicate}
use lib.Seq.{take-append-le}
use borrow.Author.Tests.{eq-eqb}
use Rattle.lists.specs.Lists.{same_bytes}
use Rattle.lists.specs.Bytes.{same_lengths}
use Rattle.kinds.specs.Limits.{longest_minor, major_bytes}
use Rattle.kinds.specs.Ranges.{minor_good}
use Rattle.kinds.specs.declared.names.Name.{Name}
use Rattle.rules.specs.Names.{same_name, legal}
use Rattle.names.specs.Named.{shown, resource_of}

pub shown_length : (n : ℕ) (l : List ℕ) → length (shown n l) ≡ n
unfolding shown
shown_length n l = rw (length-take, length-append, length-replicate) (omega arith)

-- where all the bytes are there
pub shown_within : (n : ℕ) (l : List ℕ) → n ≤ length l → shown n l ≡ take n l
unfolding shown
shown_within n l h = take-append-le n l (replicate n 0) h

same_self : (l : List ℕ) → same_bytes l l ≡ true
same_self [] = refl
same_self (x ∷ l) = rw (eq-eqb x x refl) (same_self l)

-- what follows two lists of one length is the same, and need not be compared
same_front : (n : ℕ) (a b r : List ℕ) → length a ≡ length b
    → same_bytes (take (min n (length a)) a) (take (min n (length a)) b) ≡ same_bytes (take n (a ++ r)) (take n (b ++ r))
same_front zero a b r h = rw zero-min
same_front (suc n) [] [] r h = rw min-zero (sym (same_self (take (suc n) r)))
same_front (suc n) [] (y ∷ b) r h = absurd (omega arith)
same_front (suc n) (x ∷ a) [] r h = absurd (omega arith)
same_front (suc n) (x ∷ a) (y ∷ b) r h =
    let k : length a ≡ length b = omega arith in
    rw suc-min-suc (ap (λ (t : Bool). eqb x y && t) (same_front n a b r k))

pub differ : (a b : Name) → (a.length ≡ b.length → ⊥) → false ≡ same_name (resource_of a) (resource_of b)
differ a b h =
    sym (ap (λ (t : Bool). same_bytes a.major b.major && t)
    (same_lengths (shown a.length a.minor) (shown b.length b.minor)
    (λ e. h (sym (shown_length a.length a.minor) ∙ e ∙ shown_length b.length b.minor)))
    ∙ and-false (same_bytes a.major b.major))

-- the same, where the lengths are one: only the bytes that are there are compared
pub minors : (a b : Name) (k : ℕ) → a.length ≡ b.length → length a.minor ≡ longest_minor
    → length b.minor ≡ longest_minor → k ≡ min a.length longest_minor
    → same_name (resource_of a) (resource_of b)
    ≡ (same_bytes a.major b.major && same_bytes (take k a.minor) (take k b.minor))
unfolding shown
minors a b k e u v w =
    ap (λ (t : Bool). same_bytes a.major b.major && t)
    (sym (ap (λ (j : ℕ). same_bytes (take j a.minor) (take j b.minor)) (w ∙ ap (min a.length) (sym u))
    ∙ same_front a.length a.minor b.minor (replicate a.length 0) (u ∙ sym v)
    ∙ ap (λ (n : ℕ). same_bytes (shown a.length a.minor) (take n (b.minor ++ replicate n 0))) e))

pub legal_is : (n : Name) (r : Bool) → length n.major ≡ major_bytes → r ≡ minor_good n.length
    → r ≡ legal (resource_of n)
unfolding legal
legal_is n r h e = rw (eq-eqb _ _ h) (e ∙ ap minor_good (sym (shown_length n.length n.minor)))
