-- THE SEARCH THAT JUMPS by the code's rule is the rules' search, with the code's tries and with one try more than there
-- are areas: no area stands in the way twice.
use Prim.Native.Nat.{ℕ, zero, suc, ◌+◌, ◌%◌, ◌≤◌, ◌<◌}
use mathlib.Core.Path.{◌≡◌, refl, sym, ap, ◌∙◌}
use mathlib.Core.Bool.{Bool, true, false, not, cond, ◌||◌}
use mathlib.Core.List.{List, [], ◌∷◌}
use native.Mathlib.Omega.{arith}
use lib.Dec.{leb, ltb}
use lib.ListN.{length}
use borrow.Author.Tests.{leb-true, leb-false, ltb-true, ltb-false, le-leb}
use Rattle.lists.specs.Lists.{every, how_many}
use Rattle.lists.specs.Bools.{both, join}
use Rattle.lists.specs.Setting.{how_many_few}
use Rattle.kinds.specs.Limits.{region, doubleword, most_areas}
use Rattle.kinds.specs.declared.areas.Area.{Area}
use Rattle.std.specs.Prelude.{Option, Some, None}
use Rattle.kinds.specs.declared.numbers.Address.{Address}
use Rattle.rules.specs.Storage.{apart, permitted, placed_at, lowest_from, lowest}
use Rattle.mainstorage.specs.OneOf.{OneOf}
use Rattle.mainstorage.specs.Tries.{most_tries, tries_left, tries_few, tries_over, above, marks_fall}
use Rattle.mainstorage.proofs.Passed.{multiples_from, lowest_here, lowest_beyond}
use Rattle.mainstorage.proofs.Jumps.{Jumped, jumped}
use Rattle.mainstorage.specs.Jumping.{of_first, in_way, jumping, past}

-- a further element changes nothing of what is one
one_more : {l : List Area} {x : Area} (y : Area) → OneOf l x → OneOf (y ∷ l) x
one_more {l} y h = record { passes = λ f u. h.passes f (both (f y) (every f l) u).1 }

-- P holds of what comes of the first that is in the way, or of none
first_told : (P : Option Address → Type 0) (w : Area) (s : ℕ) (g : Area → Option Address) (d : Option Address) (l : List Area)
    → ((x : Area) → OneOf l x → apart (placed_at w s) x ≡ false → P (g x))
    → (every (apart (placed_at w s)) l ≡ true → P d)
    → P (of_first (in_way w s) g d l)
first_told P w s g d [] h k = k refl
first_told P w s g d (y ∷ l) h k =
    one (apart (placed_at w s) y) refl
    (first_told P w s g d l (λ x o e. h x (one_more y o) e))
  where
    one : (b : Bool) → apart (placed_at w s) y ≡ b
        → ((every (apart (placed_at w s)) l ≡ true → P d) → P (of_first (in_way w s) g d l))
        → P (cond (not b) (g y) (of_first (in_way w s) g d l))
    one false e ih = h y (record { passes = λ f u. (both (f y) (every f l) u).0 }) e
    one true e ih = ih (λ u. k (join (apart (placed_at w s) y) (every (apart (placed_at w s)) l) e u))

-- ONE TRY at s, and the jumps after it
module _ (l : List Area) (w : Area) where
  -- the plain search from s on finds the same
  abbrev Same : ℕ → Option Address → Type 0
  Same s p = p ≡ lowest_from (multiples_from s) l w s

  at_end : (s : ℕ) → region ≤ s → Same s None
  unfolding lowest_from
  at_end s h = let z : 0 ≡ multiples_from s = omega arith in ap (λ (n : ℕ). lowest_from n l w s) z

  here : (s : ℕ) → s % doubleword ≡ 0 → s < region → s + w.size ≤ region
      → every (apart (placed_at w s)) l ≡ true → Same s (Some (record { 0 = s }))
  unfolding permitted
  here s e i q u = sym (lowest_here l w (multiples_from s) s (omega arith) (rw (le-leb (s + w.size) region q) u))

  try : (tries s : ℕ) → s % doubleword ≡ 0
      → ((x : Area) → OneOf l x → Jumped l w s (past w x) → Same (past w x) (jumping past tries l w (past w x)))
      → Same s (jumping past (suc tries) l w s)
  try tries s e f = one (leb region s) (ltb region (s + w.size)) refl refl
    where
      one : (a b : Bool) → leb region s ≡ a → ltb region (s + w.size) ≡ b
          → Same s
          (cond (a || b) None
          (of_first (in_way w s) (λ x. jumping past tries l w (past w x)) (Some (record { 0 = s })) l))
      one true b p q = at_end s (leb-true region s p)
      one false true p q = sym (lowest_beyond l w (multiples_from s) s (ltb-true region (s + w.size) q))
      one false false p q =
          let i = leb-false region s p in
          first_told (Same s) w s (λ x. jumping past tries l w (past w x)) (Some (record { 0 = s })) l
          (λ x o u. let j = jumped o w s (past w x) e i u refl in f x o j ∙ sym j.same)
          (here s e i (ltb-false region (s + w.size) q))

  -- what is left falls with each jump, and where nothing is left the search is over
  module _ (left : ℕ → ℕ) (over : (s : ℕ) → left s ≤ 0 → region ≤ s)
      (falls : (s : ℕ) (x : Area) → OneOf l x → Jumped l w s (past w x) → left (past w x) < left s)
    where
      from : (tries s : ℕ) → s % doubleword ≡ 0 → left s ≤ tries → Same s (jumping past tries l w s)
      from zero s e k = at_end s (over s k)
      from (suc tries) s e k =
          try tries s e (λ x o j. from tries (past w x) j.aligned (omega (arith, falls s x o j)))

  -- with the code's tries
  pub enough : length l ≤ most_areas → jumping past most_tries l w 0 ≡ lowest l w
  enough h = from (tries_left l) (tries_over l) (λ s x o j. j.fewer) most_tries 0 refl (tries_few l h)

  -- with one try more than there are areas: what a jump has passed it does not meet again
  pub areas_and_one : jumping past (suc (length l)) l w 0 ≡ lowest l w
  areas_and_one =
      from (λ (s : ℕ). suc (how_many (above (past w) s) l)) (λ s h. absurd (omega arith))
      (λ s x o j. omega (arith, marks_fall (past w) l s (past w x) j.further o refl)) (suc (length l)) 0 refl
      (omega (arith, how_many_few (above (past w) 0) l))
