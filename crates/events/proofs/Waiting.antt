-- What a number tells of its ECB, and wait bits set one listed ECB after another.
use mathlib.Core.Path.{◌≡◌, refl, ap, ◌∙◌}
use mathlib.Core.Bool.{Bool, true, false, not, ◌&&◌, ◌||◌, or-true, or-false}
use mathlib.Core.List.{List, [], ◌∷◌, ◌++◌}
use Prim.Native.Nat.{ℕ, ◌+◌, ◌≤◌, ◌<◌}
use native.Mathlib.Omega.{arith}
use lib.Dec.{eqb}
use lib.ListN.{length, get_or, set}
use borrow.Author.Tests.{eq-eqb, ne_eqb}
use Rattle.lists.specs.Pick.{pick}
use Rattle.lists.specs.Lists.{some, map_at}
use Rattle.lists.specs.Every.{some_append}
use Rattle.lists.specs.Numbered.{map_at_at, map_at_same, map_at_set}
use Rattle.kinds.specs.Limits.{all_ecbs}
use Rattle.kinds.specs.Ecbs.{no_ecb}
use Rattle.kinds.specs.declared.ecbs.Ecb.{Ecb}
use Rattle.rules.specs.Events.{Ecbs, ecb_at, wait_bit, with_waiter}
use Rattle.rules.specs.Wait.{wait_set}
use Rattle.events.specs.Waits.{waited_by}

-- of the ECB that a number names
abbrev pub waited_at : List Ecb → ℕ → Bool
waited_at es n = wait_bit (ecb_at es n)

abbrev pub complete_at : List Ecb → ℕ → Bool
complete_at es n = (ecb_at es n).complete

-- the ECBs with these numbers, in a list with this count
abbrev pub those : ℕ → List ℕ → Ecbs
those n ms = record { count = n; ecbs = ms }

pub none_waited : (c n : ℕ) (k : ℕ) (es : List Ecb) → es ≡ map_at (wait_set c (those n [])) k es
unfolding wait_set pick
none_waited c n k [] = refl
none_waited c n k (x ∷ es) = ap (λ (r : List Ecb). x ∷ r) (none_waited c n (k + 1) es)

-- an ECB that is listed again is as it was
again : (c : ℕ) (x : Ecb) (b s : Bool) → x.complete ≡ b
    → waited_by c (pick (s && not b) (with_waiter x c) x) ≡ pick (not b) (with_waiter x c) x
unfolding waited_by pick
again c x true true e = rw e
again c x true false e = rw e
again c x false true e = rw e
again c x false false e = rw e

-- one ECB more, of number m
module _ (c n : ℕ) (ms : List ℕ) (m : ℕ) where
  listed_too : (k : ℕ) (b : Bool) → eqb k m ≡ b → some (eqb k) (ms ++ (m ∷ [])) ≡ (some (eqb k) ms || b)
  listed_too k b e = some_append (eqb k) ms (m ∷ []) ∙ rw (e, or-false)

  others : (k : ℕ) (x : Ecb) → (k ≡ m → ⊥) → wait_set c (those n ms) k x ≡ wait_set c (those n (ms ++ (m ∷ []))) k x
  unfolding wait_set
  others k x ne = rw (listed_too k false (ne_eqb k m ne), or-false)

  this_one : (x : Ecb)
      → waited_by c (wait_set c (those n ms) m x) ≡ wait_set c (those n (ms ++ (m ∷ []))) m x
  unfolding wait_set
  this_one x = rw (listed_too m true (eq-eqb m m refl), or-true) (again c x x.complete (some (eqb m) ms) refl)

  -- t is what the ECBs es have come to
  module _ (es t : List Ecb) (v : t ≡ map_at (wait_set c (those n ms)) 0 es) (long : length es ≡ all_ecbs) where
    pub waited_here : (y : Ecb) → m < all_ecbs → y ≡ waited_by c (get_or t m no_ecb)
        → set t m y ≡ map_at (wait_set c (those n (ms ++ (m ∷ [])))) 0 es
    waited_here y k w =
        let o : 0 + m ≡ m = omega arith in
        ap (λ (r : List Ecb). set r m y) v
        ∙ map_at_set (wait_set c (those n ms)) (wait_set c (those n (ms ++ (m ∷ [])))) 0 m es no_ecb y (omega arith)
        (λ j u ne. others j u (λ (q : j ≡ m). ne (omega arith)))
        (w
        ∙ ap (λ (r : List Ecb). waited_by c (get_or r m no_ecb)) v
        ∙ ap (waited_by c) (map_at_at (wait_set c (those n ms)) 0 es no_ecb m (omega arith))
        ∙ rw o (this_one (get_or es m no_ecb)))

    pub waited_past : all_ecbs ≤ m → t ≡ map_at (wait_set c (those n (ms ++ (m ∷ [])))) 0 es
    waited_past k =
        v
        ∙ map_at_same (wait_set c (those n ms)) (wait_set c (those n (ms ++ (m ∷ [])))) 0 es
        (λ j u a b. others j u (λ (q : j ≡ m). omega arith))
