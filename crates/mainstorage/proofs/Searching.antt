-- A SEARCH among the first n areas of l, try by try, wherever a try that fails goes on.
use mathlib.Core.Path.{◌≡◌, refl, sym, ap, ◌∙◌}
use mathlib.Core.Bool.{true}
use mathlib.Core.List.{List}
use Prim.Native.Nat.{ℕ, zero, ◌+◌, ◌%◌, ◌≤◌, ◌<◌}
use native.Mathlib.Omega.{arith}
use lib.ListN.{length, take}
use borrow.Author.Tests.{le-leb}
use Rattle.lists.specs.Lists.{every}
use Rattle.kinds.specs.Limits.{most_areas, region, doubleword}
use Rattle.kinds.specs.declared.areas.Area.{Area}
use Rattle.std.specs.Prelude.{Some, None}
use Rattle.rules.specs.Storage.{past_end, apart, permitted, placed_at, lowest_from, lowest}
use Rattle.mainstorage.proofs.Passed.{multiples_from, lowest_here, lowest_beyond}

-- BEFORE A TRY at s: the plain search from s on finds what all of it finds
pub record Searching (l : List Area) (n : ℕ) (w : Area) (s : ℕ) : Type 0 where
  pub few : n ≤ most_areas
  pub full : length l ≡ most_areas
  pub aligned : s % doubleword ≡ 0
  pub same : lowest (take n l) w ≡ lowest_from (multiples_from s) (take n l) w s

-- the search begins
pub search_first : (l : List Area) (n : ℕ) (w : Area) → n ≤ most_areas → length l ≡ most_areas → Searching l n w 0
search_first l n w h e = record { few = h; full = e; aligned = refl; same = refl }

module _ {l : List Area} {n : ℕ} {w : Area} {s : ℕ} (h : Searching l n w s) where
  pub none_beyond : (a : Area) (e : ℕ) → a ≡ placed_at w s → e ≡ past_end a → region < e → None ≡ lowest (take n l) w
  none_beyond a e p q k =
      let z : region < s + w.size = omega (arith, ap past_end p) in
      sym (h.same ∙ lowest_beyond (take n l) w (multiples_from s) s z)

  pub none_at_end : region ≤ s → None ≡ lowest (take n l) w
  unfolding lowest_from
  none_at_end k =
      let z : multiples_from s ≡ zero = omega arith in
      sym (h.same ∙ ap (λ (m : ℕ). lowest_from m (take n l) w s) z)

  -- a try that finds nothing in its way
  pub found_at : (a : Area) → s < region → a ≡ placed_at w s → past_end a ≤ region → every (apart a) (take n l) ≡ true
      → Some (record { 0 = s }) ≡ lowest (take n l) w
  unfolding permitted
  found_at a i p e k =
      let q : permitted (take n l) a ≡ true = rw (le-leb _ _ e) k in
      let m : 0 < multiples_from s = omega (arith, h.aligned, i) in
      sym (h.same ∙ lowest_here (take n l) w (multiples_from s) s m (ap (permitted (take n l)) (sym p) ∙ q))
