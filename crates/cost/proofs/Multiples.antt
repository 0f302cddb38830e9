-- THE SEARCH OF EVERY MULTIPLE OF 8: a try that fails goes on 8 bytes further up.
use mathlib.Core.Path.{◌≡◌, sym, ap, ◌∙◌}
use mathlib.Core.Bool.{false}
use mathlib.Core.List.{List}
use Prim.Native.Nat.{ℕ, ◌+◌, ◌≤◌, ◌<◌}
use native.Mathlib.Omega.{arith}
use lib.ListN.{take}
use borrow.Author.Tests.{le-leb}
use Rattle.lists.specs.Lists.{every}
use Rattle.kinds.specs.Limits.{region, doubleword}
use Rattle.kinds.specs.declared.areas.Area.{Area}
use Rattle.rules.specs.Storage.{past_end, apart, permitted, placed_at, lowest_from}
use Rattle.mainstorage.proofs.Passed.{multiples_from, lowest_over}
use Rattle.mainstorage.proofs.Searching.{Searching}

-- the area a wanted, placed at s, is not apart from all
pub search_on : {l : List Area} {n : ℕ} {w : Area} {s : ℕ} → Searching l n w s → s < region → (a : Area)
    → a ≡ placed_at w s → past_end a ≤ region → every (apart a) (take n l) ≡ false → (u : ℕ) → u ≡ s + doubleword
    → Searching l n w u
unfolding permitted
search_on {l} {n} {w} {s} h inside a here ends e u next =
    let m : 1 + multiples_from u ≡ multiples_from s = omega (arith, h.aligned, inside) in
    record {
      few = h.few;
      full = h.full;
      aligned = omega (arith, h.aligned);
      same =
          h.same ∙ ap (λ (k : ℕ). lowest_from k (take n l) w s) (sym m)
          ∙ lowest_over (take n l) w (s + 1) (multiples_from u) 1 s (omega arith) passed
          ∙ ap (lowest_from (multiples_from u) (take n l) w) (sym next);
    }
  where
    barred : permitted (take n l) a ≡ false
    barred = rw (le-leb _ _ ends) e

    passed : (v : ℕ) → s ≤ v → v < s + 1 → permitted (take n l) (placed_at w v) ≡ false
    passed v g k =
        let z : v ≡ s = omega arith in
        ap (λ (k : ℕ). permitted (take n l) (placed_at w k)) z
        ∙ ap (permitted (take n l)) (sym here)
        ∙ barred
