-- THE PLAIN SEARCH, of so many multiples of 8 from s on: what it finds and what it passes over.
use mathlib.Core.Path.{◌≡◌, refl, ap, ◌∙◌}
use mathlib.Core.Bool.{true, false}
use mathlib.Core.List.{List}
use Prim.Native.Nat.{ℕ, zero, suc, ◌+◌, ◌-◌, ◌*◌, ◌/◌, ◌<◌, ◌≤◌}
use native.Mathlib.Omega.{arith}
use borrow.Author.Tests.{lt-leb}
use Rattle.kinds.specs.Limits.{region, doubleword}
use Rattle.kinds.specs.declared.areas.Area.{Area}
use Rattle.std.specs.Prelude.{Some, None}
use Rattle.rules.specs.Storage.{permitted, placed_at, lowest_from}

module _ (l : List Area) (w : Area) where
  pub lowest_here : (m s : ℕ) → 0 < m → permitted l (placed_at w s) ≡ true → lowest_from m l w s ≡ Some (record { 0 = s })
  unfolding lowest_from
  lowest_here zero s h e = absurd (omega arith)
  lowest_here (suc m) s h e = rw e

  lowest_next : (m s : ℕ) → permitted l (placed_at w s) ≡ false
      → lowest_from (suc m) l w s ≡ lowest_from m l w (s + doubleword)
  unfolding lowest_from
  lowest_next m s e = rw e

  -- k multiples of 8 from s on are passed over: all below b, and not permitted there
  pub lowest_over : (b m k s : ℕ) → s + doubleword * k < b + doubleword
      → ((u : ℕ) → s ≤ u → u < b → permitted l (placed_at w u) ≡ false)
      → lowest_from (k + m) l w s ≡ lowest_from m l w (s + doubleword * k)
  lowest_over b m zero s h f =
      let e : s ≡ s + doubleword * zero = omega arith in
      let d : zero + m ≡ m = omega arith in
      λ i. lowest_from (d i) l w (e i)
  lowest_over b m (suc k) s h f =
      let d : suc k + m ≡ suc (k + m) = omega arith in
      let e : s + doubleword + doubleword * k ≡ s + doubleword * suc k = omega arith in
      ap (λ (i : ℕ). lowest_from i l w s) d ∙ lowest_next (k + m) s (f s (omega arith) (omega arith))
      ∙ lowest_over b m k (s + doubleword) (omega arith) (λ u g v. f u (omega arith) v)
      ∙ ap (lowest_from m l w) e

  -- what ends beyond the region does so further up too
  pub lowest_beyond : (m s : ℕ) → region < s + w.size → lowest_from m l w s ≡ None
  unfolding lowest_from permitted
  lowest_beyond zero s h = refl
  lowest_beyond (suc m) s h = rw (lt-leb _ _ h) (lowest_beyond m (s + doubleword) (omega arith))

-- how many multiples of 8 it has from s on
abbrev pub multiples_from : ℕ → ℕ
multiples_from s = (region - s) / doubleword
