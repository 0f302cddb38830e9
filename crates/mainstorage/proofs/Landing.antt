-- WHERE A JUMP LANDS: further up, at a page start or at the end of an area of the table.
use mathlib.Core.Path.{◌≡◌, refl}
use mathlib.Core.Bool.{Bool, true, false, ◌||◌, or-true}
use mathlib.Core.List.{List}
use mathlib.Core.Logic.{◌⊎◌, inl, inr}
use Prim.Native.Nat.{ℕ, ◌+◌, ◌-◌, ◌*◌, ◌%◌, ◌≤◌, ◌<◌}
use native.Mathlib.Omega.{arith}
use lib.Dec.{eqb, leb}
use borrow.Author.Tests.{leb-true, leb-false, le-leb, eq-eqb, eqb-true}
use Rattle.lists.specs.Pick.{pick}
use Rattle.lists.specs.Lists.{every, some}
use Rattle.lists.specs.Bools.{join}
use Rattle.kinds.specs.Limits.{highest_address, region, page, doubleword}
use Rattle.kinds.specs.Ranges.{address_good}
use Rattle.kinds.specs.declared.areas.Area.{Area}
use Rattle.rules.specs.Storage.{past_end, past_page, one_holder, rounded}
use Rattle.laws.specs.Candidates.{ends_at, is_candidate, aligned_end}
use Rattle.mainstorage.specs.Bars.{bar_of, next_at}
use Rattle.mainstorage.specs.OneOf.{OneOf, one_passes}
use Rattle.mainstorage.specs.Tries.{tries_left, page_falls, end_falls}

-- t, past the bar b: a multiple of 8 in the region or its end, less than 8 above the bar, and above every address in
-- the region that lies below it
pub record Onward (b t : ℕ) : Type 0 where
  pub aligned : t % doubleword ≡ 0
  pub inside : t ≤ region
  pub near : t < b + doubleword
  pub further : (s : ℕ) → s < region → s < b → s < t
  -- past whole pages it is a page start, and past an end at a multiple of 8 it is that end, or the region's
  pub paged : b % page ≡ 0 → t % page ≡ 0
  pub kept : b % doubleword ≡ 0 → t < region → t ≡ b

pub onward : (b t : ℕ) → t ≡ next_at b → Onward b t
unfolding next_at rounded pick
onward b t e =
    let q = one (leb region b) refl e in
    record {
      aligned = omega arith;
      inside = omega arith;
      near = omega arith;
      further = λ s i m. omega arith;
      paged = λ p. omega arith;
      kept = λ p i. omega arith;
    }
  where
    -- the lower one of the bar and the region's end, rounded up
    one : (o : Bool) → leb region b ≡ o → t ≡ pick o region (rounded b) → t ≡ rounded (b - (b - region))
    one true k q = let h : region ≤ b = leb-true region b k in omega arith
    one false k q = let h : b < region = leb-false region b k in omega arith

-- THE JUMP to t, past an area x of l
module _ (l : List Area) (w x : Area) (held : OneOf l x) (t : ℕ) (next : t ≡ next_at (bar_of w x)) where
  -- to a page start, or to the end of x
  lands : (t % page ≡ 0) ⊎ (t ≡ next_at (past_end x))
  unfolding bar_of pick
  lands = one (one_holder w x) next
    where
      one : (o : Bool) → t ≡ next_at (pick o (past_end x) (past_page x * page)) → (t % page ≡ 0) ⊎ (t ≡ next_at (past_end x))
      one true q = inr q
      one false q = inl ((onward (past_page x * page) t q).paged (omega arith))

  -- fewer addresses are left to be tried
  pub falls : (s : ℕ) → s < t → tries_left l t < tries_left l s
  falls s h = one lands (onward (bar_of w x) t next).inside
    where
      one : (t % page ≡ 0) ⊎ (t ≡ next_at (past_end x)) → t ≤ region → tries_left l t < tries_left l s
      one (inl e) i = page_falls l s t h i e
      one (inr e) i = end_falls l s t h held e

  -- where every area ends at a multiple of 8, as in sound tables, it is a candidate
  pub candidate : every aligned_end l ≡ true → t < region → is_candidate l t ≡ true
  unfolding is_candidate
  candidate aligned i = join (address_good t) _ (le-leb t highest_address (omega arith)) (one lands)
    where
      one : (t % page ≡ 0) ⊎ (t ≡ next_at (past_end x)) → (eqb (t % page) 0 || some (ends_at t) l) ≡ true
      one (inl e) = rw (eq-eqb (t % page) 0 e)
      one (inr e) =
          let m : past_end x % doubleword ≡ 0 = eqb-true (past_end x % doubleword) 0 (held.passes aligned_end aligned) in
          let k = eq-eqb t (past_end x) ((onward (past_end x) t e).kept m i) in
          rw (one_passes held (ends_at t) k) (or-true (eqb (t % page) 0))
