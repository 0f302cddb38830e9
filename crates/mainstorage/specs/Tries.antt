-- TRIES: how many addresses a search can still come to.
use Rattle.std.specs.Prelude.{◌≡◌, refl, Bool, true, false, not, ◌&&◌, List, ℕ, ◌+◌, ◌-◌, ◌/◌, ◌%◌, ◌≤◌, ◌<◌, ltb, length}
use native.Mathlib.Omega.{arith}
use Rattle.std.proofs.Common.{ltb-false, lt-ltb, le-ltb}
use Rattle.lists.specs.Lists.{how_many}
use Rattle.lists.specs.Setting.{how_many_few, how_many_no_more, how_many_drops}
use Rattle.kinds.specs.Limits.{region, page, most_areas}
use Rattle.kinds.specs.declared.areas.Area.{Area}
use Rattle.rules.specs.Storage.{past_end}
use Rattle.mainstorage.specs.Bars.{next_at}
use Rattle.mainstorage.specs.OneOf.{OneOf, one_passes}

-- the 32 page starts and the ends of 128 areas
abbrev pub most_tries : ℕ
most_tries = region / page + most_areas

pub so_many_tries : most_tries ≡ 160
so_many_tries = refl

-- a mark of each area, and those areas of which it lies above s
abbrev pub above : (Area → ℕ) → ℕ → Area → Bool
above mark s x = ltb s (mark x)

-- the first multiple of 8 not below the area's end
abbrev pub end_mark : Area → ℕ
end_mark x = next_at (past_end x)

-- the page starts above s, up to the region's end, and the ends above s
unfoldable pub tries_left : List Area → ℕ → ℕ
tries_left l s = (region / page - s / page) + how_many (above end_mark s) l

-- FURTHER UP, from s to t, fewer marks lie above
module _ (mark : Area → ℕ) (l : List Area) (s t : ℕ) (further : s < t) where
  still_below : (x : Area) → above mark s x ≡ false → above mark t x ≡ false
  still_below x e = let k : mark x ≤ s = ltb-false s (mark x) e in le-ltb t (mark x) (omega arith)

  pub marks_most : how_many (above mark t) l ≤ how_many (above mark s) l
  marks_most = how_many_no_more (above mark s) (above mark t) still_below l

  -- where t is one of the marks
  pub marks_fall : {x : Area} → OneOf l x → t ≡ mark x → how_many (above mark t) l < how_many (above mark s) l
  marks_fall {x} held e =
      let a : above mark s x ≡ true = lt-ltb s (mark x) (omega arith) in
      let b : above mark t x ≡ false = le-ltb t (mark x) (omega arith) in
      how_many_drops (above mark s) (above mark t) still_below l
      (one_passes held (λ (y : Area). above mark s y && not (above mark t y)) (rw (a, b)))

module _ (l : List Area) where
  pub tries_few : length l ≤ most_areas → tries_left l 0 ≤ most_tries
  unfolding tries_left
  tries_few h = omega (arith, how_many_few (above end_mark 0) l)

  -- none is left only at the region's end
  pub tries_over : (s : ℕ) → tries_left l s ≤ 0 → region ≤ s
  unfolding tries_left
  tries_over s h = omega arith

  -- and fewer are left
  module _ (s t : ℕ) (further : s < t) where
    -- at a page start
    pub page_falls : t ≤ region → t % page ≡ 0 → tries_left l t < tries_left l s
    unfolding tries_left
    page_falls i e = omega (arith, marks_most end_mark l s t further)

    -- at an end
    pub end_falls : {x : Area} → OneOf l x → t ≡ end_mark x → tries_left l t < tries_left l s
    unfolding tries_left
    end_falls held e = omega (arith, marks_fall end_mark l s t further held e)
