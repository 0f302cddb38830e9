-- What keeps the numbers of a layout in range.
use Rattle.std.specs.Prelude.{◌≤◌, ◌/◌}
use Rattle.kinds.specs.Limits.{region, page, doubleword}
use Rattle.cost.specs.declared.layouts.Layout.{Layout}

-- no address of 128 areas overflows, and up to 7 bytes less than what is asked for is a length
pub record Modest (l : Layout) : Type 0 where
  pub pages : l.pages ≤ region / page
  pub step : l.step ≤ region
  pub least : doubleword ≤ l.bytes
  pub most : l.bytes ≤ region
