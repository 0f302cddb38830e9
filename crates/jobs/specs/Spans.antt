-- Where a line lies in the block of input.
use Rattle.std.specs.Prelude.{◌≤◌}
use Rattle.jobs.specs.Sizes.{block_size}
use Rattle.jobs.specs.declared.input.Span.{Span}

-- the line, and what is left after it, are within the block
pub record Within (s : Span) : Type 0 where
  pub line : s.from ≤ s.to
  pub inside : s.to ≤ block_size
  pub left : s.next ≤ s.end
  pub filled : s.end ≤ block_size
