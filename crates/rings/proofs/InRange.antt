-- Task numbers in range.
use mathlib.Core.Path.{◌≡◌}
use mathlib.Core.Bool.{true}
use Prim.Native.Nat.{ℕ, ◌≤◌}
use Rattle.kinds.specs.Limits.{lowest_task, highest_task}
use Rattle.kinds.specs.Ranges.{task_good}
use Rattle.kinds.specs.Within.{within}

pub good_high : (k : ℕ) → task_good k ≡ true → k ≤ highest_task
good_high k h = (within lowest_task highest_task k h).1
