-- Whether a number is a task's.
use Rattle.std.proofs.Common.{◌≡◌, false, true, ℕ, leb, ◌≤◌, ◌<◌, arith, leb-false}
use Rattle.std.proofs.lemmas.Bool.{and_cases}
use mathlib.Core.Logic.{⊎_elim}
use Rattle.kinds.specs.Limits.{lowest_task, highest_task}
use Rattle.kinds.specs.Ranges.{task_good}
use Rattle.kinds.specs.Within.{within}

pub in_range : (n : ℕ) → task_good n ≡ true → (lowest_task ≤ n) × (n ≤ highest_task)
in_range = within lowest_task highest_task

-- what holds of 0, and of whatever is past the last, holds of every number that is none
pub out_of_range : {P : Type 0} (n : ℕ) → task_good n ≡ false → (n ≡ 0 → P) → (highest_task < n → P) → P
out_of_range n e none past =
    ⊎_elim (λ l. none (omega (arith, leb-false lowest_task n l))) (λ u. past (leb-false n highest_task u))
    (and_cases (leb lowest_task n) (leb n highest_task) e)
