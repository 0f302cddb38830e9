-- The number that ATTACH finds.
use mathlib.Core.Path.{◌≡◌}
use mathlib.Core.List.{List}
use Prim.Native.Nat.{ℕ, ◌≤◌}
use native.Mathlib.Omega.{arith}
use lib.IntN.{ℤ}
use lib.ListN.{length}
use Rattle.kinds.specs.Limits.{lowest_task, highest_task}
use Rattle.kinds.specs.declared.numbers.TaskNumber.{TaskNumber}
use Rattle.kinds.specs.declared.tasks.Task.{Task}
use Rattle.std.specs.Prelude.{Option, Ok}
use Rattle.kinds.specs.declared.numbers.EcbNumber.{EcbNumber}
use Rattle.rules.specs.Attach.{lowest_free, attach_verdict}
use Rattle.laws.specs.Attaching.{attach_free, found_free}

-- it has a place
pub found : (ts : List Task) (lpmod : ℕ) (dpmod : ℤ) (ecb : Option EcbNumber) (n : TaskNumber) → length ts ≡ highest_task
    → attach_verdict ts lpmod dpmod ecb ≡ Ok tt → n.0 ≡ lowest_free ts → (lowest_task ≤ n.0) × (n.0 ≤ highest_task)
found ts lpmod dpmod ecb n l g e =
    let f = found_free ts (attach_free ts lpmod dpmod ecb g) in
    (omega (arith, f.0.0), omega (arith, f.0.1))
