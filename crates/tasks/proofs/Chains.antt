-- A place x that was looked up, and following a chain of mothers by one step from it.
use mathlib.Core.Path.{◌≡◌, sym, ap, ◌∙◌}
use mathlib.Core.Bool.{Bool, true, false}
use mathlib.Core.List.{List}
use mathlib.Core.Logic.{⊎_elim}
use Prim.Native.Nat.{ℕ, suc}
use native.Mathlib.Omega.{arith}
use lib.Dec.{eqb, leb}
use lib.ListN.{length}
use borrow.Author.Tests.{leb-false}
use Rattle.std.proofs.lemmas.Bool.{and_cases}
use Rattle.kinds.specs.Limits.{lowest_task, highest_task}
use Rattle.kinds.specs.Ranges.{task_good}
use Rattle.kinds.specs.Tasks.{no_task}
use Rattle.kinds.specs.declared.tasks.Task.{Task}
use Rattle.rules.specs.Family.{place, used, mother, chain}
use Rattle.laws.specs.Places.{place_none, place_past}
use Rattle.laws.specs.Wiping.{in_use}
use Rattle.laws.specs.Chains.{only}

-- what is said of the place holds of its task
pub use_of : (ts : List Task) (n : ℕ) (x : Task) (b : Bool) → x ≡ place ts n → b ≡ in_use x → used ts n ≡ b
unfolding used
use_of ts n x b e u = ap in_use (sym e) ∙ sym u

pub chain_next : (ts : List Task) (c n steps : ℕ) → used ts n ≡ true → eqb n c ≡ false
    → chain (suc steps) ts (only c) n ≡ chain steps ts (only c) (mother ts n)
unfolding chain
chain_next ts c n steps u t = rw (u, t)

-- a number that has no place
pub place_bad : (ts : List Task) (n : ℕ) → length ts ≡ highest_task → task_good n ≡ false → place ts n ≡ no_task
place_bad ts n l h =
    ⊎_elim (λ e. place_none ts n (omega (arith, leb-false lowest_task n e)))
    (λ e. place_past ts n (omega (arith, leb-false n highest_task e)))
    (and_cases (leb lowest_task n) (leb n highest_task) h)
