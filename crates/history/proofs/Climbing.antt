-- Who ends with a task, by the mothers that a run tells of, is who is below it in the task table.
use mathlib.Core.Path.{◌≡◌, refl, sym, ap, ◌∙◌}
use mathlib.Core.Bool.{Bool, true, false, ◌||◌}
use mathlib.Core.List.{List}
use Prim.Native.Nat.{ℕ, zero, suc}
use lib.Dec.{eqb}
use borrow.Author.Tests.{eqb-true, eqb-false, ne_eqb}
use Rattle.kinds.specs.Limits.{job_step_task, highest_task}
use Rattle.kinds.specs.declared.tasks.Task.{Task}
use Rattle.rules.specs.Family.{place, used, mother, chain, below}
use Rattle.rules.specs.SoundTasks.{job_step_good, mothers_good}
use Rattle.rules.specs.Reading.{climbs}
use Rattle.laws.specs.Chains.{only}
use Rattle.laws.specs.Mothers.{no_mother, has_mother}
use Rattle.laws.specs.Admitted.{live_used}

-- a number that has no place begins no chain
chain_nobody : (f : ℕ) (ts : List Task) (test : ℕ → Bool) → chain f ts test 0 ≡ false
unfolding chain used place
chain_nobody zero ts test = refl
chain_nobody (suc f) ts test = refl

-- m tells the mothers of the tasks in use, and that nobody has none
module _ (ts : List Task) (job : job_step_good ts ≡ true) (mothers : mothers_good ts ≡ true)
    (m : ℕ → ℕ) (root : m 0 ≡ 0) (told : (n : ℕ) → used ts n ≡ true → m n ≡ mother ts n)
    (c : ℕ) (some : c ≡ 0 → ⊥) where
  climbs_nobody : (f : ℕ) → climbs m f c 0 ≡ false
  unfolding climbs
  climbs_nobody zero = refl
  climbs_nobody (suc f) = rw (ne_eqb 0 c (λ e. some (sym e)), root) (climbs_nobody f)

  climbs_chain : (f n : ℕ) → used ts n ≡ true → climbs m f c n ≡ chain f ts (only c) n
  unfolding climbs chain
  climbs_chain zero n u = refl
  climbs_chain (suc f) n u =
      rw (u, told n u) (ap (λ (b : Bool). eqb n c || b) (above (eqb n job_step_task) refl (climbs_chain f)))
    where
      above : (b : Bool) → eqb n job_step_task ≡ b → ((k : ℕ) → used ts k ≡ true → climbs m f c k ≡ chain f ts (only c) k)
          → climbs m f c (mother ts n) ≡ chain f ts (only c) (mother ts n)
      above true e ih =
          rw (eqb-true n job_step_task e, no_mother ts job) (climbs_nobody f ∙ sym (chain_nobody f ts (only c)))
      above false e ih =
          ih (mother ts n) (live_used ts (mother ts n) (has_mother ts mothers n u (eqb-false n job_step_task e)).0)

  pub climbs_below : (n : ℕ) → used ts n ≡ true → climbs m highest_task c n ≡ below ts c n
  unfolding below
  climbs_below n u = climbs_chain highest_task n u
