-- The rules on waiters as loops test them: ECB by ECB, and task by task with the tally at hand.
use Rattle.std.specs.Prelude.{◌≡◌, refl, Bool, true, false, ◌&&◌, List, [], ◌∷◌, ℕ, ◌+◌, ◌-◌, ◌≤◌, ◌<◌, length, get_or, drop}
use Rattle.std.proofs.Common.{ap, ap₂, ◌∙◌, arith, eq-eqb, ne_eqb}
use Rattle.lists.specs.Lists.{every, every_at, how_many}
use Rattle.lists.specs.Every.{rest_fails, rest_goes}
use Rattle.lists.specs.Numbered.{every_at_fails, every_at_goes}
use Rattle.kinds.specs.Limits.{highest_task}
use Rattle.kinds.specs.Ecbs.{no_ecb}
use Rattle.kinds.specs.Tasks.{no_task, in_ecb_wait}
use Rattle.kinds.specs.declared.ecbs.Ecb.{Ecb}
use Rattle.kinds.specs.declared.tasks.Task.{Task}
use Rattle.rules.specs.Family.{condition_of}
use Rattle.rules.specs.SoundEcbs.{need_good, needs_good, waited_on_by}
use Rattle.laws.specs.Places.{place_past, place_at}
use Rattle.laws.specs.Blocks.{waiter_good}
use Rattle.ecbs.specs.Blocks.{tally_from, tally_of}
use Rattle.ecbs.specs.declared.Tally.{Tally}
use Rattle.ecbs.specs.Counts.{waits_at}

-- the waiter of the ECB at place i, and those of the ECBs behind it
module _ (ts : List Task) (es : List Ecb) (i : ℕ) (h : i < length es) where
  abbrev waiter : ℕ
  waiter = (get_or es i no_ecb).waiter.0

  abbrev from : ℕ → Bool
  from k = every (waiter_good ts) (drop k es)

  waiter_is : 0 < waiter → waiter_good ts (get_or es i no_ecb) ≡ in_ecb_wait (condition_of ts waiter)
  waiter_is p = rw (ne_eqb waiter 0 (λ (z : waiter ≡ 0). omega arith))

  found : 0 < waiter → waiter_good ts (get_or es i no_ecb) ≡ in_ecb_wait (get_or ts (waiter - 1) no_task).condition
  found p = waiter_is p ∙ ap (λ (t : Task). in_ecb_wait t.condition) (place_at ts waiter p)

  pub waiter_none : waiter ≡ 0 → from i ≡ from (i + 1)
  waiter_none p = rest_goes (waiter_good ts) es i no_ecb h (rw (eq-eqb waiter 0 p))

  pub waiter_past : length ts < waiter → from i ≡ false
  waiter_past p =
      let e = ap (λ (t : Task). in_ecb_wait t.condition) (place_past ts waiter p) in
      rest_fails (waiter_good ts) es i no_ecb h (waiter_is (omega arith) ∙ e)

  pub waiter_at : (b : Bool) → 0 < waiter → in_ecb_wait (get_or ts (waiter - 1) no_task).condition ≡ b
      → from i ≡ (b && from (i + 1))
  waiter_at true p e = rest_goes (waiter_good ts) es i no_ecb h (found p ∙ e)
  waiter_at false p e = rest_fails (waiter_good ts) es i no_ecb h (found p ∙ e)

-- the need of task n, whose ECBs are counted in t
unfoldable pub need_from : List ℕ → ℕ → Task → Bool
need_from t n x = need_good x.condition (get_or t n 0)

-- the need of the task at place i, and those of the tasks behind it
pub need_at : (t : List ℕ) (ts : List Task) (i : ℕ) → i < length ts → (b : Bool)
    → need_good (get_or ts i no_task).condition (get_or t (i + 1) 0) ≡ b
    → every_at (need_from t) (i + 1) (drop i ts) ≡ (b && every_at (need_from t) (i + 1 + 1) (drop (i + 1) ts))
unfolding need_from
need_at t ts i h true e = every_at_goes (need_from t) (i + 1) i ts no_task h e
need_at t ts i h false e = every_at_fails (need_from t) (i + 1) i ts no_task h e

needs_counted : (k n : ℕ) (es : List Ecb) (ts : List Task) → n + length ts ≤ k
    → every_at (need_from (tally_from k 0 es)) n ts
    ≡ every_at (λ m (x : Task). need_good x.condition (how_many (waited_on_by m) es)) n ts
unfolding need_from
needs_counted k n es [] h = refl
needs_counted k n es (x ∷ ts) h =
    let e : 0 + n ≡ n = omega arith in
    ap₂ ◌&&◌
    (ap (need_good x.condition) (waits_at k 0 n es (omega arith) ∙ ap (λ (m : ℕ). how_many (waited_on_by m) es) e))
    (needs_counted k (n + 1) es ts (omega arith))

pub needs_from : (es : List Ecb) (ts : List Task) (t : Tally) → t ≡ tally_of es → length ts ≡ highest_task
    → every_at (need_from t.ecbs) 1 ts ≡ needs_good es ts
unfolding needs_good
needs_from es ts t e h =
    ap (λ (x : Tally). every_at (need_from x.ecbs) 1 ts) e ∙ needs_counted (highest_task + 1) 1 es ts (omega arith)
