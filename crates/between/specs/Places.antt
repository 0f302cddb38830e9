-- What rules ask of a task, asked of its place.
use Rattle.std.specs.Prelude.{◌≡◌, Bool, ◌&&◌, List, ℕ, ◌-◌, ◌≤◌, ◌<◌, eqb, length, get_or}
use Rattle.std.proofs.Math.Path.{refl, sym, ap}
use Rattle.std.proofs.Common.{◌∙◌, arith}
use Rattle.std.proofs.Math.Bool.{true, false}
use Rattle.std.proofs.Math.Dec.{leb}
use borrow.Author.Tests.{leb-true, leb-false}
use Rattle.lists.specs.Pick.{pick}
use Rattle.kinds.specs.Limits.{lowest_task, highest_task}
use Rattle.kinds.specs.Ranges.{task_good}
use Rattle.kinds.specs.Tasks.{no_task, is_live}
use Rattle.kinds.specs.declared.areas.Area.{Area}
use Rattle.kinds.specs.declared.tasks.Task.{Task}
use Rattle.rules.specs.Family.{live}
use Rattle.rules.specs.SoundAreas.{area_owner_good}
use Rattle.laws.specs.Places.{place_none, place_past, place_at}

-- task n is live, going by x at its place
abbrev pub live_by : ℕ → Task → Bool
live_by n x = task_good n && is_live x.condition

-- area a is the step's, or its owner is live, going by x at the owner's place
abbrev pub good_by : Area → Task → Bool
good_by a x = pick (eqb a.subpool 0) (eqb a.owner.0 0) (live_by a.owner.0 x)

module _ (ts : List Task) (long : length ts ≡ highest_task) (n j : ℕ) (at : n ≤ highest_task → j ≡ n - lowest_task) where
  pub live_at : live_by n (get_or ts j no_task) ≡ live ts n
  live_at = one (leb lowest_task n) (leb n highest_task) refl refl
    where
      one : (low high : Bool) → leb lowest_task n ≡ low → leb n highest_task ≡ high
          → ((low && high) && is_live (get_or ts j no_task).condition) ≡ live ts n
      one false high e g =
          let h : n ≡ 0 = omega (arith, leb-false lowest_task n e) in
          sym (ap (λ (x : Task). is_live x.condition) (place_none ts n h))
      one true false e g =
          sym (ap (λ (x : Task). is_live x.condition) (place_past ts n (omega (arith, leb-false n highest_task g))))
      one true true e g =
          let h : 0 < n = leb-true lowest_task n e in
          ap (λ (k : ℕ). is_live (get_or ts k no_task).condition) (at (leb-true n highest_task g))
          ∙ sym (ap (λ (x : Task). is_live x.condition) (place_at ts n h))

pub good_at : (ts : List Task) (a : Area) (j : ℕ) → length ts ≡ highest_task
    → (a.owner.0 ≤ highest_task → j ≡ a.owner.0 - lowest_task) → good_by a (get_or ts j no_task) ≡ area_owner_good ts a
unfolding area_owner_good
good_at ts a j long at = rw (live_at ts long a.owner.0 j at)
