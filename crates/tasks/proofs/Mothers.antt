-- The chain of task n, followed until it comes to a lower task: what is known on the way, and what that tells of the
-- rule on mothers.
use mathlib.Core.Path.{◌≡◌, refl, sym, ap, subst, ◌∙◌}
use mathlib.Core.Logic.{◌⊎◌, inl, inr, ⊎_elim}
use mathlib.Core.Bool.{Bool, true, false, not, ◌&&◌, ◌||◌, or-true, false≢true}
use mathlib.Core.List.{List}
use Prim.Native.Nat.{ℕ, zero, suc, ◌+◌, ◌≤◌, ◌<◌}
use native.Mathlib.Numerals.{add-one}
use native.Mathlib.Omega.{arith}
use lib.Dec.{eqb}
use lib.ListN.{length}
use borrow.Author.Tests.{ne_eqb, not-false}
use Rattle.lists.specs.Bools.{both, never, not_so}
use Rattle.kinds.specs.Limits.{job_step_task, highest_task}
use Rattle.kinds.specs.Tasks.{is_free, is_live}
use Rattle.kinds.specs.declared.tasks.Task.{Task}
use Rattle.rules.specs.Family.{place, live, used, mother, chain, below}
use Rattle.rules.specs.SoundTasks.{mother_good, mothers_good}
use Rattle.laws.specs.Admitted.{live_used}
use Rattle.laws.specs.Wiping.{in_use}
use Rattle.laws.specs.Chains.{only, Chain, here, up, below_chain, chain_below}
use Rattle.laws.specs.Mothers.{has_mother}
use Rattle.tasks.proofs.Chains.{use_of, chain_next}

-- task k's chain comes to task 1
abbrev Rooted : List Task → ℕ → Type 0
Rooted ts k = Chain ts (only job_step_task) k

-- THE RULE on task k
module _ (ts : List Task) where
  abbrev pub Kept : ℕ → Type 0
  Kept k = mother_good ts k (place ts k) ≡ true

  pub kept_first : (k : ℕ) → k ≤ job_step_task → Kept k
  unfolding mother_good place
  kept_first zero h = refl
  kept_first (suc zero) h = rw (or-true (is_free (place ts 1).condition))
  kept_first (suc (suc k)) h = absurd (omega arith)

  pub kept_free : (n : ℕ) (x : Task) → x ≡ place ts n → in_use x ≡ false → Kept n
  unfolding mother_good
  kept_free n x e h = rw (← e, not-false (is_free x.condition) h)

  kept_rooted : (k : ℕ) → used ts k ≡ true → Kept k → Rooted ts k
  unfolding mother_good used
  kept_rooted k u g = one (is_free (place ts k).condition) (eqb k job_step_task) refl u g
    where
      one : (f e : Bool) → eqb k job_step_task ≡ e → not f ≡ true
          → ((f || e) || (live ts (place ts k).mother.0 && below ts job_step_task k)) ≡ true → Rooted ts k
      one true e q v g = absurd (false≢true v)
      one false true q v g = here u q
      one false false q v g = below_chain ts job_step_task k (both (live ts (place ts k).mother.0) _ g).1

-- THE WALK from task n has come to a task no lower, whose place is x, with so many steps left
pub record Walk (ts : List Task) (n : ℕ) (x : Task) (left : ℕ) : Type 0 where
  pub at : ℕ
  pub there : x ≡ place ts at
  pub high : n ≤ at
  pub in_use : used ts at ≡ true
  -- by the rule these steps are enough
  pub owed : mothers_good ts ≡ true → chain left ts (only job_step_task) at ≡ true
  pub back : Rooted ts at → Rooted ts n
  pub first : (at ≡ n) ⊎ (live ts (mother ts n) ≡ true)

module _ (ts : List Task) (n : ℕ) (low : job_step_task < n) (x : Task) where
  pub walk_starts : x ≡ place ts n → in_use x ≡ true → Walk ts n x highest_task
  unfolding below
  walk_starts e h =
      let u = use_of ts n x true e (sym h) in
      record {
        at = n;
        there = e;
        high = omega arith;
        in_use = u;
        owed = λ g. (has_mother ts g n u (λ i. omega arith)).1;
        back = λ r. r;
        first = inl refl;
      }

  module _ (left : ℕ) (w : Walk ts n x left) where
    pub walk_spent : left ≡ 0 → false ≡ mothers_good ts
    unfolding chain
    walk_spent h =
        sym (not_so (mothers_good ts) (λ g. never (chain left ts (only job_step_task) w.at) (w.owed g) (rw h)))

    not_first : w.at ≡ job_step_task → ⊥
    not_first i = omega (arith, w.high)

    mothers : x.mother.0 ≡ mother ts w.at
    unfolding mother
    mothers = ap (λ (y : Task). y.mother.0) w.there

    -- the mother's place is y
    module _ (y : Task) (e : y ≡ place ts x.mother.0) where
      alive : is_live y.condition ≡ live ts (mother ts w.at)
      alive = ap (λ (z : Task). is_live z.condition) e ∙ ap (live ts) mothers

      pub walk_stops : is_live y.condition ≡ false → false ≡ mothers_good ts
      walk_stops h =
          sym (not_so (mothers_good ts) (λ g. never (live ts (mother ts w.at))
          (has_mother ts g w.at w.in_use not_first).0 (sym alive ∙ h)))

      module _ (h : is_live y.condition ≡ true) where
        mother_used : used ts x.mother.0 ≡ true
        mother_used = live_used ts x.mother.0 (ap (λ (z : Task). is_live z.condition) (sym e) ∙ h)

        further : Rooted ts x.mother.0 → Rooted ts n
        further r = w.back (up w.in_use (subst (Rooted ts) mothers r))

        first_live : live ts (mother ts n) ≡ true
        first_live = ⊎_elim (λ i. ap (λ (k : ℕ). live ts (mother ts k)) (sym i) ∙ sym alive ∙ h) (λ l. l) w.first

        pub walk_on : (next : ℕ) → left ≡ next + 1 → n ≤ x.mother.0 → Walk ts n y next
        walk_on next s high = record {
          at = x.mother.0;
          there = e;
          high = high;
          in_use = mother_used;
          owed =
              λ g. ap (chain next ts (only job_step_task)) mothers
              ∙ sym (chain_next ts job_step_task w.at next w.in_use (ne_eqb w.at job_step_task not_first))
              ∙ ap (λ (k : ℕ). chain k ts (only job_step_task) w.at) (sym (s ∙ add-one next))
              ∙ w.owed g;
          back = further;
          first = inr first_live;
        }

        -- she is lower, and keeps the rule
        pub walk_ends : length ts ≡ highest_task → Kept ts x.mother.0 → Kept ts n
        unfolding mother_good mother
        walk_ends fit g =
            let b = chain_below ts job_step_task n fit (further (kept_rooted ts x.mother.0 mother_used g)) in
            rw (b, first_live) (or-true (is_free (place ts n).condition || eqb n job_step_task))
