-- What a run tells of the step when tasks end: their entries go, and nobody else's.
use mathlib.Core.Path.{◌≡◌, refl, sym, ap, ◌∙◌}
use mathlib.Core.Bool.{Bool, true, false, not, ◌&&◌, ◌||◌, true≢false}
use mathlib.Core.List.{List}
use Prim.Native.Nat.{ℕ}
use native.Mathlib.Omega.{arith}
use lib.Dec.{eqb}
use borrow.Author.Tests.{eqb-false, ne_eqb}
use Rattle.lists.specs.Lists.{keep}
use Rattle.lists.specs.Bools.{never}
use Rattle.lists.specs.Keeping.{keep_among, keep_none}
use Rattle.lists.specs.Pick.{pick}
use Rattle.kinds.specs.Limits.{job_step_task, highest_task}
use Rattle.kinds.specs.Tasks.{no_task, is_free, is_live, with_condition}
use Rattle.kinds.specs.declared.tasks.Task.{Task}
use Rattle.std.specs.Prelude.{Option, Some, None}
use Rattle.kinds.specs.declared.numbers.EcbNumber.{EcbNumber}
use Rattle.kinds.specs.declared.tasks.Condition.TheVariants.{Ended}
use Rattle.rules.specs.Control.{Entry}
use Rattle.rules.specs.Family.{place, live, used, below}
use Rattle.rules.specs.SoundQueue.{entries_live}
use Rattle.rules.specs.Steps.{Step, over_step}
use Rattle.rules.specs.Ending.{end_tasks, entry_stays, left_by, detached, ended_place, end_posted, ended}
use Rattle.rules.specs.Reading.{Ends, Reading, read_by, mother_in, climbs, ends_with}
use Rattle.laws.specs.Places.{place_free}
use Rattle.laws.specs.Wiping.{free_unused}
use Rattle.laws.specs.Chains.{used_pos}
use Rattle.laws.specs.Mothers.{live_exactly}
use Rattle.laws.specs.Settling.{kindred}
use Rattle.laws.specs.Running.{Running}
use Rattle.laws.specs.Admitted.{live_used}
use Rattle.history.proofs.Effects.{outlives, ends}
use Rattle.history.proofs.Climbing.{climbs_below}
use Rattle.history.proofs.Heirs.{Heirs, later_heirs, kindred_heirs, posted_heirs, ended_heirs}
use Rattle.history.proofs.Seen.{Seen, heirs_seen}

-- in a step that is over nobody is left
over_heirs : (ts : List Task) (code : ℕ) → Heirs ts (over_step code).tasks
unfolding over_step
over_heirs ts code n u = never _ u (free_unused _ n (place_free highest_task n))

-- the mothers that the run tells of lead to c from where the table's do
pub told_below : (s : Step) → Running s → (r : Reading) → Seen s r → (c : ℕ) → used s.tasks c ≡ true
    → (n : ℕ) → used s.tasks n ≡ true → climbs (mother_in r.links) highest_task c n ≡ below s.tasks c n
told_below s h r e c u =
    let p = used_pos s.tasks c u in
    climbs_below _ h.tasks.job_step h.tasks.mothers _ e.root e.mothers c (λ z. omega (arith, p))

-- a reading when those have ended
abbrev pub ended_in : Reading → (ℕ → Bool) → Reading
ended_in r who = read_by r (Ends who)

module _ (s : Step) (h : Running s) (r : Reading) (e : Seen s r) (who : ℕ → Bool) where
  then_kept : (ended_in r who).queue ≡ keep (outlives who) s.queue
  then_kept = ends who r.queue ∙ ap (keep (outlives who)) e.queue

  -- everybody ends
  pub over_seen : (code : ℕ) → ((n : ℕ) → live s.tasks n ≡ true → who n ≡ true)
      → Seen (over_step code) (ended_in r who)
  unfolding over_step entries_live
  over_seen code all =
      heirs_seen s r e _ _ (over_heirs _ code)
      (then_kept ∙ keep_among (λ (x : Entry). live s.tasks x.task) _ (λ (x : Entry). false)
      (λ x l. ap not (all x.task l)) s.queue h.queue.entries ∙ keep_none s.queue)

  -- task c ends, with all below it
  module _ (c : ℕ) (u : used s.tasks c ≡ true)
      (exact : (n : ℕ) → live s.tasks n ≡ true → who n ≡ ends_with (mother_in r.links) c n) where
    module _ (other : c ≡ job_step_task → ⊥) where
      left_seen : (last : Task) → is_live last.condition ≡ false
          → (is_free last.condition ≡ false → last.mother ≡ (place s.tasks c).mother)
          → Seen (left_by s (end_tasks s.tasks c last)) (ended_in r who)
      unfolding left_by entries_live ends_with
      left_seen last dead kin =
          heirs_seen s r e _ _
          (later_heirs ts us _ (ended_heirs ts c last kin)
          (kindred_heirs us _ (kindred (keep (entry_stays us) s.queue) us)))
          (then_kept ∙ keep_among (λ (x : Entry). live ts x.task) _ _ (λ x l. stay x.task l) s.queue
          h.queue.entries)
        where
          ts : List Task
          ts = s.tasks

          us : List Task
          us = end_tasks ts c last

          goes : (n : ℕ) → live ts n ≡ true → who n ≡ below ts c n
          goes n l =
              exact n l
              ∙ ap (λ (b : Bool). b || climbs (mother_in r.links) highest_task c n) (ne_eqb c job_step_task other)
              ∙ told_below s h r e c u n (live_used ts n l)

          stay : (n : ℕ) → live ts n ≡ true → not (who n) ≡ live us n
          stay n l =
              ap not (goes n l)
              ∙ sym
              (live_exactly ts h.tasks.fits h.tasks.job_step h.tasks.mothers c u other last dead kin n
              ∙ ap (λ (b : Bool). b && not (below ts c n)) l)

      pub detached_seen : Seen (detached s c) (ended_in r who)
      unfolding detached
      detached_seen = left_seen no_task refl (λ f. absurd (true≢false f))

      posted_seen : (code : ℕ) (m : Option EcbNumber)
          → Seen (end_posted (left_by s (end_tasks s.tasks c (ended_place (place s.tasks c) m))) m code)
          (ended_in r who)
      unfolding detached
      posted_seen code None = detached_seen
      posted_seen code (Some n) =
          let t = left_by s (end_tasks s.tasks c (with_condition (place s.tasks c) Ended)) in
          let v = left_seen (with_condition (place s.tasks c) Ended) refl (λ f. refl) in
          heirs_seen t (ended_in r who) v _ _ (posted_heirs t.tasks t.ecbs n.0 code) v.queue

    pub ended_seen : (code : ℕ) → Seen (ended s c code) (ended_in r who)
    unfolding ended ends_with pick
    ended_seen code = one (eqb c job_step_task) refl
      where
        one : (b : Bool) → eqb c job_step_task ≡ b
            → Seen (pick b (over_step code)
            (end_posted (left_by s (end_tasks s.tasks c (ended_place (place s.tasks c) (place s.tasks c).ecb)))
            (place s.tasks c).ecb code)) (ended_in r who)
        one true q = over_seen code (λ n l. exact n l ∙ rw q)
        one false q = posted_seen (eqb-false c job_step_task q) code (place s.tasks c).ecb
