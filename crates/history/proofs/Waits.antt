-- In a sound step a number, with a place or not, is in a resource wait exactly when an entry of its lacks control.
use mathlib.Core.Path.{◌≡◌, refl, sym, ap, ◌∙◌}
use mathlib.Core.Bool.{Bool, true, false, not, false≢true}
use mathlib.Core.List.{List, [], ◌∷◌}
use mathlib.Core.Logic.{◌⊎◌, inl, inr}
use Prim.Native.Nat.{ℕ, zero, suc, ◌≤◌, ◌<◌}
use native.Mathlib.Omega.{arith}
use lib.Dec.{leb}
use lib.ListN.{length}
use borrow.Author.Tests.{eqb-true, leb-true, leb-false}
use Rattle.lists.specs.Lists.{every, none}
use Rattle.lists.specs.Bools.{both, and_left, alike_eq, not_so, never}
use Rattle.lists.specs.Every.{every_gives}
use Rattle.lists.specs.Pick.{pick_true}
use Rattle.kinds.specs.Ranges.{end_code_good}
use Rattle.kinds.specs.Tasks.{no_task, is_free, is_live, in_resource_wait}
use Rattle.kinds.specs.declared.tasks.Task.{Task}
use Rattle.kinds.specs.declared.tasks.Condition.{Condition}
use Rattle.kinds.specs.declared.tasks.Condition.TheVariants.{Free, Ready, ResourceWait, EcbWait, Ended}
use Rattle.rules.specs.Control.{Entry, of_task, lacks}
use Rattle.rules.specs.Family.{place, condition_of, live}
use Rattle.rules.specs.Steps.{Step}
use Rattle.rules.specs.SoundTasks.{zero_task}
use Rattle.rules.specs.SoundQueue.{entries_live, wait_good, waits_good, entries_once}
use Rattle.rules.specs.Sound.{sizes_good, over_good, running_good, sound_step}
use Rattle.rules.specs.DemandThree.{waits_in}
use Rattle.laws.specs.Places.{place_none, place_past, at_number, every_number}
use Rattle.laws.specs.Running.{Running, running_parts}
use Rattle.laws.specs.Lacking.{lacks_none}

-- a number has a place in the task table, or counts as free
placed : (ts : List Task) (n : ℕ) → ((0 < n) × (n ≤ length ts)) ⊎ (place ts n ≡ no_task)
placed ts zero = inr (place_none ts zero refl)
placed ts (suc i) = one (leb (suc i) (length ts)) refl
  where
    one : (b : Bool) → leb (suc i) (length ts) ≡ b → ((0 < suc i) × (suc i ≤ length ts)) ⊎ (place ts (suc i) ≡ no_task)
    one true e = inl (omega arith, leb-true (suc i) (length ts) e)
    one false e = inr (place_past ts (suc i) (leb-false (suc i) (length ts) e))

-- A STEP THAT RUNS

module _ (s : Step) (r : Running s) where
  -- whoever is not live has no entry
  dead_lacks : (t : ℕ) → live s.tasks t ≡ false → lacks t s.queue ≡ false
  unfolding entries_live
  dead_lacks t d =
      lacks_none t s.queue
      (every_gives (λ (e : Entry). live s.tasks e.task) (λ (e : Entry). not (of_task t e)) other s.queue
      r.queue.entries)
    where
      other : (e : Entry) → live s.tasks e.task ≡ true → not (of_task t e) ≡ true
      other e l =
          ap not (not_so _
          (λ o. never (live s.tasks e.task) l (ap (live s.tasks) (eqb-true e.task t o) ∙ d)))

  running_waits : (t : ℕ) → waits_in s t ≡ lacks t s.queue
  unfolding waits_good wait_good
  running_waits t = one (placed s.tasks t)
    where
      one : ((0 < t) × (t ≤ length s.tasks)) ⊎ (place s.tasks t ≡ no_task) → waits_in s t ≡ lacks t s.queue
      one (inl p) = alike_eq (waits_in s t) (lacks t s.queue) (at_number _ s.tasks r.waits t p.0 p.1)
      one (inr e) =
          ap (λ (x : Task). in_resource_wait x.condition) e
          ∙ sym (dead_lacks t (ap (λ (x : Task). is_live x.condition) e))

-- A STEP THAT IS OVER

free_idle : (k : Condition) → is_free k ≡ true → in_resource_wait k ≡ false
free_idle Free h = refl
free_idle Ready h = refl
free_idle ResourceWait h = sym h
free_idle (EcbWait n) h = refl
free_idle Ended h = refl

none_empty : (q : List Entry) → none q ≡ true → q ≡ []
none_empty [] h = refl
none_empty (e ∷ q) h = absurd (false≢true h)

module _ (s : Step) (h : sound_step s ≡ true) where
  over_parts : s.over ≡ true → (every zero_task s.tasks ≡ true) × (none s.queue ≡ true)
  unfolding sound_step over_good
  over_parts o =
      let g : over_good s ≡ true = sym (pick_true s.over (over_good s) (running_good s) o) ∙ h in
      let a = both (sizes_good s.tasks s.ecbs) _ g in
      let b = both (end_code_good s.code) _ a.1 in
      let d = both (every zero_task s.tasks) _ b.1 in
      (d.0, and_left (none s.queue) _ d.1)

  over_waits : s.over ≡ true → (t : ℕ) → waits_in s t ≡ false
  unfolding zero_task
  over_waits o t = one (placed s.tasks t)
    where
      one : ((0 < t) × (t ≤ length s.tasks)) ⊎ (place s.tasks t ≡ no_task) → waits_in s t ≡ false
      one (inl p) =
          free_idle (condition_of _ t)
          (and_left _ _ (every_number zero_task s.tasks (over_parts o).0 t p.0 p.1))
      one (inr e) = ap (λ (x : Task). in_resource_wait x.condition) e

  pub sound_waits : (t : ℕ) → waits_in s t ≡ lacks t s.queue
  sound_waits t = one s.over refl
    where
      one : (b : Bool) → s.over ≡ b → waits_in s t ≡ lacks t s.queue
      one true o = over_waits o t ∙ ap (lacks t) (sym (none_empty s.queue (over_parts o).1))
      one false o = running_waits s (running_parts s h o) t

  pub sound_once : entries_once s.queue ≡ true
  unfolding entries_once
  sound_once = one s.over refl
    where
      one : (b : Bool) → s.over ≡ b → entries_once s.queue ≡ true
      one true o = ap entries_once (none_empty s.queue (over_parts o).1)
      one false o = (running_parts s h o).queue.once
