-- DEMAND 3 of any turns and any sound step that holds the queue they tell of.
use mathlib.Core.Path.{◌≡◌, refl, sym, ap, subst, ◌∙◌}
use mathlib.Core.Bool.{Bool, true, false, ◌||◌, false≢true}
use mathlib.Core.List.{List, [], ◌∷◌}
use Prim.Native.Nat.{ℕ}
use borrow.Author.Tests.{eq-eqb}
use Rattle.lists.specs.Lists.{some}
use Rattle.rules.specs.Control.{Entry, of_task, queue_of, lacks}
use Rattle.rules.specs.Steps.{Step}
use Rattle.rules.specs.SoundQueue.{entries_once}
use Rattle.rules.specs.Sound.{sound_step}
use Rattle.rules.specs.Reading.{Turn, queue_read}
use Rattle.rules.specs.DemandThree.{leading_run, waits_in, Demand3}
use Rattle.laws.specs.Owners.{owners_leading}
use Rattle.history.proofs.Grouped.{Grouped}
use Rattle.history.proofs.Ringless.{no_ring}
use Rattle.history.proofs.First.{first_free}
use Rattle.history.proofs.Habit.{habit_grouped}
use Rattle.history.proofs.Leading.{leads}
use Rattle.history.proofs.Waits.{sound_waits, sound_once}

-- where some task lacks control, some task with an entry lacks nothing
free_task : (q : List Entry) → Grouped q → entries_once q ≡ true → (t : ℕ) → lacks t q ≡ true
    → (u : ℕ) × (some (of_task u) q ≡ true) × (lacks u q ≡ false)
free_task [] g d t h = absurd (false≢true h)
free_task (x ∷ q) g d t h =
    (x.task, ap (λ (b : Bool). b || some (of_task x.task) q) (eq-eqb x.task x.task refl), first_free x q g d)

pub conclude : (us : List Turn) (s : Step) → sound_step s ≡ true → s.queue ≡ queue_read us → Demand3 us s
conclude us s h e = record {
  sound = h;
  stored = e;
  owned = λ n. owners_leading n s.queue ∙ ap (λ (q : List Entry). leading_run (queue_of n q)) e;
  among = λ n x k w. leads n x (queue_read us) (sym (waits x.task) ∙ w) k;
  waiting = waits;
  ringless = λ o. no_ring (queue_read us) (habit_grouped us o);
  moving = λ o t w.
      let d = subst (λ (q : List Entry). entries_once q ≡ true) e (sound_once s h) in
      let f = free_task (queue_read us) (habit_grouped us o) d t (sym (waits t) ∙ w) in
      (f.0, f.1, waits f.0 ∙ f.2);
}
  where
    waits : (t : ℕ) → waits_in s t ≡ lacks t (queue_read us)
    waits t = sound_waits s h t ∙ ap (lacks t) e
