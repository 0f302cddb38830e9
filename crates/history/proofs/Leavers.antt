-- END, ABEND and DETACH: the run tells who ends, and so whose entries go.
use mathlib.Core.Path.{◌≡◌, refl, sym, ap, ◌∙◌}
use mathlib.Core.Bool.{Bool, true, false, not, ◌||◌}
use mathlib.Core.List.{List}
use Prim.Native.Nat.{ℕ}
use lib.Dec.{eqb}
use lib.ListN.{length}
use borrow.Author.Tests.{eqb-true, eq-eqb, not-true}
use Rattle.lists.specs.Bools.{join, never, same_test}
use Rattle.lists.specs.Every.{none_every}
use Rattle.lists.specs.Pick.{pick}
use Rattle.kinds.specs.Limits.{job_step_task, highest_task}
use Rattle.kinds.specs.declared.numbers.TaskNumber.{TaskNumber}
use Rattle.kinds.specs.declared.tasks.Task.{Task}
use Rattle.kinds.specs.declared.requests.Request.TheVariants.{Detach, End, Abend}
use Rattle.std.specs.Prelude.{Ok}
use Rattle.rules.specs.Names.{Names}
use Rattle.rules.specs.Family.{place, live, used, mother, below, is_subtask_of, has_subtasks}
use Rattle.rules.specs.Steps.{Step}
use Rattle.rules.specs.Admission.{gate_of}
use Rattle.rules.specs.End.{end_verdict, end_done}
use Rattle.rules.specs.Abend.{abend_done}
use Rattle.rules.specs.Detach.{detach_verdict, detach_done}
use Rattle.rules.specs.Reading.{mother_in, ends_with, ends_alone, Reading}
use Rattle.laws.specs.Places.{every_number}
use Rattle.laws.specs.Chains.{only, Chain, here, up, used_pos, used_within, below_chain, chain_below}
use Rattle.laws.specs.Mothers.{fits_length}
use Rattle.laws.specs.Running.{Running}
use Rattle.laws.specs.Admitted.{live_used, open_used}
use Rattle.laws.specs.KeptTasks.{end_alone, detach_direct, subtask_used, subtask_other}
use Rattle.history.proofs.Seen.{Seen}
use Rattle.history.proofs.Departing.{told_below, over_seen, detached_seen, ended_seen}
use Rattle.history.proofs.Turns.{Follows}

-- A TASK WITHOUT SUBTASKS: nobody else is below it

module _ (ts : List Task) (c : ℕ) (alone : has_subtasks ts c ≡ false) where
  subtask_none : (n : ℕ) → used ts n ≡ true → mother ts n ≡ c → ⊥
  unfolding is_subtask_of used mother
  subtask_none n u m =
      never _ (join _ _ u (eq-eqb (place ts n).mother.0 c m))
      (not-true _ (every_number (λ (x : Task). not (is_subtask_of c x)) ts (none_every (is_subtask_of c) ts alone) n
      (used_pos ts n u) (used_within ts n u)))

  lone_chain : (n : ℕ) → Chain ts (only c) n → eqb n c ≡ true
  lone_chain n (here u h) = h
  lone_chain n (up u r) = absurd (subtask_none n u (eqb-true (mother ts n) c (lone_chain (mother ts n) r)))

  lone_below : length ts ≡ highest_task → (n : ℕ) → used ts n ≡ true → eqb n c ≡ below ts c n
  lone_below fit n u =
      same_test (eqb n c) _ (λ h. chain_below ts c n fit (here u h)) (λ b. lone_chain n (below_chain ts c n b))

module _ (s : Step) (r : Reading) (e : Seen s r) (l : Names) where
  abbrev m : ℕ → ℕ
  m = mother_in r.links

  -- END
  alone_same : Running s → (c : ℕ) → used s.tasks c ≡ true → has_subtasks s.tasks c ≡ false → (n : ℕ)
      → live s.tasks n ≡ true → ends_alone c n ≡ ends_with m c n
  unfolding ends_with
  alone_same h c u f n a =
      let v = live_used s.tasks n a in
      ap (λ (b : Bool). eqb c job_step_task || b)
      (lone_below s.tasks c f (fits_length s.tasks h.tasks.fits) n v ∙ sym (told_below s h r e c u n v))

  pub end_done_lem : Running s → (c : TaskNumber) (code : ℕ) → gate_of s c ≡ Ok tt → end_verdict s.tasks c code ≡ Ok tt
      → Follows r (End c code) l (end_done s c code)
  unfolding end_done
  end_done_lem h c code o v =
      let u = open_used s c o in
      ended_seen s h r e (ends_alone c.0) c.0 u (alone_same h c.0 u (end_alone s.tasks c code v)) code

  -- ABEND
  pub abend_done_lem : Running s → (c : TaskNumber) (code : ℕ) → gate_of s c ≡ Ok tt → (step : Bool)
      → Follows r (Abend c code step) l (abend_done s c code step)
  unfolding abend_done pick
  abend_done_lem h c code o true = over_seen s h r e (λ n. true || ends_with m c.0 n) code (λ n a. refl)
  abend_done_lem h c code o false =
      ended_seen s h r e (λ n. false || ends_with m c.0 n) c.0 (open_used s c o) (λ n a. refl) code

  -- DETACH
  pub detach_done_lem : Running s → (c task : TaskNumber) → gate_of s c ≡ Ok tt → detach_verdict s.tasks c task ≡ Ok tt
      → Follows r (Detach c task) l (detach_done s task)
  unfolding detach_done
  detach_done_lem h c task o v =
      let d = detach_direct s.tasks c task v in
      let u = open_used s c o in
      detached_seen s h r e (ends_with m task.0) task.0 (subtask_used s h c task.0 u d) (λ n a. refl)
      (subtask_other s h c task.0 u d)
