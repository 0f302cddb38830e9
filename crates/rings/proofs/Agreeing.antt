-- Two tests that agree on the tasks of a queue give the same lines.
use mathlib.Core.Path.{◌≡◌, refl, ap, ap₂, ◌∙◌}
use mathlib.Core.Bool.{Bool, true, not, ◌&&◌}
use mathlib.Core.List.{List, [], ◌∷◌, ◌++◌, map}
use Prim.Native.Nat.{ℕ}
use lib.Dec.{eqb}
use lib.ListN.{length, take}
use Rattle.lists.specs.Lists.{every, keep, numbers, gathered}
use Rattle.lists.specs.Pick.{pick}
use Rattle.lists.specs.Bools.{both, join}
use Rattle.lists.specs.Every.{every_append}
use Rattle.lists.specs.Keeping.{keep_among, every_keep}
use Rattle.kinds.specs.Limits.{highest_task}
use Rattle.kinds.specs.Ranges.{between, task_good}
use Rattle.rules.specs.Control.{Entry, of_task}
use Rattle.rules.specs.Rings.{bars, stuck}
use Rattle.rules.specs.Reports.{StuckTask, stuck_at, holds_up, stuck_at_from, first_stuck_at, stuck_tasks, stuck_item, itemised}
use Rattle.rules.specs.Reports.{stuck_list}
use Rattle.laws.specs.Grouping.{gathered_among}
use Rattle.queue.specs.Marking.{mark_at, marked_by, mark_at_lem}
use Rattle.queue.specs.declared.marks.Marks.{Marks}
use Rattle.rings.proofs.InRange.{good_high}

abbrev tasks_good : List Entry → Bool
tasks_good q = every (λ (e : Entry). task_good e.task) q

module _ (f g : ℕ → Bool) (agree : (k : ℕ) → task_good k ≡ true → f k ≡ g k) where
  held_same : (t : ℕ) (p l : List Entry) → tasks_good p ≡ true → tasks_good l ≡ true
      → stuck_at_from f t p l ≡ stuck_at_from g t p l
  held_same t p [] h k = refl
  held_same t p (e ∷ l) h k =
      let b = both (task_good e.task) (tasks_good l) k in
      let more : tasks_good (p ++ (e ∷ [])) ≡ true =
      every_append (λ (x : Entry). task_good x.task) p (e ∷ [])
      ∙ join (tasks_good p) (tasks_good (e ∷ [])) h (join (task_good e.task) true b.0 refl) in
      ap₂ (λ (r s : List StuckTask). r ++ s)
      (ap (map (stuck_at (length p) e)) (keep_among (λ (x : Entry). task_good x.task)
      (λ (x : Entry). of_task t e && holds_up f e x) (λ (x : Entry). of_task t e && holds_up g e x)
      (λ x w. ap (λ (a : Bool). of_task t e && ((not (eqb x.task e.task) && a) && bars x e)) (agree x.task w))
      p h))
      (held_same t (p ++ (e ∷ [])) l more b.1)

  numbers_good : every task_good (numbers 1 highest_task) ≡ true
  unfolding pick
  numbers_good = refl

  lines_same : (q : List Entry) → tasks_good q ≡ true
      → gathered (first_stuck_at f q) (keep f (numbers 1 highest_task))
      ≡ gathered (first_stuck_at g q) (keep g (numbers 1 highest_task))
  lines_same q h =
      gathered_among task_good (first_stuck_at f q) (first_stuck_at g q)
      (λ t w. ap (take 1) (held_same t [] q refl h)) (keep f (numbers 1 highest_task))
      (every_keep task_good f (numbers 1 highest_task) numbers_good)
      ∙ ap (gathered (first_stuck_at g q)) (keep_among task_good f g agree (numbers 1 highest_task) numbers_good)

-- the marks of those that are stuck
pub marked_lines : (q : List Entry) (on : Marks) → tasks_good q ≡ true → on ≡ marked_by (stuck q)
    → itemised stuck_item (gathered (first_stuck_at (mark_at on) q) (keep (mark_at on) (numbers 1 highest_task)))
    ≡ stuck_list q
unfolding stuck_list stuck_tasks
marked_lines q on h e =
    ap (itemised stuck_item) (lines_same (mark_at on) (stuck q)
    (λ k w. ap (λ (m : Marks). mark_at m k) e ∙ mark_at_lem (stuck q) k (good_high k w)) q h)
