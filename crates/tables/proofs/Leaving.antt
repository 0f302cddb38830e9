-- The one ending, on the tables: what leaves each of them makes what the rules leave of the step.
use mathlib.Core.Path.{◌≡◌, ap, ◌∙◌}
use mathlib.Core.Bool.{Bool, true, false}
use mathlib.Core.List.{List, map}
use Prim.Native.Nat.{ℕ, ◌≤◌}
use borrow.Author.Tests.{leb-true}
use Rattle.lists.specs.Lists.{keep}
use Rattle.kinds.specs.Limits.{highest_ecb}
use Rattle.kinds.specs.Tasks.{is_live}
use Rattle.kinds.specs.declared.numbers.TaskNumber.{TaskNumber}
use Rattle.kinds.specs.declared.numbers.EcbNumber.{EcbNumber}
use Rattle.kinds.specs.declared.tasks.Task.{Task}
use Rattle.std.specs.Prelude.{Some}
use Rattle.rules.specs.Control.{Entry}
use Rattle.rules.specs.Family.{place, used}
use Rattle.rules.specs.Attach.{maybe_good}
use Rattle.rules.specs.Steps.{Step}
use Rattle.rules.specs.SoundTasks.{task_ecbs_good}
use Rattle.rules.specs.Ending.{end_tasks, entry_stays, area_stays, waiter_stays, left_by}
use Rattle.laws.specs.Places.{every_number}
use Rattle.laws.specs.Chains.{used_pos, used_within}
use Rattle.laws.specs.Waking.{wake_by}
use Rattle.laws.specs.Running.{Running}
use Rattle.laws.specs.Endings.{left_wakes}
use Rattle.tasks.specs.TaskTables.{task_table_of}
use Rattle.tasks.specs.declared.TaskTable.{TaskTable}
use Rattle.ecbs.specs.Blocks.{ecb_table_of}
use Rattle.ecbs.specs.declared.EcbTable.{EcbTable}
use Rattle.queue.specs.Queues.{entries_in, stored_entries}
use Rattle.queue.specs.declared.Queue.{Queue}
use Rattle.queue.proofs.Views.{live_stored, kept_pointing}
use Rattle.storage.specs.Stored.{areas_in, stored_areas}
use Rattle.storage.specs.declared.Storage.{Storage}
use Rattle.tables.specs.Tables.{step_of}
use Rattle.tables.specs.Endings.{left_with}
use Rattle.tables.specs.declared.AllTables.{AllTables}

-- what the passes over the tables leave, table by table: f has the tasks, whose places have yet to be woken
module _ (t : AllTables) (n : TaskNumber) (last : Task) (h : Running (step_of t)) (d : is_live last.condition ≡ false)
    (f : TaskTable) (a : f ≡ task_table_of (end_tasks t.tasks.places n.0 last)) where
  abbrev left : Step
  left = left_with t n last

  abbrev entries : List Entry
  entries = keep (entry_stays f.places) (entries_in t.queue)

  pub left_queue : (q : Queue) → q ≡ stored_entries entries → q ≡ stored_entries left.queue
  unfolding left_by
  left_queue q b = rw a at b

  pub left_tasks : (q : Queue) (g : TaskTable) → q ≡ stored_entries entries
      → g ≡ task_table_of (wake_by (entries_in q) f.places) → g ≡ task_table_of left.tasks
  unfolding left_by
  left_tasks q g b w =
      w ∙ ap (λ (l : List Entry). task_table_of (wake_by l f.places))
      (ap entries_in b ∙ live_stored entries (kept_pointing _ t.queue))
      ∙ rw a (ap task_table_of (left_wakes (step_of t) h n.0 last d))

  pub left_ecbs : (e : EcbTable) → e ≡ ecb_table_of (map (waiter_stays f.places) t.ecbs.ecbs)
      → e ≡ ecb_table_of left.ecbs
  unfolding left_by
  left_ecbs e b = rw a at b

  pub left_areas : (k : Storage) → k ≡ stored_areas (keep (area_stays f.places) (areas_in t.storage))
      → k ≡ stored_areas left.areas
  unfolding left_by
  left_areas k b = rw a at b

-- the ECB of a task in use is in range
pub ecb_place : (s : Step) (c : ℕ) (x : Task) (e : EcbNumber)
    → Running s → used s.tasks c ≡ true → x ≡ place s.tasks c → x.ecb ≡ Some e → e.0 ≤ highest_ecb
unfolding task_ecbs_good
ecb_place s c x e h u p q =
    let ts = s.tasks in
    let g : Task → Bool = λ y. maybe_good y.ecb in
    let r = every_number g ts h.tasks.task_ecbs c (used_pos ts c u) (used_within ts c u) in
    leb-true e.0 highest_ecb (rw (← p, q) at r)
