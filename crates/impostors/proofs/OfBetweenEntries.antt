-- Wrong answers that the contracts of `between::entries`, `between::entries_ending` and `between::waking` rule out.
use mathlib.Core.Path.{refl}
use mathlib.Core.Bool.{not, ◌&&◌, ◌||◌}
use mathlib.Core.List.{List, [], ◌∷◌}
use native.Mathlib.Omega.{arith}
use Rattle.lists.specs.Pick.{pick}
use Rattle.lists.specs.Lists.{every, some, keep, every_at, map_at, alike}
use Rattle.lists.specs.Tables.{padded}
use Rattle.kinds.specs.Limits.{highest_task}
use Rattle.kinds.specs.Tasks.{no_task, is_ready, in_resource_wait, waits, with_condition}
use Rattle.kinds.specs.declared.tasks.Condition.{Condition}
use Rattle.kinds.specs.declared.tasks.Condition.TheVariants.{Ready, ResourceWait, EcbWait, Ended}
use Rattle.std.specs.Prelude.{Some, None}
use Rattle.kinds.specs.declared.tasks.Task.{Task}
use Rattle.rules.specs.Control.{Entry, of_task, has_entry, holding, lacks}
use Rattle.rules.specs.Family.{condition_of, used}
use Rattle.rules.specs.ResourceWaits.{waits_by}
use Rattle.rules.specs.Table.{row_of, exc}
use Rattle.rules.specs.Enq.{entry_for}
use Rattle.tasks.specs.TaskTables.{task_table_of}
use Rattle.tasks.specs.declared.TaskTable.{TaskTable}
use Rattle.queue.specs.Queues.{entries_in, stored_entries, PackedEntries}
use Rattle.between.proofs.entries.entries_live.Reads as entries_live
use Rattle.between.proofs.entries.waits_good.Reads as waits_good
use Rattle.between.proofs.entries_ending.entries_left.Reads as entries_left
use Rattle.between.proofs.waking.wake.Reads as wake
use Rattle.impostors.specs.Fitting.{◌⊗◌, fits-TaskTable, fits-Queue, fits_end}
use Rattle.impostors.specs.Opened.{tables_open}
use Rattle.impostors.specs.Samples.{ecb, x_at, y_at}
use Rattle.impostors.specs.Wrong.{RuledOut, wrong_at}

-- task 1 is ready, and its subtask 2, attached with ECB 3, in this condition
abbrev tasks : Condition → TaskTable
tasks k =
    task_table_of (padded highest_task no_task (row_of Ready 0 200 150 None ∷ row_of k 1 200 150 (Some (ecb 3)) ∷ []))

-- the condition of 2
abbrev second : TaskTable → Condition
second f = condition_of f.places 2

-- task 1 owns x, and 2 waits for it
abbrev owner_and_waiter : List Entry
owner_and_waiter = entry_for 1 (exc x_at) ∷ entry_for 2 (exc x_at) ∷ []

two_packed : PackedEntries (stored_entries owner_and_waiter)
unfolding tables_open
two_packed = record { form = refl; room = omega arith }

-- an entry of a task that has ended passes
pub entries_live_ended_too : RuledOut (λ k. fits-Queue ⊗ fits-TaskTable ⊗ fits_end) entries_live.Pre entries_live.Post
    (λ k a. every (λ (e : Entry). used a.1.0.places e.task) (entries_in a.0))
unfolding tables_open
entries_live_ended_too =
    wrong_at tt (stored_entries owner_and_waiter, (tasks Ended, tt)) refl (omega arith) (λ b. b) refl refl

-- a task that waits is not live
pub entries_live_ready_only : RuledOut (λ k. fits-Queue ⊗ fits-TaskTable ⊗ fits_end) entries_live.Pre entries_live.Post
    (λ k a. every (λ (e : Entry). is_ready (condition_of a.1.0.places e.task)) (entries_in a.0))
unfolding tables_open
entries_live_ready_only =
    wrong_at tt (stored_entries owner_and_waiter, (tasks ResourceWait, tt)) refl (omega arith) not refl refl

-- a task may wait that lacks nothing: 2 waits, and there is no entry
pub waits_good_waiting_for_nothing :
    RuledOut (λ k. fits-Queue ⊗ fits-TaskTable ⊗ fits_end) waits_good.Pre waits_good.Post
    (λ k a. every_at (λ n (t : Task). in_resource_wait t.condition || not (lacks n (entries_in a.0))) 1
    a.1.0.places)
unfolding tables_open
waits_good_waiting_for_nothing =
    wrong_at tt (stored_entries [], (tasks ResourceWait, tt)) refl (omega arith) (λ b. b) refl refl

-- a task may go on that lacks control: 2 is ready
pub waits_good_ready_without_control :
    RuledOut (λ k. fits-Queue ⊗ fits-TaskTable ⊗ fits_end) waits_good.Pre waits_good.Post
    (λ k a. every_at (λ n (t : Task). not (in_resource_wait t.condition) || lacks n (entries_in a.0)) 1
    a.1.0.places)
unfolding tables_open
waits_good_ready_without_control =
    wrong_at tt (stored_entries owner_and_waiter, (tasks Ready, tt)) refl (omega arith) (λ b. b) refl refl

-- an ECB wait is taken for a resource wait: 2 is in one, and lacks nothing
pub waits_good_of_either_kind : RuledOut (λ k. fits-Queue ⊗ fits-TaskTable ⊗ fits_end) waits_good.Pre waits_good.Post
    (λ k a. every_at (λ n (t : Task). alike (waits t.condition) (lacks n (entries_in a.0))) 1 a.1.0.places)
unfolding tables_open
waits_good_of_either_kind = wrong_at tt (stored_entries [], (tasks (EcbWait 1), tt)) refl (omega arith) not refl refl

-- an entry of a task that has ended stays
pub entries_left_ended_stay : RuledOut (λ k. fits-Queue ⊗ fits-TaskTable ⊗ fits_end) entries_left.Pre entries_left.Post
    (λ k a. stored_entries (keep (λ (e : Entry). used a.1.0.places e.task) (entries_in a.0)))
unfolding tables_open
entries_left_ended_stay =
    wrong_at tt (stored_entries owner_and_waiter, (tasks Ended, tt)) refl two_packed
    (λ q. has_entry (entries_in q) 2 x_at) refl refl

-- an entry of a task that waits goes
pub entries_left_waiting_go : RuledOut (λ k. fits-Queue ⊗ fits-TaskTable ⊗ fits_end) entries_left.Pre entries_left.Post
    (λ k a. stored_entries (keep (λ (e : Entry). is_ready (condition_of a.1.0.places e.task)) (entries_in a.0)))
unfolding tables_open
entries_left_waiting_go =
    wrong_at tt (stored_entries owner_and_waiter, (tasks ResourceWait, tt)) refl two_packed
    (λ q. not (has_entry (entries_in q) 2 x_at))
    refl refl

-- nobody wakes: 2 waits, and no entry is left
pub wake_nobody : RuledOut (λ k. fits-Queue ⊗ fits-TaskTable ⊗ fits_end) wake.Pre wake.Post (λ k a. a.1.0)
unfolding tables_open
wake_nobody =
    wrong_at tt (stored_entries [], (tasks ResourceWait, tt)) refl (omega arith)
    (λ f. in_resource_wait (second f)) refl refl

-- whoever has control of something wakes: 2 owns y, and waits for x
pub wake_at_the_first_grant : RuledOut (λ k. fits-Queue ⊗ fits-TaskTable ⊗ fits_end) wake.Pre wake.Post
    (λ k a. task_table_of (map_at (λ n (t : Task).
    pick (in_resource_wait t.condition && (not (lacks n (entries_in a.0))
    || some (of_task n) (holding [] (entries_in a.0))))
    (with_condition t Ready) t) 1 a.1.0.places))
unfolding tables_open
wake_at_the_first_grant =
    wrong_at tt (stored_entries (entry_for 2 (exc y_at) ∷ owner_and_waiter), (tasks ResourceWait, tt)) refl (omega arith)
    (λ f. is_ready (second f)) refl refl

-- whoever lacks control begins to wait: 2 is ready
pub wake_also_holds_up : RuledOut (λ k. fits-Queue ⊗ fits-TaskTable ⊗ fits_end) wake.Pre wake.Post
    (λ k a. task_table_of (waits_by (entries_in a.0) a.1.0.places))
unfolding tables_open
wake_also_holds_up =
    wrong_at tt (stored_entries owner_and_waiter, (tasks Ready, tt)) refl (omega arith)
    (λ f. in_resource_wait (second f)) refl
    refl
