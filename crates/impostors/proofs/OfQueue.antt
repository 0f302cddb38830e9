-- Wrong answers that the contracts of `queue` rule out.
use mathlib.Core.Path.{refl}
use mathlib.Core.Bool.{true, false, not, ◌&&◌, ◌||◌}
use mathlib.Core.List.{List, [], ◌∷◌, ◌++◌}
use Prim.Native.Nat.{◌-◌, ◌%◌}
use native.Mathlib.Omega.{arith}
use lib.Dec.{eqb, leb, ltb}
use lib.ListN.{length, take, drop, replicate}
use Rattle.lists.specs.Pick.{pick}
use Rattle.lists.specs.Lists.{every, some, distinct, alike}
use Rattle.lists.specs.Tables.{padded}
use Rattle.kinds.specs.Limits.{highest_task, most_entries}
use Rattle.kinds.specs.declared.names.Slot.{Slot}
use Rattle.rules.specs.Names.{same_name}
use Rattle.rules.specs.Control.{Entry, of_task, holding, lacks}
use Rattle.rules.specs.Table.{shr, exc}
use Rattle.rules.specs.Enq.{entry_for}
use Rattle.rules.specs.SoundQueue.{same_request, entries_once}
use Rattle.names.specs.Pointers.{pointer, offset_of}
use Rattle.queue.specs.Queues.{entry_of, slot_of, zero_slot, entries_in, stored_entries, rest_zero}
use Rattle.queue.specs.Marking.{all_marks, no_marks, mark_at, marked_by, marks_among}
use Rattle.queue.specs.declared.Queue.{Queue}
use Rattle.queue.proofs.empty.Reads as empty
use Rattle.queue.proofs.packed.Reads as packed
use Rattle.queue.proofs.queue_fits.Reads as queue_fits
use Rattle.queue.proofs.bars.Reads as bars
use Rattle.queue.proofs.entries_once.Reads as entries_once_fn
use Rattle.queue.proofs.entry_names_good.Reads as entry_names_good
use Rattle.queue.proofs.lacking.Reads as lacking
use Rattle.queue.proofs.marks.all_marks.Reads as all_marks_fn
use Rattle.queue.proofs.marks.no_marks.Reads as no_marks_fn
use Rattle.impostors.specs.Fitting.{◌⊗◌, fits-Marks, fits-Queue, fits-Slot, fits_end}
use Rattle.impostors.specs.Opened.{tables_open}
use Rattle.impostors.specs.Samples.{x_at, y_at}
use Rattle.impostors.specs.Wrong.{RuledOut, wrong_at}

-- the table is full of entries
abbrev full : Queue
full = stored_entries (replicate most_entries (entry_for 1 (exc x_at)))

-- a place that no entry stands in, but exclusive
abbrev exclusive_place : Slot
exclusive_place = record { task = zero_slot.task; exclusive = true; name = zero_slot.name }

-- one that points to y
abbrev pointing_place : Slot
pointing_place = record { task = zero_slot.task; exclusive = false; name = record { 0 = offset_of y_at } }

-- task 1 owns x, and 2 waits for it
abbrev owner_and_waiter : List Entry
owner_and_waiter = entry_for 1 (exc x_at) ∷ entry_for 2 (exc x_at) ∷ []

-- the queue has one entry, of nobody
pub empty_of_one_entry : RuledOut (λ k. fits_end) empty.Pre empty.Post
    (λ k a. record { slots = (stored_entries []).slots; count = 1 })
unfolding tables_open
empty_of_one_entry = wrong_at tt tt refl tt (λ q. eqb q.count 1) refl refl

-- the unused places are exclusive
pub empty_exclusive_places : RuledOut (λ k. fits_end) empty.Pre empty.Post
    (λ k a. record { slots = replicate most_entries exclusive_place; count = 0 })
unfolding tables_open
empty_exclusive_places = wrong_at tt tt refl tt (λ q. some (λ (s : Slot). s.exclusive) q.slots) refl refl

-- an unused place may have an offset: no entry, and an unused place that points to y
pub packed_offsets_overlooked : RuledOut (λ k. fits-Queue ⊗ fits_end) packed.Pre packed.Post
    (λ k a. pick (ltb most_entries a.0.count) false
    (every (λ (s : Slot). eqb s.task.0 0 && not s.exclusive) (drop a.0.count a.0.slots)))
unfolding tables_open
packed_offsets_overlooked =
    wrong_at tt (record { slots = padded most_entries zero_slot (pointing_place ∷ []); count = 0 }, tt) refl tt
    (λ b. b) refl refl

-- an unused place may be exclusive
pub packed_exclusive_places : RuledOut (λ k. fits-Queue ⊗ fits_end) packed.Pre packed.Post
    (λ k a. pick (ltb most_entries a.0.count) false
    (every (λ (s : Slot). eqb s.task.0 0 && eqb s.name.0 0) (drop a.0.count a.0.slots)))
unfolding tables_open
packed_exclusive_places =
    wrong_at tt (record { slots = padded most_entries zero_slot (exclusive_place ∷ []); count = 0 }, tt) refl tt
    (λ b. b) refl refl

-- 128 entries are too many
pub packed_full_is_not : RuledOut (λ k. fits-Queue ⊗ fits_end) packed.Pre packed.Post
    (λ k a. pick (leb most_entries a.0.count) false (rest_zero a.0))
unfolding tables_open
packed_full_is_not = wrong_at tt (full, tt) refl tt not refl refl

-- the count is taken for the length of the list: 129 and a full table
pub queue_fits_by_the_count : RuledOut (λ k. fits-Queue ⊗ fits_end) queue_fits.Pre queue_fits.Post
    (λ k a. leb a.0.count most_entries)
unfolding tables_open
queue_fits_by_the_count = wrong_at tt (record { slots = full.slots; count = 129 }, tt) refl tt not refl refl

-- 128 entries are too many
pub queue_fits_full_does_not : RuledOut (λ k. fits-Queue ⊗ fits_end) queue_fits.Pre queue_fits.Post
    (λ k a. ltb (length (entries_in a.0)) most_entries)
unfolding tables_open
queue_fits_full_does_not = wrong_at tt (full, tt) refl tt not refl refl

-- any earlier entry for the name bars: two shared ones
pub bars_shared_by_shared : RuledOut (λ k. fits-Slot ⊗ fits-Slot ⊗ fits_end) bars.Pre bars.Post
    (λ k a. same_name (entry_of a.0).name (entry_of a.1.0).name)
unfolding tables_open
bars_shared_by_shared =
    wrong_at tt (slot_of (entry_for 1 (shr x_at)), (slot_of (entry_for 2 (shr x_at)), tt)) refl tt (λ b. b) refl refl

-- only an exclusive entry bars: a shared one, and behind it an exclusive one
pub bars_by_exclusive_only : RuledOut (λ k. fits-Slot ⊗ fits-Slot ⊗ fits_end) bars.Pre bars.Post
    (λ k a. same_name (entry_of a.0).name (entry_of a.1.0).name && a.0.exclusive)
unfolding tables_open
bars_by_exclusive_only =
    wrong_at tt (slot_of (entry_for 1 (shr x_at)), (slot_of (entry_for 2 (exc x_at)), tt)) refl tt not refl refl

-- offsets of one low byte are one: 10 and 266
pub bars_by_the_low_byte : RuledOut (λ k. fits-Slot ⊗ fits-Slot ⊗ fits_end) bars.Pre bars.Post
    (λ k a. eqb (a.0.name.0 % 256) (a.1.0.name.0 % 256) && (a.0.exclusive || a.1.0.exclusive))
unfolding tables_open
bars_by_the_low_byte =
    wrong_at tt (slot_of (entry_for 1 (exc (pointer 10))), (slot_of (entry_for 2 (exc (pointer 266))), tt)) refl tt
    (λ b. b) refl refl

-- the last entry is not compared: two entries of task 1 for x
pub entries_once_but_the_last : RuledOut (λ k. fits-Queue ⊗ fits_end) entries_once_fn.Pre entries_once_fn.Post
    (λ k a. entries_once (take (a.0.count - 1) (entries_in a.0)))
unfolding tables_open
entries_once_but_the_last =
    wrong_at tt (stored_entries (entry_for 1 (exc x_at) ∷ entry_for 1 (exc x_at) ∷ []), tt) refl (omega arith)
    (λ b. b) refl refl

-- two entries are one request only in one mode: task 1 has x shared and exclusive
pub entries_once_in_each_mode : RuledOut (λ k. fits-Queue ⊗ fits_end) entries_once_fn.Pre entries_once_fn.Post
    (λ k a. distinct (λ (e d : Entry). same_request e d && alike e.exclusive d.exclusive) (entries_in a.0))
unfolding tables_open
entries_once_in_each_mode =
    wrong_at tt (stored_entries (entry_for 1 (shr x_at) ∷ entry_for 1 (exc x_at) ∷ []), tt) refl (omega arith)
    (λ b. b) refl refl

-- a name has one entry: 1 and 2 both ask for x
pub entries_once_for_a_name : RuledOut (λ k. fits-Queue ⊗ fits_end) entries_once_fn.Pre entries_once_fn.Post
    (λ k a. distinct (λ (e d : Entry). same_name e.name d.name) (entries_in a.0))
unfolding tables_open
entries_once_for_a_name = wrong_at tt (stored_entries owner_and_waiter, tt) refl (omega arith) not refl refl

-- a queue with no entry is not good
pub entry_names_good_none_is_not : RuledOut (λ k. fits-Queue ⊗ fits_end) entry_names_good.Pre entry_names_good.Post
    (λ k a. ltb 0 a.0.count)
unfolding tables_open
entry_names_good_none_is_not = wrong_at tt (stored_entries [], tt) refl tt not refl refl

-- offset 0 stands for no name: x lies there
pub entry_names_good_offset_0 : RuledOut (λ k. fits-Queue ⊗ fits_end) entry_names_good.Pre entry_names_good.Post
    (λ k a. every (λ (s : Slot). ltb 0 s.name.0) (take a.0.count a.0.slots))
unfolding tables_open
entry_names_good_offset_0 = wrong_at tt (stored_entries (entry_for 1 (exc x_at) ∷ []), tt) refl tt not refl refl

-- an offset is taken for the first byte of a name: 226 for that of a system name
pub entry_names_good_offset_of_a_system_name :
    RuledOut (λ k. fits-Queue ⊗ fits_end) entry_names_good.Pre entry_names_good.Post
    (λ k a. every (λ (s : Slot). not (eqb s.name.0 0xE2)) (take a.0.count a.0.slots))
unfolding tables_open
entry_names_good_offset_of_a_system_name =
    wrong_at tt (stored_entries (entry_for 1 (exc (pointer 226)) ∷ []), tt) refl tt not refl refl

-- a task is marked that was not asked for
pub lacking_tasks_not_asked_for : RuledOut (λ k. fits-Queue ⊗ fits-Marks ⊗ fits_end) lacking.Pre lacking.Post
    (λ k a. marks_among all_marks (entries_in a.0))
unfolding tables_open
lacking_tasks_not_asked_for =
    wrong_at tt (stored_entries owner_and_waiter, (no_marks, tt)) refl (omega arith) (λ m. mark_at m 2) refl refl

-- whoever has control of something lacks nothing: task 1 owns x, 2 owns y and waits for x
pub lacking_until_the_first_grant : RuledOut (λ k. fits-Queue ⊗ fits-Marks ⊗ fits_end) lacking.Pre lacking.Post
    (λ k a. marked_by (λ t. mark_at a.1.0 t
    && (lacks t (entries_in a.0) && not (some (of_task t) (holding [] (entries_in a.0))))))
unfolding tables_open
lacking_until_the_first_grant =
    wrong_at tt (
      stored_entries (entry_for 1 (exc x_at) ∷ entry_for 2 (exc y_at) ∷ entry_for 2 (exc x_at) ∷ []),
      (all_marks, tt),
    ) refl (omega arith) (λ m. not (mark_at m 2)) refl refl

-- task 32 is not marked
pub all_marks_but_task_32 : RuledOut (λ k. fits_end) all_marks_fn.Pre all_marks_fn.Post
    (λ k a. record { tasks = replicate highest_task true ++ (false ∷ []) })
unfolding tables_open
all_marks_but_task_32 = wrong_at tt tt refl tt (λ m. not (mark_at m 32)) refl refl

-- number 0 is not marked
pub all_marks_but_number_0 : RuledOut (λ k. fits_end) all_marks_fn.Pre all_marks_fn.Post
    (λ k a. record { tasks = false ∷ replicate highest_task true })
unfolding tables_open
all_marks_but_number_0 = wrong_at tt tt refl tt (λ m. not (mark_at m 0)) refl refl

-- task 32 is marked
pub no_marks_but_task_32 : RuledOut (λ k. fits_end) no_marks_fn.Pre no_marks_fn.Post
    (λ k a. record { tasks = replicate highest_task false ++ (true ∷ []) })
unfolding tables_open
no_marks_but_task_32 = wrong_at tt tt refl tt (λ m. mark_at m 32) refl refl

-- every task is marked
pub no_marks_all_marked : RuledOut (λ k. fits_end) no_marks_fn.Pre no_marks_fn.Post (λ k a. all_marks)
unfolding tables_open
no_marks_all_marked = wrong_at tt tt refl tt (λ m. mark_at m 1) refl refl
