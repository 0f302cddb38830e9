-- Wrong answers that the contracts of `queue::queuing`, `queue::releasing` and `queue::offsets` rule out.
use mathlib.Core.Path.{refl}
use mathlib.Core.Bool.{Bool, true, false, not, ◌&&◌, ◌||◌}
use mathlib.Core.List.{List, [], ◌∷◌, ◌++◌, map, reverse}
use Prim.Native.Nat.{ℕ}
use native.Mathlib.Omega.{arith}
use lib.Dec.{eqb}
use lib.ListN.{take, drop, get_or, replicate}
use Rattle.lists.specs.Lists.{every, keep, some, same_bytes, unskipped}
use Rattle.lists.specs.Tables.{padded}
use Rattle.kinds.specs.Limits.{longest_list, most_entries}
use Rattle.kinds.specs.declared.numbers.TaskNumber.{TaskNumber}
use Rattle.kinds.specs.declared.names.Slot.{Slot}
use Rattle.kinds.specs.declared.names.PointedList.{PointedList}
use Rattle.rules.specs.Names.{Ask, names_of, same_name}
use Rattle.rules.specs.Control.{Entry, of_task, has_entry}
use Rattle.rules.specs.Table.{shr, exc}
use Rattle.rules.specs.Enq.{entry_for, with_tail}
use Rattle.rules.specs.Deq.{released}
use Rattle.names.specs.Pointers.{pointed_in}
use Rattle.queue.specs.Queues.{entry_of, slot_of, zero_slot, entries_in, stored_entries, PackedEntries}
use Rattle.queue.specs.Pointing.{slot_offset, offsets_at, offsets_in, pointed_by}
use Rattle.queue.specs.declared.Queue.{Queue}
use Rattle.queue.specs.declared.looks.Flags.{Flags}
use Rattle.queue.specs.declared.offsets.Offsets.{Offsets}
use Rattle.queue.proofs.releasing.release.Reads as release
use Rattle.queue.proofs.queuing.with_tail.Reads as with_tail_fn
use Rattle.queue.proofs.queuing.made_exclusive.Reads as made_exclusive
use Rattle.queue.proofs.offsets.offsets_of.Reads as offsets_of
use Rattle.queue.proofs.offsets.same_offsets.Reads as same_offsets
use Rattle.queue.proofs.offsets.with_offsets.Reads as with_offsets
use Rattle.impostors.specs.Fitting.{◌⊗◌, fits-Flags, fits-Offsets, fits-PointedList, fits-Queue, fits-TaskNumber}
use Rattle.impostors.specs.Fitting.{fits_end}
use Rattle.impostors.specs.Opened.{tables_open}
use Rattle.impostors.specs.Samples.{task, points_of as list_of, x_at, y_at, z_at}
use Rattle.impostors.specs.Wrong.{RuledOut, wrong_at}

-- task 1 has x and y shared, and 2 has x shared
abbrev three : List Entry
three = entry_for 1 (shr x_at) ∷ entry_for 2 (shr x_at) ∷ entry_for 1 (shr y_at) ∷ []

three_packed : PackedEntries (stored_entries three)
unfolding tables_open
three_packed = record { form = refl; room = omega arith }

-- the entry behind n others
abbrev entry_at : ℕ → Queue → Entry
entry_at n q = get_or (entries_in q) n (entry_for 0 (shr x_at))

-- an entry that passes the test becomes exclusive
abbrev exclusive_if : (Entry → Bool) → Entry → Entry
exclusive_if test e = record { task = e.task; exclusive = test e || e.exclusive; name = e.name }

-- every entry for the names goes, whoever's it is: task 1 gives x back, and 2 loses it too
pub release_from_everybody :
    RuledOut (λ k. fits-Queue ⊗ fits-TaskNumber ⊗ fits-PointedList ⊗ fits_end) release.Pre release.Post
    (λ k a. stored_entries (keep (λ (e : Entry). not (some (same_name e.name) (names_of (pointed_in a.1.1.0))))
    (entries_in a.0)))
unfolding tables_open
release_from_everybody =
    wrong_at tt (stored_entries three, (task 1, (list_of (shr x_at ∷ []), tt))) refl (three_packed, omega arith)
    (λ q. not (has_entry (entries_in q) 2 x_at)) refl refl

-- only the first name is given back: of x and y, x
pub release_first_name_only :
    RuledOut (λ k. fits-Queue ⊗ fits-TaskNumber ⊗ fits-PointedList ⊗ fits_end) release.Pre release.Post
    (λ k a. stored_entries (released a.1.0.0 (take 1 (names_of (pointed_in a.1.1.0))) (entries_in a.0)))
unfolding tables_open
release_first_name_only =
    wrong_at tt (stored_entries three, (task 1, (list_of (shr x_at ∷ shr y_at ∷ []), tt))) refl (three_packed, omega arith)
    (λ q. has_entry (entries_in q) 1 y_at) refl refl

-- all that the caller has goes: task 1 gives x back, and loses y too
pub release_all_of_the_caller :
    RuledOut (λ k. fits-Queue ⊗ fits-TaskNumber ⊗ fits-PointedList ⊗ fits_end) release.Pre release.Post
    (λ k a. stored_entries (keep (λ (e : Entry). not (of_task a.1.0.0 e)) (entries_in a.0)))
unfolding tables_open
release_all_of_the_caller =
    wrong_at tt (stored_entries three, (task 1, (list_of (shr x_at ∷ []), tt))) refl (three_packed, omega arith)
    (λ q. not (has_entry (entries_in q) 1 y_at)) refl refl

-- the queue, the task, its names, and which of them are skipped; that they fit
abbrev Tail : Type 0
Tail = Queue × (TaskNumber × (PointedList × (Flags × Unit {0})))

abbrev fits-Tail : Tail → Bool
fits-Tail = fits-Queue ⊗ fits-TaskNumber ⊗ fits-PointedList ⊗ fits-Flags ⊗ fits_end

-- behind the three 2 asks for these names
abbrev tail_of : List Ask → List Bool → Tail
tail_of l skip = (stored_entries three, (task 2, (list_of l, (record { of = padded longest_list false skip }, tt))))

-- the names that are not skipped
abbrev left : Tail → List Ask
left a = unskipped a.1.1.1.0.of (pointed_in a.1.1.0).asks

-- the new entries come to the front: 2 asks for y behind task 1
pub with_tail_at_the_front :
    RuledOut (λ k. fits-Tail) with_tail_fn.Pre with_tail_fn.Post
    (λ k a. stored_entries (map (entry_for a.1.0.0) (left a) ++ entries_in a.0))
unfolding tables_open
with_tail_at_the_front =
    wrong_at tt (tail_of (shr y_at ∷ []) (false ∷ [])) refl (three_packed, omega arith, omega arith)
    (λ q. eqb (entry_at 0 q).task 2) refl refl

-- every entry is shared: 2 asks for y exclusive
pub with_tail_all_shared :
    RuledOut (λ k. fits-Tail) with_tail_fn.Pre with_tail_fn.Post
    (λ k a. stored_entries (entries_in a.0 ++ map (λ (w : Ask). entry_for a.1.0.0 (shr w.name)) (left a)))
unfolding tables_open
with_tail_all_shared =
    wrong_at tt (tail_of (exc y_at ∷ []) (false ∷ [])) refl (three_packed, omega arith, omega arith)
    (λ q. not (entry_at 3 q).exclusive) refl refl

-- nothing is skipped: 2 asks for y and z, and y is skipped
pub with_tail_skips_nothing :
    RuledOut (λ k. fits-Tail) with_tail_fn.Pre with_tail_fn.Post
    (λ k a. stored_entries (with_tail (entries_in a.0) a.1.0.0 (pointed_in a.1.1.0).asks))
unfolding tables_open
with_tail_skips_nothing =
    wrong_at tt (tail_of (exc y_at ∷ exc z_at ∷ []) (true ∷ false ∷ [])) refl (three_packed, omega arith, omega arith)
    (λ q. has_entry (entries_in q) 2 y_at) refl refl

-- the skipped are queued, and the others left out: of y and z, y
pub with_tail_of_the_skipped :
    RuledOut (λ k. fits-Tail) with_tail_fn.Pre with_tail_fn.Post
    (λ k a. stored_entries (with_tail (entries_in a.0) a.1.0.0
    (unskipped (map not a.1.1.1.0.of) (pointed_in a.1.1.0).asks)))
unfolding tables_open
with_tail_of_the_skipped =
    wrong_at tt (tail_of (exc y_at ∷ exc z_at ∷ []) (true ∷ false ∷ [])) refl (three_packed, omega arith, omega arith)
    (λ q. has_entry (entries_in q) 2 y_at) refl refl

-- the last of the names comes first: 2 asks for y and z
pub with_tail_last_first :
    RuledOut (λ k. fits-Tail) with_tail_fn.Pre with_tail_fn.Post
    (λ k a. stored_entries (with_tail (entries_in a.0) a.1.0.0 (reverse (left a))))
unfolding tables_open
with_tail_last_first =
    wrong_at tt (tail_of (exc y_at ∷ exc z_at ∷ []) (false ∷ false ∷ [])) refl (three_packed, omega arith, omega arith)
    (λ q. same_name (entry_at 3 q).name z_at) refl refl

-- the entries for the names become exclusive, whoever's they
-- are: task 1 asks for x, and 2's entry becomes exclusive too
pub made_exclusive_for_everybody :
    RuledOut (λ k. fits-Queue ⊗ fits-TaskNumber ⊗ fits-PointedList ⊗ fits_end) made_exclusive.Pre made_exclusive.Post
    (λ k a. stored_entries (map
    (exclusive_if (λ (e : Entry). some (same_name e.name) (names_of (pointed_in a.1.1.0))))
    (entries_in a.0)))
unfolding tables_open
made_exclusive_for_everybody =
    wrong_at tt (stored_entries three, (task 1, (list_of (exc x_at ∷ []), tt))) refl (three_packed, omega arith)
    (λ q. (entry_at 1 q).exclusive) refl refl

-- all that the caller has becomes exclusive: task 1 asks for x, and its entry for y becomes
-- exclusive too
pub made_exclusive_every_name :
    RuledOut (λ k. fits-Queue ⊗ fits-TaskNumber ⊗ fits-PointedList ⊗ fits_end) made_exclusive.Pre made_exclusive.Post
    (λ k a. stored_entries (map (exclusive_if (of_task a.1.0.0)) (entries_in a.0)))
unfolding tables_open
made_exclusive_every_name =
    wrong_at tt (stored_entries three, (task 1, (list_of (exc x_at ∷ []), tt))) refl (three_packed, omega arith)
    (λ q. (entry_at 2 q).exclusive) refl refl

-- the names are released and queued for again: task 1 asks for x, and is no longer first
pub made_exclusive_at_the_tail :
    RuledOut (λ k. fits-Queue ⊗ fits-TaskNumber ⊗ fits-PointedList ⊗ fits_end) made_exclusive.Pre made_exclusive.Post
    (λ k a. stored_entries (with_tail (released a.1.0.0 (names_of (pointed_in a.1.1.0)) (entries_in a.0))
    a.1.0.0 (pointed_in a.1.1.0).asks))
unfolding tables_open
made_exclusive_at_the_tail =
    wrong_at tt (stored_entries three, (task 1, (list_of (exc x_at ∷ []), tt))) refl (three_packed, omega arith)
    (λ q. eqb (entry_at 0 q).task 2) refl refl

-- OFFSETS: those of the first places, 0 in the others
abbrev offsets : List ℕ → Offsets
offsets l = record { of = padded most_entries 0 l }

-- no entry, and an unused place that points to y
abbrev unused_pointing : Queue
unused_pointing = record { slots = padded most_entries zero_slot (slot_of (entry_for 0 (shr y_at)) ∷ []); count = 0 }

-- the places past the count are not read: no entry, and the first place points to y
pub offsets_of_up_to_the_count : RuledOut (λ k. fits-Queue ⊗ fits_end) offsets_of.Pre offsets_of.Post
    (λ k a. offsets (offsets_in a.0))
unfolding tables_open
offsets_of_up_to_the_count =
    wrong_at tt (unused_pointing, tt) refl tt (λ o. eqb (get_or o.of 0 0) 0) refl refl

-- only the places past the count are read: one entry, for y
pub offsets_of_from_the_count_on : RuledOut (λ k. fits-Queue ⊗ fits_end) offsets_of.Pre offsets_of.Post
    (λ k a. offsets (replicate a.0.count 0 ++ drop a.0.count (offsets_at a.0).of))
unfolding tables_open
offsets_of_from_the_count_on =
    wrong_at tt (stored_entries (entry_for 1 (shr y_at) ∷ []), tt) refl tt (λ o. eqb (get_or o.of 0 0) 0) refl refl

-- the tasks' numbers are read: task 1 asks for y
pub offsets_of_the_tasks : RuledOut (λ k. fits-Queue ⊗ fits_end) offsets_of.Pre offsets_of.Post
    (λ k a. record { of = map (λ (s : Slot). s.task.0) a.0.slots })
unfolding tables_open
offsets_of_the_tasks =
    wrong_at tt (stored_entries (entry_for 1 (shr y_at) ∷ []), tt) refl tt (λ o. eqb (get_or o.of 0 0) 1) refl refl

-- a queue of task 1, who asks for these names
abbrev asks_for : List Ask → Queue
asks_for l = stored_entries (map (entry_for 1) l)

-- the counts alone are compared: x, and y
pub same_offsets_by_the_count : RuledOut (λ k. fits-Queue ⊗ fits-Queue ⊗ fits_end) same_offsets.Pre same_offsets.Post
    (λ k a. eqb a.0.count a.1.0.count)
unfolding tables_open
same_offsets_by_the_count =
    wrong_at tt (asks_for (exc x_at ∷ []), (asks_for (exc y_at ∷ []), tt)) refl (omega arith, omega arith)
    (λ b. b) refl refl

-- the offsets of the one stand somewhere in the other
abbrev among : Queue → Queue → Bool
among p q = every (λ o. some (eqb o) (offsets_in q)) (offsets_in p)

-- the order does not matter: x and y, and y and x
pub same_offsets_in_any_order : RuledOut (λ k. fits-Queue ⊗ fits-Queue ⊗ fits_end) same_offsets.Pre same_offsets.Post
    (λ k a. eqb a.0.count a.1.0.count && (among a.0 a.1.0 && among a.1.0 a.0))
unfolding tables_open
same_offsets_in_any_order =
    wrong_at tt (asks_for (exc x_at ∷ exc y_at ∷ []), (asks_for (exc y_at ∷ exc x_at ∷ []), tt)) refl
    (omega arith, omega arith) (λ b. b) refl refl

-- the shorter queue ends the comparison: x, and x and y
pub same_offsets_up_to_the_shorter :
    RuledOut (λ k. fits-Queue ⊗ fits-Queue ⊗ fits_end) same_offsets.Pre same_offsets.Post
    (λ k a. same_bytes (take a.1.0.count (offsets_in a.0)) (take a.0.count (offsets_in a.1.0)))
unfolding tables_open
same_offsets_up_to_the_shorter =
    wrong_at tt (asks_for (exc x_at ∷ []), (asks_for (exc x_at ∷ exc y_at ∷ []), tt)) refl
    (omega arith, omega arith) (λ b. b) refl refl

-- only the first entry is moved: of three, to 20, 30 and 40
pub with_offsets_first_entry_only :
    RuledOut (λ k. fits-Queue ⊗ fits-Offsets ⊗ fits_end) with_offsets.Pre with_offsets.Post
    (λ k a. stored_entries (pointed_by (take 1 a.1.0.of) (entries_in a.0) ++ drop 1 (entries_in a.0)))
unfolding tables_open
with_offsets_first_entry_only =
    wrong_at tt (stored_entries three, (offsets (20 ∷ 30 ∷ 40 ∷ []), tt)) refl three_packed
    (λ q. same_name (entry_at 1 q).name x_at) refl refl

-- every entry gets the first offset: 20 of 20, 30 and 40
pub with_offsets_first_offset_for_all :
    RuledOut (λ k. fits-Queue ⊗ fits-Offsets ⊗ fits_end) with_offsets.Pre with_offsets.Post
    (λ k a. stored_entries (pointed_by (replicate a.0.count (get_or a.1.0.of 0 0)) (entries_in a.0)))
unfolding tables_open
with_offsets_first_offset_for_all =
    wrong_at tt (stored_entries three, (offsets (20 ∷ 30 ∷ 40 ∷ []), tt)) refl three_packed
    (λ q. same_name (entry_at 1 q).name z_at) refl refl

-- unused places are made to point too: the fourth, behind three entries
pub with_offsets_of_unused_places :
    RuledOut (λ k. fits-Queue ⊗ fits-Offsets ⊗ fits_end) with_offsets.Pre with_offsets.Post
    (λ k a. record {
      slots = map slot_of (pointed_by a.1.0.of (map entry_of a.0.slots));
      count = a.0.count;
    })
unfolding tables_open
with_offsets_of_unused_places =
    wrong_at tt (stored_entries three, (offsets (20 ∷ 30 ∷ 40 ∷ 50 ∷ []), tt)) refl three_packed
    (λ q. eqb (slot_offset (get_or q.slots 3 zero_slot)) 50) refl refl
