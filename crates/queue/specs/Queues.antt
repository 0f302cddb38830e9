-- The queue's struct, the list of entries that it stands for, and the struct that keeps a list.
use Rattle.std.specs.Prelude.{◌≡◌, Bool, false, not, ◌&&◌, List, map, ◌≤◌, eqb, ltb, length, take, drop}
use Rattle.lists.specs.Pick.{pick}
use Rattle.lists.specs.Lists.{every}
use Rattle.lists.specs.Tables.{padded}
use Rattle.kinds.specs.Limits.{most_entries}
use Rattle.kinds.specs.declared.names.Slot.{Slot}
use Rattle.names.specs.Pointers.{pointer, offset_of}
use Rattle.rules.specs.Control.{Entry}
use Rattle.queue.specs.declared.Queue.{Queue}

-- the entry that a slot shows, for the name that its offset stands for, and the slot that keeps an entry
abbrev pub entry_of : Slot → Entry
entry_of s = record { task = s.task.0; exclusive = s.exclusive; name = pointer s.name.0 }

abbrev pub slot_of : Entry → Slot
slot_of e =
    record { task = record { 0 = e.task }; exclusive = e.exclusive; name = record { 0 = offset_of e.name } }

abbrev pub zero_slot : Slot
zero_slot = record { task = record { 0 = 0 }; exclusive = false; name = record { 0 = 0 } }

abbrev pub rows_of : List Slot → Queue
rows_of l = record { slots = padded most_entries zero_slot l; count = length l }

-- the list that a queue stands for, and the queue that keeps a list
abbrev pub entries_in : Queue → List Entry
entries_in q = take q.count (map entry_of q.slots)

abbrev pub stored_entries : List Entry → Queue
stored_entries l = rows_of (map slot_of l)

-- the queue keeps its list: nothing else stands in it
pub record PackedEntries (q : Queue) : Type 0 where
  pub form : q ≡ stored_entries (entries_in q)
  pub room : q.count ≤ most_entries

-- the test of it: "unused places and fields are zero"
unfoldable pub is_zero : Slot → Bool
is_zero s = eqb s.task.0 0 && (not s.exclusive && eqb s.name.0 0)

unfoldable pub rest_zero : Queue → Bool
rest_zero q = eqb (length q.slots) most_entries && every is_zero (drop q.count q.slots)

unfoldable pub packed_entries : Queue → Bool
packed_entries q = pick (ltb most_entries q.count) false (rest_zero q)
