-- Where the names of a queue's entries lie, and the entries made to point elsewhere.
use Rattle.std.specs.Prelude.{◌≡◌, List, [], ◌∷◌, map, ℕ, take}
use Rattle.std.proofs.Common.{sym, ap, ◌∙◌}
use Rattle.std.proofs.lemmas.Simd.{map-map}
use Rattle.lists.specs.Keeping.{take_map}
use Rattle.kinds.specs.declared.names.Slot.{Slot}
use Rattle.names.specs.Pointers.{pointer, offset_of}
use Rattle.rules.specs.Control.{Entry}
use Rattle.queue.specs.Queues.{entry_of, entries_in}
use Rattle.queue.specs.declared.Queue.{Queue}
use Rattle.queue.specs.declared.offsets.Offsets.{Offsets}

abbrev pub slot_offset : Slot → ℕ
slot_offset s = s.name.0

abbrev entry_offset : Entry → ℕ
entry_offset e = offset_of e.name

-- place by place, whatever the count
abbrev pub offsets_at : Queue → Offsets
offsets_at q = record { of = map slot_offset q.slots }

-- entry by entry
abbrev pub offsets_in : Queue → List ℕ
offsets_in q = map entry_offset (entries_in q)

-- the first places are the entries'
pub offsets_taken : (q : Queue) → take q.count (offsets_at q).of ≡ offsets_in q
offsets_taken q =
    take_map slot_offset q.count q.slots
    ∙ sym (ap (map entry_offset) (take_map entry_of q.count q.slots)
    ∙ map-map entry_offset entry_of (take q.count q.slots))

-- each entry points to the offset that stands at its place; where one of the two lists ends, so does the result
abbrev pub pointed_by : List ℕ → List Entry → List Entry
pointed_by [] es = []
pointed_by (o ∷ os) [] = []
pointed_by (o ∷ os) (e ∷ es) =
    record { task = e.task; exclusive = e.exclusive; name = pointer o } ∷ pointed_by os es
