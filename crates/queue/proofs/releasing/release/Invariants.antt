-- What stays of the entries before the index is stored.
use Rattle.std.proofs.Common.{ℕ, Bool, not}
use Rattle.lists.specs.Packed.{Swept}
use Rattle.kinds.specs.declared.names.Slot.{Slot}
use Rattle.kinds.specs.declared.names.PointedList.{PointedList}
use Rattle.names.specs.Pointers.{pointed_in}
use Rattle.rules.specs.Names.{names_of}
use Rattle.rules.specs.Control.{Entry, is_for_one}
use Rattle.queue.specs.Queues.{entry_of}
use Rattle.queue.proofs.Views.{table}
use Rattle.queue.proofs.releasing.release.Given as goal

-- what stays
abbrev pub stays : ℕ → PointedList → Entry → Bool
stays t l e = not (is_for_one t (names_of (pointed_in l)) e)

abbrev pub invariant-loop-x : goal.invariant-loop-x
invariant-loop-x l = Swept table (λ (s : Slot). stays l.fn.c.0 l.fn.l (entry_of s)) l.x-items l.x-index l.r
