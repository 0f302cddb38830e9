-- Wrong answers that the contracts of the looks of `queue` rule out.
use mathlib.Core.Path.{refl}
use mathlib.Core.Bool.{Bool, true, false, not, ◌&&◌}
use mathlib.Core.List.{List, [], ◌∷◌, map}
use Prim.Native.Nat.{ℕ}
use native.Mathlib.Omega.{arith}
use lib.ListN.{take, get_or}
use Rattle.lists.specs.Lists.{every, some, alike, unskipped}
use Rattle.lists.specs.Tables.{padded}
use Rattle.kinds.specs.Limits.{longest_list}
use Rattle.rules.specs.Names.{Ask, same_name}
use Rattle.rules.specs.Control.{Entry, of_task, is_for, has_entry, queue_of, granted}
use Rattle.rules.specs.Control.{holding, owners}
use Rattle.rules.specs.Table.{shr, exc}
use Rattle.rules.specs.Enq.{entry_for}
use Rattle.names.specs.Pointers.{pointed_in}
use Rattle.queue.specs.Queues.{entries_in, stored_entries}
use Rattle.queue.specs.Flagging.{flags_of}
use Rattle.queue.specs.declared.looks.Flags.{Flags}
use Rattle.queue.proofs.looks.all_set_but.Reads as all_set_but
use Rattle.queue.proofs.looks.entered.Reads as entered
use Rattle.queue.proofs.looks.available.Reads as available
use Rattle.queue.proofs.lead.sole.Reads as sole
use Rattle.impostors.specs.Fitting.{◌⊗◌, fits-Flags, fits-PointedList, fits-Queue, fits-TaskNumber, fits_end}
use Rattle.impostors.specs.Fitting.{fits_u32}
use Rattle.impostors.specs.Opened.{tables_open}
use Rattle.impostors.specs.Samples.{task, points_of, x_at}
use Rattle.impostors.specs.Wrong.{RuledOut, wrong_at}

-- the flags of two names
abbrev flags : Bool → Bool → Flags
flags f g = record { of = padded longest_list false (f ∷ g ∷ []) }

-- the flag of the first name
abbrev flag : Flags → Bool
flag f = get_or f.of 0 false

-- tasks 1 and 2 share x, and 3 waits for it
abbrev waited : List Entry
waited = entry_for 1 (shr x_at) ∷ entry_for 2 (shr x_at) ∷ entry_for 3 (exc x_at) ∷ []

-- two flags, and whether each is skipped, of n places
abbrev But : Type 0
But = Flags × (Flags × (ℕ × Unit {0}))

abbrev fits-But : But → Bool
fits-But = fits-Flags ⊗ fits-Flags ⊗ fits_u32 ⊗ fits_end

-- the skipped count too: the second is not set, and skipped
pub all_set_but_none_skipped : RuledOut (λ k. fits-But) all_set_but.Pre all_set_but.Post
    (λ k a. every (λ (b : Bool). b) (take a.1.1.0 a.0.of))
unfolding tables_open
all_set_but_none_skipped =
    wrong_at tt (flags true false, (flags false true, (2, tt))) refl (omega arith) not refl refl

-- only the skipped count: the second is set, and skipped
pub all_set_but_of_the_skipped : RuledOut (λ k. fits-But) all_set_but.Pre all_set_but.Post
    (λ k a. every (λ (b : Bool). b) (unskipped (map not a.1.0.of) (take a.1.1.0 a.0.of)))
unfolding tables_open
all_set_but_of_the_skipped =
    wrong_at tt (flags false true, (flags false true, (2, tt))) refl (omega arith) (λ b. b) refl refl

-- one is enough: one of two is set
pub all_set_but_one_is_enough : RuledOut (λ k. fits-But) all_set_but.Pre all_set_but.Post
    (λ k a. some (λ (b : Bool). b) (unskipped a.1.0.of (take a.1.1.0 a.0.of)))
unfolding tables_open
all_set_but_one_is_enough =
    wrong_at tt (flags true false, (flags false false, (2, tt))) refl (omega arith) (λ b. b) refl refl

-- the flags past n count too: the first of two is set, and n is 1
pub all_set_but_of_all_16 : RuledOut (λ k. fits-But) all_set_but.Pre all_set_but.Post
    (λ k a. every (λ (b : Bool). b) (unskipped a.1.0.of a.0.of))
unfolding tables_open
all_set_but_of_all_16 =
    wrong_at tt (flags true false, (flags false false, (1, tt))) refl (omega arith) not refl refl

-- anybody's entry counts: 4 asks for x
pub entered_by_anybody :
    RuledOut (λ k. fits-Queue ⊗ fits-TaskNumber ⊗ fits-PointedList ⊗ fits_end) entered.Pre entered.Post
    (λ k a. flags_of (λ (w : Ask). some (λ (e : Entry). same_name e.name w.name) (entries_in a.0))
    (pointed_in a.1.1.0))
unfolding tables_open
entered_by_anybody =
    wrong_at tt (stored_entries waited, (task 4, (points_of (shr x_at ∷ []), tt))) refl
    (omega arith, omega arith) flag refl refl

-- only an entry that has control counts: 3, who waits for x, asks for it again
pub entered_by_owners_only :
    RuledOut (λ k. fits-Queue ⊗ fits-TaskNumber ⊗ fits-PointedList ⊗ fits_end) entered.Pre entered.Post
    (λ k a. flags_of (λ (w : Ask). has_entry (holding [] (entries_in a.0)) a.1.0.0 w.name)
    (pointed_in a.1.1.0))
unfolding tables_open
entered_by_owners_only =
    wrong_at tt (stored_entries waited, (task 3, (points_of (exc x_at ∷ []), tt))) refl (omega arith, omega arith)
    (λ f. not (flag f)) refl refl

-- only an entry in the mode that is asked for counts: task 1, who shares x, asks for it exclusive
pub entered_in_that_mode :
    RuledOut (λ k. fits-Queue ⊗ fits-TaskNumber ⊗ fits-PointedList ⊗ fits_end) entered.Pre entered.Post
    (λ k a. flags_of (λ (w : Ask). some (λ (e : Entry). is_for a.1.0.0 w.name e
    && alike e.exclusive w.exclusive)
    (entries_in a.0))
    (pointed_in a.1.1.0))
unfolding tables_open
entered_in_that_mode =
    wrong_at tt (stored_entries waited, (task 1, (points_of (exc x_at ∷ []), tt))) refl (omega arith, omega arith)
    (λ f. not (flag f)) refl refl

-- a shared request joins the shared owners past an exclusive entry that waits
pub available_past_a_waiting_entry :
    RuledOut (λ k. fits-Queue ⊗ fits-PointedList ⊗ fits_end) available.Pre available.Post
    (λ k a. flags_of (λ (w : Ask). granted (owners w.name (entries_in a.0)) w.exclusive) (pointed_in a.1.0))
unfolding tables_open
available_past_a_waiting_entry =
    wrong_at tt (stored_entries waited, (points_of (shr x_at ∷ []), tt)) refl (omega arith, omega arith) flag refl refl

-- every request is taken for shared: tasks 1 and 2 share x, and an exclusive request comes
pub available_to_exclusive_requests :
    RuledOut (λ k. fits-Queue ⊗ fits-PointedList ⊗ fits_end) available.Pre available.Post
    (λ k a. flags_of (λ (w : Ask). granted (queue_of w.name (entries_in a.0)) false) (pointed_in a.1.0))
unfolding tables_open
available_to_exclusive_requests =
    wrong_at tt (stored_entries (take 2 waited), (points_of (exc x_at ∷ []), tt)) refl
    (omega arith, omega arith) flag refl refl

-- only the first owner is looked at: task 1, beside whom 2 owns x
pub sole_by_the_first_owner :
    RuledOut (λ k. fits-Queue ⊗ fits-TaskNumber ⊗ fits-PointedList ⊗ fits_end) sole.Pre sole.Post
    (λ k a. flags_of (λ (w : Ask). every (of_task a.1.0.0) (take 1 (owners w.name (entries_in a.0))))
    (pointed_in a.1.1.0))
unfolding tables_open
sole_by_the_first_owner =
    wrong_at tt (stored_entries waited, (task 1, (points_of (exc x_at ∷ []), tt))) refl
    (omega arith, omega arith) flag refl refl

-- whoever waits is taken for an owner: task 1 owns x, and 3 waits for it
pub sole_in_the_whole_queue :
    RuledOut (λ k. fits-Queue ⊗ fits-TaskNumber ⊗ fits-PointedList ⊗ fits_end) sole.Pre sole.Post
    (λ k a. flags_of (λ (w : Ask). every (of_task a.1.0.0) (queue_of w.name (entries_in a.0)))
    (pointed_in a.1.1.0))
unfolding tables_open
sole_in_the_whole_queue =
    wrong_at tt (
      stored_entries (entry_for 1 (shr x_at) ∷ entry_for 3 (exc x_at) ∷ []),
      (task 1, (points_of (exc x_at ∷ []), tt)),
    ) refl
    (omega arith, omega arith) (λ f. not (flag f)) refl refl
