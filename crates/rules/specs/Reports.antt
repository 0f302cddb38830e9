-- THE REPORTS of document 02 §1: who is stuck, and who stands in which queue. They name no caller and are no requests.
use Rattle.std.specs.Prelude.{ℕ, Bool, not, cond, ◌&&◌, List, [], ◌∷◌, ◌++◌, map, eqb, ltb, length, take}
use Rattle.lists.specs.Lists.{keep, numbers, gathered}
use Rattle.kinds.specs.Limits.{highest_task}
use Rattle.kinds.specs.Replies.Besides.{TheCount}
use Rattle.kinds.specs.declared.replies.Refusal.TheVariants.{ShortArea}
use Rattle.std.specs.Prelude.{Ok, Err}
use Rattle.kinds.specs.Replies.{Gate}
use Rattle.rules.specs.Tests.{Check, refuse, first_of}
use Rattle.rules.specs.Names.{Resource, same_name, firsts}
use Rattle.rules.specs.Control.{Entry, of_task, control}
use Rattle.rules.specs.Rings.{bars, stuck}
use Rattle.rules.specs.Codes.{written_on}
use Rattle.rules.specs.Steps.{Step, Served, untouched, refused, done_with}
use Rattle.rules.specs.Admission.{open_tests, gate_by}

-- WHO IS STUCK

-- a line of the first list: a stuck task, the place in the queue (0 to 127) of an entry of its, that entry's name, and
-- a stuck task that it waits for there
pub record StuckTask : Type 0 where
  pub task : ℕ
  pub place : ℕ
  pub name : Resource
  pub partner : ℕ

-- an entry at this place and one ahead of it
abbrev pub stuck_at : ℕ → Entry → Entry → StuckTask
stuck_at place e ahead = record { task = e.task; place = place; name = e.name; partner = ahead.task }

-- an entry ahead of e is of another task, one of these, and bars it
abbrev pub holds_up : (ℕ → Bool) → Entry → Entry → Bool
holds_up these e ahead = (not (eqb ahead.task e.task) && these ahead.task) && bars ahead e

-- each entry of task t in this list, which stands behind `before`, with each entry ahead by which it waits for one of
-- these tasks: by the entry's place, then by the place of the one ahead
abbrev pub stuck_at_from : (ℕ → Bool) → ℕ → List Entry → List Entry → List StuckTask
stuck_at_from these t before [] = []
stuck_at_from these t before (e ∷ l) =
    map (stuck_at (length before) e) (keep (λ (x : Entry). of_task t e && holds_up these e x) before)
    ++ stuck_at_from these t (before ++ (e ∷ [])) l

-- ".. with one name and one stuck task it waits for there (its earliest such entry, then the earliest entry ahead)":
-- the first of these, of which a stuck task has one at least
abbrev pub first_stuck_at : (ℕ → Bool) → List Entry → ℕ → List StuckTask
first_stuck_at these q t = take 1 (stuck_at_from these t [] q)

-- "List every stuck task once, in ascending order, .."
unfoldable pub stuck_tasks : List Entry → List StuckTask
stuck_tasks q = gathered (first_stuck_at (stuck q) q) (keep (stuck q) (numbers 1 highest_task))

-- WHO STANDS IN WHICH QUEUE

-- a line of the second list: an entry, its place in the queue, and whether it has control
pub record Standing : Type 0 where
  pub place : ℕ
  pub entry : Entry
  pub owner : Bool

-- the entries of this list, which stands behind `before`
abbrev pub standing_from : List Entry → List Entry → List Standing
standing_from before [] = []
standing_from before (e ∷ l) =
    record { place = length before; entry = e; owner = control before e } ∷ standing_from (before ++ (e ∷ [])) l

abbrev pub standing : List Entry → List Standing
standing q = standing_from [] q

-- those for a name
abbrev pub standing_for : Resource → List Standing → List Standing
standing_for n l = keep (λ (x : Standing). same_name x.entry.name n) l

-- "for each name in the order of its first entry, its owners and waiters in queue order"
unfoldable pub queues_of : List Entry → List Standing
queues_of q = gathered (λ (n : Resource). standing_for n (standing q)) (firsts (map (λ (e : Entry). e.name) q))

-- THE LIST AREA: a line's item is its bytes. A name is given by the place of its entry, since the tables come back as
-- they were.

-- task, place of the entry, partner
abbrev pub stuck_item : StuckTask → List ℕ
stuck_item x = x.task ∷ x.place ∷ x.partner ∷ []

-- place of the entry, 1 for an owner or 0 for a waiter
abbrev pub queue_item : Standing → List ℕ
queue_item x = x.place ∷ cond x.owner 1 0 ∷ []

-- so many items, and their bytes one after the other
pub record ItemList : Type 0 where
  pub items : ℕ
  pub bytes : List ℕ

abbrev pub itemised : {A : Type 0} → (A → List ℕ) → List A → ItemList
itemised item l = record { items = length l; bytes = gathered item l }

unfoldable pub stuck_list : List Entry → ItemList
stuck_list q = itemised stuck_item (stuck_tasks q)

unfoldable pub queues_list : List Entry → ItemList
queues_list q = itemised queue_item (queues_of q)

-- "After 100 and 108, a list area too short gives 104, unchanged.": shorter than this list needs. No caller is named.
abbrev pub report_tests : Step → ItemList → ℕ → List Check
report_tests s r space = open_tests s ++ (refuse ShortArea (ltb space (length r.bytes)) ∷ [])

unfoldable pub report_gate : Step → ItemList → ℕ → Gate
report_gate s r space = gate_by (first_of (report_tests s r space))

-- "No table changes": the number of items besides, the items at the front of the area and no other byte
abbrev pub reported : Gate → Step → ItemList → List ℕ → Served Step
reported (Err why) s r area = untouched area (refused why s)
reported (Ok _) s r area = record { outcome = done_with (TheCount r.items) s; codes = written_on r.bytes area }

abbrev pub report_of : (List Entry → ItemList) → Step → List ℕ → Served Step
report_of list s area = reported (report_gate s (list s.queue) (length area)) s (list s.queue) area

abbrev pub stuck_report : Step → List ℕ → Served Step
stuck_report = report_of stuck_list

abbrev pub queues_report : Step → List ℕ → Served Step
queues_report = report_of queues_list
