-- NOBODY IS STUCK after a run from a fresh step in which no task asked for more while it still had something queued:
-- demand 3, as the report of document 02 §1 tells it.
use mathlib.Core.Path.{◌≡◌, ap, ◌∙◌}
use mathlib.Core.Bool.{true, false}
use mathlib.Core.List.{List, []}
use Prim.Native.Nat.{ℕ}
use native.Mathlib.Omega.{arith}
use lib.ListN.{length}
use borrow.Author.Tests.{le-ltb}
use Rattle.lists.specs.Pick.{pick}
use Rattle.kinds.specs.Replies.Besides.{TheCount}
use Rattle.std.specs.Prelude.{Ok}
use Rattle.kinds.specs.Replies.{Gate}
use Rattle.rules.specs.Steps.{Step, untouched, done_with}
use Rattle.rules.specs.Codes.{written_on}
use Rattle.rules.specs.Reading.{Turn, nothing, queue_read, one_at_a_time}
use Rattle.rules.specs.Reports.{StuckTask, ItemList, itemised, stuck_item, stuck_tasks, stuck_list, report_gate, reported}
use Rattle.rules.specs.Reports.{stuck_report}
use Rattle.rules.specs.DemandThree.{Run, Fresh}
use Rattle.laws.specs.Stuck.{ringless_none}
use Rattle.history.proofs.Demand.{demand_three}

-- the list of nobody
abbrev nobody : ItemList
nobody = itemised stuck_item []

opens : (t : Step) (space : ℕ) → t.over ≡ false → report_gate t nobody space ≡ Ok tt
unfolding report_gate pick
opens t space o = rw (o, le-ltb space 0 (omega arith))

module _ (s t : Step) (us : List Turn) (f : Fresh s) (r : Run s us t) (habit : one_at_a_time nothing us ≡ true) where
  pub nobody_stuck : stuck_tasks t.queue ≡ []
  nobody_stuck =
      let d = demand_three s t us f r in
      ap stuck_tasks d.stored ∙ ringless_none (queue_read us) (d.ringless habit)

  -- so, where the step is not over, the report tells of 0 items and writes nothing
  pub nobody_stuck_report : (area : List ℕ) → t.over ≡ false
      → stuck_report t area ≡ untouched area (done_with (TheCount 0) t)
  unfolding stuck_list written_on
  nobody_stuck_report area o =
      ap (λ (x : ItemList). reported (report_gate t x (length area)) t x area)
      (ap (λ (l : List StuckTask). itemised stuck_item l) nobody_stuck)
      ∙ ap (λ (g : Gate). reported g t nobody area) (opens t (length area) o)
