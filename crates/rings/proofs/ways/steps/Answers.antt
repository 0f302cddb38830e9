use Rattle.std.proofs.Common.{◌+◌, ap, sym, subst, ◌∙◌, arith, List, take, map, get_or}
use Rattle.std.proofs.Math.Seq.{take_all}
use Rattle.lists.specs.Changing.{map_next}
use Rattle.lists.specs.Keeping.{take_map}
use Rattle.rules.specs.Rings.{waits_for}
use Rattle.rules.specs.Control.{Entry}
use Rattle.queue.specs.Queues.{entry_of, zero_slot}
use Rattle.rings.specs.Ways.{Full, ways_by, all_ways, ways_are}
use Rattle.rings.specs.declared.ways.Ways.{Ways}
use Rattle.rings.proofs.ways.steps.Goals.{then-a-lt-PLACES+then-b-lt-PLACES, else-a-lt-PLACES}
use Rattle.rings.proofs.ways.steps.Goals.{else-a-lt-PLACES-via-then-a-lt-PLACES+else-b-lt-PLACES}
use Rattle.rings.proofs.ways.steps.Goals.{else-a-lt-PLACES-via-else-a-lt-PLACES}
use Rattle.rings.proofs.Stepping.{Stepping, none_full, steps_next, steps_past, steps_end}
use Rattle.rings.proofs.ways.steps.Goals as goal

pub loop-i-init : goal.loop-i-init
loop-i-init c = none_full

pub loop-x-preserved : goal.loop-x-preserved
loop-x-preserved c =
    let q = c.args.q.now in
    let l = c.loop-x in
    let es = take q.count q.slots in
    let i = c.loop-i.i in
    let P : Ways → Type 0 = λ m. Stepping (take i es) (get_or es i zero_slot) (l.x-index + 1) m in
    elim c.if-a-lt-PLACES.branch [
      | then-a-lt-PLACES+then-b-lt-PLACES w ↦ subst P (sym w.r-is)
          (steps_next l.invariant c.loop-x-test.true zero_slot w.stepped.result w.if-a-lt-PLACES.true
          w.if-b-lt-PLACES.true w.stepped.ensures)
      | else-a-lt-PLACES w ↦ subst P (sym w.r-is)
          (steps_past l.invariant c.loop-x-test.true zero_slot (λ h k. elim w.else-a-lt-PLACES.branch [
            | else-a-lt-PLACES-via-then-a-lt-PLACES+else-b-lt-PLACES x ↦ omega arith
            | else-a-lt-PLACES-via-else-a-lt-PLACES x ↦ omega arith
          ]))
    ]

pub loop-i-preserved : goal.loop-i-preserved
loop-i-preserved c =
    let q = c.args.q.now in
    let es = take q.count q.slots in
    let P : List Entry → Type 0 = λ (p : List Entry). Full (waits_for p) c.loop-x.r in
    subst P (sym (map_next entry_of es c.loop-i.i zero_slot c.loop-i-test.true))
    (steps_end c.loop-x.invariant c.loop-x-test.false)

pub returns : goal.returns
returns c =
    let q = c.args.q.now in
    let l = c.loop-i in
    let es = take q.count q.slots in
    ways_are (waits_for (map entry_of (take l.i es))) all_ways l.r (omega arith) l.invariant
    ∙ ap (λ (p : List Entry). ways_by (waits_for p))
    (ap (map entry_of) (take_all l.i es c.loop-i-test.false) ∙ sym (take_map entry_of q.count q.slots))
