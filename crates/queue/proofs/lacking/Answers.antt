use Rattle.std.proofs.Common.{arith, ◌≡◌, [], ◌&&◌, not, map, take, sym, ap, ap₂, ◌∙◌, ◌+◌, subst, Bool, take_all}
use Rattle.std.proofs.lemmas.List.{length-map}
use Rattle.lists.specs.Keeping.{take_map}
use Rattle.kinds.specs.Limits.{highest_task}
use Rattle.kinds.specs.declared.names.Slot.{Slot}
use Rattle.rules.specs.Control.{Entry}
use Rattle.queue.specs.Queues.{entry_of}
use Rattle.queue.specs.Marking.{marks_among, lacks_among, marks_are}
use Rattle.queue.specs.declared.marks.Marks.{Marks}
use Rattle.queue.proofs.Barring.{none_bars-control, Found, none_found, found_looked, found_passed}
use Rattle.queue.proofs.lacking.Goals.{then-has, else-has}
use Rattle.queue.proofs.lacking.Goals as goal

pub loop-i-init : goal.loop-i-init
loop-i-init c =
    let among = c.args.among in
    subst (λ (m : Marks). Found among [] m) (sym c.no_marks-found.ensures) (none_found among)

pub loop-i-preserved : goal.loop-i-preserved
loop-i-preserved c =
    let l = c.loop-i in
    let among = c.args.among in
    let used = take c.args.q.count c.args.q.slots in
    let sought = ap₂ (λ (a b : Bool). a && not b) c.has.ensures c.has-in-loop-i.ensures in
    elim c.if-has.branch [
      | then-has w ↦ found_looked among l.found used l.i _ (omega arith) l.invariant w.none_bars.result
          (sym sought ∙ w.if-has.true)
          (sym (w.none_bars.ensures ∙ none_bars-control _ l.i used)) (w.found-is ∙ w.marked-found.ensures)
      | else-has w ↦ found_passed among l.found used l.i _ (omega arith) l.invariant
          (sym sought ∙ w.if-has.false) w.found-is
    ]

pub returns : goal.returns
returns c =
    let used = take c.args.q.count c.args.q.slots in
    let all : take c.loop-i.i (map entry_of used) ≡ map entry_of used =
    take_all c.loop-i.i (map entry_of used) (omega (arith, length-map {A = Slot} {B = Entry})) in
    marks_are (lacks_among c.args.among (take c.loop-i.i (map entry_of used))) (highest_task + 1) c.loop-i.found
    (omega arith) c.loop-i.invariant
    ∙ ap (marks_among c.args.among) (all ∙ sym (take_map entry_of c.args.q.count c.args.q.slots))
