-- The tests of the request, and where they go on that of the looks: together they are the rules' tests.
use mathlib.Core.Path.{◌∙◌}
use Prim.Native.Nat.{◌≤◌}
use Rattle.kinds.specs.Limits.{longest_list}
use Rattle.names.specs.Pointers.{pointed_in}
use Rattle.names.proofs.Listed.{good_count}
use Rattle.queue.specs.Queues.{entries_in}
use Rattle.resources.specs.Looking.{deq_asked, deq_looks}
use Rattle.resources.proofs.Judged.{go_is, found_stops, found_goes, deq_rest, deq_parts, deq_weighed_is}
use Rattle.resources.proofs.deq.deq_found.Goals.{Start}
use Rattle.resources.proofs.deq.deq_found.Goals as goal

few : (c : Start) → c.args.l.count ≤ longest_list
few c = good_count _ c.requires.1

pub asked-verdict-requires : goal.asked-verdict-requires
asked-verdict-requires c = few (goal.at.asked-verdict-requires c).Start

pub returns-then-is_err : goal.returns-then-is_err
returns-then-is_err c =
    let a = c.args in
    found_stops (deq_asked a.ret (pointed_in a.l) a.room)
    (deq_rest (entries_in a.q) a.caller.0 a.ret (pointed_in a.l))
    (deq_looks (entries_in a.q) a.caller.0 (pointed_in a.l)) _
    (deq_parts (entries_in a.q) a.caller a.ret (pointed_in a.l) a.room c.requires.1) _ _ _
    (rw c.deq_codes_due.ensures at c.asked-verdict.ensures) c.is_err.ensures.value c.if-is_err.true c.unlooked.ensures

pub deq_looks-looks-requires : goal.deq_looks-looks-requires
deq_looks-looks-requires c =
    (c.requires.0, few (goal.at.deq_looks-looks-requires c).Start)

pub returns : goal.returns
returns c =
    let a = c.args in
    let k = c.deq_looks-looks.ensures in
    found_goes (deq_asked a.ret (pointed_in a.l) a.room)
    (deq_rest (entries_in a.q) a.caller.0 a.ret (pointed_in a.l))
    (deq_looks (entries_in a.q) a.caller.0 (pointed_in a.l)) _
    (deq_parts (entries_in a.q) a.caller a.ret (pointed_in a.l) a.room c.requires.1) _ _
    (rw c.deq_codes_due.ensures at c.asked-verdict.ensures) (go_is _ _ c.is_err.ensures.value c.if-is_err.false)
    (c.deq_weighed.ensures ∙ deq_weighed_is a.ret (entries_in a.q) a.caller.0 (pointed_in a.l) _ k) k
