-- The tests of the request, and where they go on those of the looks: together they are the rules' tests.
use mathlib.Core.Path.{◌≡◌, sym, ◌∙◌}
use mathlib.Core.List.{map}
use Prim.Native.Nat.{◌≤◌}
use native.Mathlib.Omega.{arith}
use lib.ListN.{length, length-map}
use lib.Seq.{length-take-le}
use borrow.Author.Rules.{rules}
use Rattle.lists.specs.Arrays.{mapped_length}
use Rattle.kinds.specs.Limits.{most_entries, longest_list}
use Rattle.names.specs.Pointers.{pointed_in}
use Rattle.names.proofs.Listed.{good_count}
use Rattle.laws.specs.InRange.{enq_names}
use Rattle.queue.specs.Queues.{entry_of, entries_in}
use Rattle.queue.proofs.Flagged.{asks_length}
use Rattle.resources.specs.Looking.{enq_asked, enq_looks}
use Rattle.resources.proofs.Judged.{go_is, found_stops, found_goes, enq_rest, enq_parts, weighed_is}
use Rattle.resources.proofs.enq.enq_found.Goals.{Start}
use Rattle.resources.proofs.enq.enq_found.Goals as goal

counted : (c : Start) → c.args.q.count ≡ length (entries_in c.args.q)
counted c =
    let h : length c.args.q.slots ≡ most_entries = search (rules, mapped_length) in
    sym (length-take-le c.args.q.count (map entry_of c.args.q.slots)
    (rw (length-map c.args.q.slots entry_of) (omega arith)))

long : (c : Start) → length c.args.l.names ≡ longest_list
long c = search (rules, mapped_length)

few : (c : Start) → c.args.l.count ≤ longest_list
few c = good_count _ (enq_names c.args.ret _ c.requires.1)

pub asked-verdict-requires : goal.asked-verdict-requires
asked-verdict-requires c = few (goal.at.asked-verdict-requires c).Start

pub returns-then-is_err : goal.returns-then-is_err
returns-then-is_err c =
    let a = c.args in
    found_stops (enq_asked a.ret (pointed_in a.l) a.room)
    (enq_rest (entries_in a.q) a.caller.0 a.ret (pointed_in a.l))
    (enq_looks a.ret (entries_in a.q) a.caller.0 (pointed_in a.l)) _
    (enq_parts (entries_in a.q) a.caller a.ret a.l a.room c.requires.1) _ _ _
    (rw c.enq_codes_due.ensures at c.asked-verdict.ensures) c.is_err.ensures.value c.if-is_err.true c.unlooked.ensures

pub enq_looks-looks-requires : goal.enq_looks-looks-requires
enq_looks-looks-requires c =
    (c.requires.0, few (goal.at.enq_looks-looks-requires c).Start)

pub enq_weighed-requires : goal.enq_weighed-requires
enq_weighed-requires c =
    (few (goal.at.enq_weighed-requires c).Start, c.requires.0)

pub returns : goal.returns
returns c =
    let a = c.args in
    let k = c.enq_looks-looks.ensures in
    let w = weighed_is a.ret (entries_in a.q) a.caller.0 (pointed_in a.l) _ _ _ k (counted (goal.at.returns c).Start)
    (sym (asks_length a.l (omega (arith, few (goal.at.returns c).Start, long (goal.at.returns c).Start)))) in
    found_goes (enq_asked a.ret (pointed_in a.l) a.room)
    (enq_rest (entries_in a.q) a.caller.0 a.ret (pointed_in a.l))
    (enq_looks a.ret (entries_in a.q) a.caller.0 (pointed_in a.l)) _
    (enq_parts (entries_in a.q) a.caller a.ret a.l a.room c.requires.1) _ _
    (rw c.enq_codes_due.ensures at c.asked-verdict.ensures) (go_is _ _ c.is_err.ensures.value c.if-is_err.false) (c.enq_weighed.ensures ∙ w) k
