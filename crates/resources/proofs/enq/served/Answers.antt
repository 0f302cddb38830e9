-- Where the tests go on, the looks say what codes are written and what changes; else nothing changes.
use mathlib.Core.Path.{◌≡◌, ap, ◌∙◌}
use Prim.Native.Nat.{◌≤◌}
use lib.ListN.{length}
use Rattle.kinds.specs.Limits.{longest_list}
use Rattle.std.specs.Prelude.{Ok}
use Rattle.names.specs.Pointers.{pointed_in}
use Rattle.names.proofs.Listed.{good_count}
use Rattle.rules.specs.Enq.{enq_done, enq_verdict, enq_written}
use Rattle.laws.specs.InRange.{enq_names}
use Rattle.laws.specs.Passed.{enq_passed}
use Rattle.queue.specs.Queues.{entries_in}
use Rattle.tables.specs.Tables.{step_of, Packed}
use Rattle.tables.proofs.Admits.{admitted_packed, admitted_running, caller_place}
use Rattle.resources.specs.Serving.{EnqTold}
use Rattle.resources.specs.declared.Found.{Found}
use Rattle.resources.proofs.Changes.{enq_told, zero_told, enq_written_lem, enq_leaves}
use Rattle.resources.proofs.Bodies.{served_stops, served_goes}
use Rattle.resources.proofs.enq.served.Goals.{Else-is_err, Start}
use Rattle.resources.proofs.enq.served.Goals as goal

packed : (c : Start) → Packed c.args.t
packed c = admitted_packed _ _ c.requires.0

-- the tests go on, and the queue was looked at
went : (c : Else-is_err) → let k = c.before.before in
    let a = k.args in
    let q = entries_in a.t.queue in
    (enq_verdict q a.caller a.ret (pointed_in a.l) (length a.codes.now) ≡ Ok tt)
    × EnqTold a.ret q a.caller.0 (pointed_in a.l) k.enq_found-verdict.result.looks
went c =
    let g = c.before in
    let s = g.before.before.before in
    enq_told _ _ _ s.args.l _ _ _ s.requires.1 g.enq_found-verdict.ensures g.is_err.ensures.value c.if-is_err.false

few : (c : Start) → c.args.l.count ≤ longest_list
few c = good_count _ (enq_names c.args.ret _ c.requires.1)

pub enq_found-verdict-requires : goal.enq_found-verdict-requires
enq_found-verdict-requires c = ((packed (goal.at.enq_found-verdict-requires c).Start).queue.room, c.requires.1)

pub returns-then-is_err : goal.returns-then-is_err
returns-then-is_err c =
    let a = c.args in
    let p =
    served_stops _ (enq_written (entries_in a.t.queue) a.caller a.ret (pointed_in a.l) a.codes.now) _ _
    (ap (λ (x : Found). x.verdict) c.enq_found-verdict.ensures) c.is_err.ensures.value c.if-is_err.true
    c.stays.ensures in
    record { result_value = p.0; codes_after = p.1 }

pub write_due-requires : goal.write_due-requires
write_due-requires c =
    (few (goal.at.write_due-requires c).Start, rw c.enq_codes_due.ensures (enq_passed _ _ _ _ _ (went (goal.at.write_due-requires c).Else-is_err).0).coded)

pub queue_left-q-requires : goal.queue_left-q-requires
queue_left-q-requires c =
    ((packed (goal.at.queue_left-q-requires c).Start).queue, (went (goal.at.queue_left-q-requires c).Else-is_err).1)

pub waits-requires : goal.waits-requires
waits-requires c =
    ((packed (goal.at.waits-requires c).Start).queue.room, few (goal.at.waits-requires c).Start)

pub tasks_left-f-requires : goal.tasks_left-f-requires
tasks_left-f-requires c =
    caller_place _ _ c.requires.0

pub returns : goal.returns
unfolding enq_done enq_written
returns c =
    let a = c.args in
    let es = entries_in a.t.queue in
    let l = pointed_in a.l in
    let v = went (goal.at.returns c).Else-is_err in
    let p =
    served_goes a.codes.now (enq_written es a.caller a.ret l a.codes.now) _ _ v.0 (packed (goal.at.returns c).Start)
    (enq_leaves (step_of a.t) (admitted_running _ _ c.requires.0) a.caller c.requires.0.gate l a.ret _ _ v.1
    c.waits.ensures) c.queue_left-q.ensures c.tasks_left-f.ensures c.put_queue.ensures
    c.put_tasks.ensures c.reply_to.ensures (zero_told _ _ v.1) c.goes.ensures
    (c.write_due.ensures ∙ enq_written_lem es a.caller.0 _ a.codes.now v.1 c.enq_codes_due.ensures) in
    record { result_value = p.0; codes_after = p.1 }
