-- Where the tests go on, the looks say what codes are written and which answer is given, and of a queue that entries
-- leave, the resource waits are those that waking leaves; else nothing changes.
use mathlib.Core.Path.{◌≡◌, refl, ap, ◌∙◌}
use mathlib.Core.Bool.{Bool, not}
use Prim.Native.Nat.{◌≤◌}
use lib.ListN.{length}
use Rattle.kinds.specs.Limits.{longest_list}
use Rattle.std.specs.Prelude.{Ok}
use Rattle.names.specs.Pointers.{pointed_in}
use Rattle.names.proofs.Listed.{good_count}
use Rattle.rules.specs.Names.{names_of}
use Rattle.rules.specs.Control.{Entry, is_for_one}
use Rattle.rules.specs.Deq.{deq_done, deq_verdict, deq_written}
use Rattle.laws.specs.Passed.{deq_passed}
use Rattle.laws.specs.Requeuing.{kept_wakes}
use Rattle.queue.specs.Queues.{entries_in}
use Rattle.queue.proofs.Views.{live_stored, kept_pointing, keep_packed}
use Rattle.tables.specs.Tables.{step_of, Packed}
use Rattle.tables.proofs.Admits.{admitted_packed, admitted_running}
use Rattle.resources.specs.Looking.{deq_looks}
use Rattle.resources.specs.declared.Found.{Found}
use Rattle.resources.proofs.Changes.{deq_told, deq_zero, deq_written_lem}
use Rattle.resources.proofs.Bodies.{served_stops, served_goes}
use Rattle.resources.proofs.deq.served.Goals.{Else-is_err, Start}
use Rattle.resources.proofs.deq.served.Goals as goal

packed : (c : Start) → Packed c.args.t
packed c = admitted_packed _ _ c.requires.0

-- the tests go on, and the queue was looked at
went : (c : Else-is_err) → let k = c.before.before in
    let a = k.args in
    let q = entries_in a.t.queue in
    (deq_verdict q a.caller a.ret (pointed_in a.l) (length a.codes.now) ≡ Ok tt)
    × (k.deq_found-verdict.result.looks ≡ deq_looks q a.caller.0 (pointed_in a.l))
went c =
    let g = c.before in
    deq_told _ _ _ _ _ _ _ g.requires.1 g.deq_found-verdict.ensures g.is_err.ensures.value c.if-is_err.false

few : (c : Start) → c.args.l.count ≤ longest_list
few c = good_count _ c.requires.1

-- what is not released
abbrev stays : Start → Entry → Bool
stays c x = not (is_for_one c.args.caller.0 (names_of (pointed_in c.args.l)) x)

pub deq_found-verdict-requires : goal.deq_found-verdict-requires
deq_found-verdict-requires c = ((packed (goal.at.deq_found-verdict-requires c).Start).queue.room, c.requires.1)

pub returns-then-is_err : goal.returns-then-is_err
returns-then-is_err c =
    let a = c.args in
    let p =
    served_stops _ (deq_written (entries_in a.t.queue) a.caller a.ret (pointed_in a.l) a.codes.now) _ _
    (ap (λ (x : Found). x.verdict) c.deq_found-verdict.ensures) c.is_err.ensures.value c.if-is_err.true
    c.stays.ensures in
    record { result_value = p.0; codes_after = p.1 }

pub write_due-requires : goal.write_due-requires
write_due-requires c =
    (few (goal.at.write_due-requires c).Start, rw c.deq_codes_due.ensures (deq_passed _ _ _ _ _ (went (goal.at.write_due-requires c).Else-is_err).0).coded)

pub release-q-requires : goal.release-q-requires
release-q-requires c =
    ((packed (goal.at.release-q-requires c).Start).queue, few (goal.at.release-q-requires c).Start)

pub wake-f-requires : goal.wake-f-requires
wake-f-requires c =
    (keep_packed (stays (goal.at.wake-f-requires c).Start) _ _ (packed (goal.at.wake-f-requires c).Start).queue c.release-q.ensures).room

pub returns : goal.returns
unfolding deq_done deq_written
returns c =
    let a = c.args in
    let es = entries_in a.t.queue in
    let l = pointed_in a.l in
    let v = went (goal.at.returns c).Else-is_err in
    let z = deq_zero es a.caller.0 a.ret l _ v.1 (deq_passed _ _ _ _ _ v.0).entered in
    let k = kept_wakes (step_of a.t) (admitted_running _ _ c.requires.0) (stays (goal.at.returns c).Start) in
    let m = live_stored _ (kept_pointing (stays (goal.at.returns c).Start) a.t.queue) in
    let p =
    served_goes a.codes.now (deq_written es a.caller a.ret l a.codes.now) _ _ v.0 (packed (goal.at.returns c).Start) refl
    c.release-q.ensures (rw (c.wake-f.ensures, c.release-q.ensures, m, k)) c.put_queue.ensures
    c.put_tasks.ensures c.reply_to.ensures z c.goes.ensures
    (c.write_due.ensures
    ∙ deq_written_lem es a.caller.0 a.ret l _ _ a.codes.now v.1 c.deq_codes_due.ensures) in
    record { result_value = p.0; codes_after = p.1 }
