use Rattle.std.proofs.Common.{arith, ◌∙◌, length-take}
use Rattle.queue.specs.Queues.{zero_slot}
use Rattle.rings.proofs.ByName.{group_room, group_kept, group_passed, group_end}
use Rattle.rings.proofs.standing.queues_list.Goals.{then-not-one_named, else-not-one_named}
use Rattle.rings.proofs.standing.queues_list.Goals as goal

pub push_queue-requires : goal.push_queue-requires
push_queue-requires c =
    let q = c.args.q.now in
    let w =
    group_room c.loop-i.invariant c.loop-i-test.true zero_slot c.one_named.result c.one_named.ensures
    c.if-not-one_named.true in
    let k = length-take q.count q.slots in
    record { count_le_most_entries = c.requires; n_bound = omega arith; n_bound_2 = omega arith }

pub loop-i-preserved : goal.loop-i-preserved
loop-i-preserved c =
    let v = c.loop-i.invariant in
    let h = c.loop-i-test.true in
    let t = c.one_named in
    elim c.if-not-one_named.branch [
      | then-not-one_named w ↦ group_kept v h zero_slot t.result t.ensures w.if-not-one_named.true (omega arith) _
          (w.l-is ∙ w.push_queue.ensures)
      | else-not-one_named w ↦ group_passed v h zero_slot t.result t.ensures w.if-not-one_named.false _ w.l-is
    ]

pub returns : goal.returns
returns c = group_end c.args.q.now c.loop-i.i c.loop-i.l c.loop-i.invariant c.loop-i-test.false
