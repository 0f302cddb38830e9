use Rattle.std.proofs.Common.{ℕ, arith, ap, sym, ◌∙◌, List, [], ◌∷◌, take, get_or}
use Rattle.rules.specs.Control.{Entry, control}
use Rattle.queue.specs.Queues.{entry_of, zero_slot}
use Rattle.rings.specs.Listings.{with_item}
use Rattle.rings.proofs.ByName.{front, owner_byte, walk_room, walk_kept, walk_passed, walk_end}
use Rattle.rings.proofs.standing.push_queue.Goals.{then-eq, else-eq}
use Rattle.rings.proofs.standing.push_queue.Goals as goal

pub push-requires : goal.push-requires
push-requires c =
    let w =
    walk_room c.loop-j.invariant (omega arith) c.loop-j-test.true zero_slot (sym c.eq.ensures ∙ c.if-eq.true) in
    (omega arith, omega arith)

pub loop-j-preserved : goal.loop-j-preserved
loop-j-preserved c =
    let q = c.args.q.now in
    let l = c.loop-j in
    let x = get_or (take q.count q.slots) l.j zero_slot in
    elim c.if-eq.branch [
      | then-eq w ↦ walk_kept l.invariant (omega arith) c.loop-j-test.true zero_slot
          (sym c.eq.ensures ∙ w.if-eq.true) _
          (w.l-is ∙ w.push.ensures ∙ ap (λ (b : ℕ). with_item l.l (l.j ∷ b ∷ []))
          (owner_byte (w.owns-owner.ensures ∙ ap (λ (p : List Entry). control p (entry_of x)) (front q l.j))))
      | else-eq w ↦ walk_passed l.invariant (omega arith) c.loop-j-test.true zero_slot
          (sym c.eq.ensures ∙ w.if-eq.false) _ w.l-is
    ]

pub returns : goal.returns
returns c = walk_end c.loop-j.invariant c.loop-j-test.false
