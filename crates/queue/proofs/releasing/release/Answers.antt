use Rattle.std.proofs.Common.{arith, ◌≡◌, ◌<◌, List, get_or, take, ap, not, sym, ◌∙◌, take_all, length-take}
use Rattle.lists.specs.Lists.{keep}
use Rattle.lists.specs.Packed.{swept_start, swept_kept, swept_passed}
use Rattle.kinds.specs.Limits.{most_entries}
use Rattle.kinds.specs.declared.names.Slot.{Slot}
use Rattle.queue.specs.Queues.{entry_of, zero_slot, rows_of}
use Rattle.queue.proofs.Views.{table, swept_rows}
use Rattle.queue.proofs.Looking.{for_one}
use Rattle.queue.proofs.releasing.release.Invariants.{stays}
use Rattle.queue.proofs.releasing.release.Goals.{then-not-is_for_one, else-not-is_for_one}
use Rattle.queue.proofs.releasing.release.Goals as goal

pub loop-x-init : goal.loop-x-init
loop-x-init c = swept_start table c.empty-r.ensures

pub loop-x-preserved : goal.loop-x-preserved
loop-x-preserved c =
    let a = c.args in
    let v = c.loop-x.invariant in
    let x = get_or (take a.q.count a.q.slots) c.loop-x.x-index zero_slot in
    let few : c.loop-x.x-index < most_entries = omega (arith, c.requires.0.room, length-take {A = Slot}) in
    let mine = sym (c.is_for_one.ensures ∙ for_one a.c.0 a.l x) in
    elim c.if-not-is_for_one.branch [
      | then-not-is_for_one w ↦ swept_kept table v (omega arith) few zero_slot (ap not (mine ∙ w.if-not-is_for_one.true))
          (w.r-is ∙ w.push.ensures)
      | else-not-is_for_one w ↦ swept_passed table v (omega arith) few zero_slot
          (ap not (mine ∙ w.if-not-is_for_one.false)) w.r-is
    ]

pub returns : goal.returns
returns c =
    let a = c.args in
    let used = take a.q.count a.q.slots in
    let f = stays a.c.0 a.l in
    let all : take c.loop-x.x-index used ≡ used = take_all c.loop-x.x-index used (omega arith) in
    c.loop-x.invariant.so_far ∙ ap (λ (l : List Slot). rows_of (keep (λ (s : Slot). f (entry_of s)) l)) all
    ∙ swept_rows f a.q
