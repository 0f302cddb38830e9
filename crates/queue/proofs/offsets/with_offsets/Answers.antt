use Rattle.std.proofs.Common.{rules, arith, ◌≡◌, ◌<◌, ℕ, refl, ap, ◌∙◌, length-take, set, get_or}
use Rattle.std.proofs.lemmas.List.{get_or-take}
use Rattle.lists.specs.Arrays.{mapped_length}
use Rattle.kinds.specs.Limits.{most_entries}
use Rattle.queue.specs.Queues.{zero_slot}
use Rattle.queue.proofs.Repointing.{slot_to, written_to, write_next, write_over}
use Rattle.queue.proofs.offsets.with_offsets.Goals as goal

pub loop-i-init : goal.loop-i-init
loop-i-init c = record {
  wide = search (rules, mapped_length);
  long = search (rules, mapped_length);
  count = refl;
  slots = refl;
}

pub loop-i-preserved : goal.loop-i-preserved
loop-i-preserved c =
    let a = c.args in
    let i = c.loop-i.i in
    let r = c.loop-i.r in
    let v = c.loop-i.invariant in
    let here : i < a.q.count = omega (arith, length-take {A = ℕ}) in
    let room : i < most_entries = omega (arith, v.long, length-take {A = ℕ}) in
    record {
      wide = v.wide;
      long = v.long;
      count = v.count;
      slots =
          ap (λ (o : ℕ). set r.slots i (slot_to o (get_or r.slots i zero_slot))) (get_or-take a.q.count a.to.of i 0 here)
          ∙ write_next a.to.of a.q.slots r.slots i zero_slot (omega arith) (omega arith) v.slots;
    }

pub returns : goal.returns
returns c =
    let a = c.args in
    let v = c.loop-i.invariant in
    let over : c.loop-i.i ≡ a.q.count = omega (arith, length-take {A = ℕ}) in
    write_over a.to.of a.q c.loop-i.r c.requires (omega (arith, c.requires.room))
    (v.slots ∙ ap (written_to a.to.of a.q.slots) over) v.count
