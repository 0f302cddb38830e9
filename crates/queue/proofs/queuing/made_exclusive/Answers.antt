use Rattle.std.proofs.Common.{rules, arith, ◌≡◌, ◌<◌, ℕ, ◌++◌, map, take, drop, refl, sym, ap, ◌∙◌, length-take, get_or}
use Rattle.std.proofs.lemmas.List.{get_or-take, length-map}
use Rattle.lists.specs.Arrays.{mapped_length}
use Rattle.kinds.specs.Limits.{most_entries}
use Rattle.kinds.specs.declared.names.Slot.{Slot}
use Rattle.names.specs.Pointers.{pointed_in}
use Rattle.rules.specs.Names.{names_of}
use Rattle.rules.specs.Control.{is_for_one}
use Rattle.rules.specs.Enq.{made_exclusive}
use Rattle.queue.specs.Queues.{entry_of, entries_in, zero_slot}
use Rattle.queue.proofs.Views.{entries_shown, changed_rows}
use Rattle.queue.proofs.Looking.{for_one}
use Rattle.queue.proofs.Exclusive.{exclusive_slot, exclusive_shown, exclusive_next}
use Rattle.queue.proofs.queuing.made_exclusive.Goals as goal

pub loop-i-init : goal.loop-i-init
loop-i-init c = record { wide = search (rules, mapped_length); count = refl; slots = refl }

pub loop-i-preserved : goal.loop-i-preserved
loop-i-preserved c =
    let a = c.args in
    let i = c.loop-i.i in
    let v = c.loop-i.invariant in
    let ns = names_of (pointed_in a.l) in
    let here : i < a.q.count = omega (arith, length-take {A = Slot}) in
    let room : i < most_entries = omega (arith, v.wide, length-take {A = Slot}) in
    record {
      wide = v.wide;
      count = v.count;
      slots =
          exclusive_next a.c.0 ns a.q.slots c.loop-i.r.slots i zero_slot c.is_for_one.result (omega arith) v.slots
          (c.is_for_one.ensures ∙ for_one a.c.0 a.l (get_or (take a.q.count a.q.slots) i zero_slot)
          ∙ ap (λ (x : Slot). is_for_one a.c.0 ns (entry_of x)) (get_or-take a.q.count a.q.slots i zero_slot here));
    }

pub returns : goal.returns
returns c =
    let a = c.args in
    let v = c.loop-i.invariant in
    let over : c.loop-i.i ≡ a.q.count = omega (arith, c.requires.0.room, length-take {A = Slot}) in
    let ns = names_of (pointed_in a.l) in
    let g = exclusive_slot a.c.0 ns in
    let f = made_exclusive a.c.0 ns in
    let s = exclusive_shown a.c.0 ns (take a.q.count a.q.slots) in
    changed_rows (map g) (map f (entries_in a.q)) a.q c.requires.0
    (s ∙ ap (map f) (sym (entries_shown a.q))) (length-map (entries_in a.q) f) c.loop-i.r
    (v.slots ∙ ap (λ (k : ℕ). map g (take k a.q.slots) ++ drop k a.q.slots) over) v.count
