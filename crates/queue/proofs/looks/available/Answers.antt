use Rattle.std.proofs.Common.{rules, ◌≡◌, take, not, sym, ◌∙◌}
use Rattle.lists.specs.Lists.{every}
use Rattle.names.specs.Pointers.{pointed_ask}
use Rattle.rules.specs.Control.{available}
use Rattle.rules.specs.Enq.{entry_for}
use Rattle.rules.specs.Rings.{bars}
use Rattle.kinds.specs.declared.names.Pointed.{Pointed}
use Rattle.kinds.specs.declared.names.Slot.{Slot}
use Rattle.queue.specs.Queues.{entry_of, entries_in}
use Rattle.queue.proofs.Barring.{none_bars-control}
use Rattle.queue.proofs.Flagged.{flags_are, tail_available}
use Rattle.queue.proofs.looks.available.Goals as goal

pub returns : goal.returns
returns c =
    let q = c.args.q in
    let f = available (entries_in q) in
    flags_are f c.args.l _ (c.flagged.ensures (λ (w : Pointed). f (pointed_ask w))
    (λ w b h.
    let e = entry_for 0 (pointed_ask w) in
    let free : b ≡ every (λ (x : Slot). not (bars (entry_of x) e)) (take q.count q.slots) = search rules in
    free ∙ none_bars-control e q.count q.slots ∙ sym (tail_available (entries_in q) 0 (pointed_ask w))))
