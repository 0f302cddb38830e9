use Rattle.std.proofs.Common.{rules, ◌≡◌, take, ◌∙◌}
use Rattle.lists.specs.Lists.{some}
use Rattle.lists.specs.Loops.{any_shown}
use Rattle.names.specs.Pointers.{pointer, pointed_ask}
use Rattle.rules.specs.Control.{is_for, has_entry}
use Rattle.rules.specs.Names.{Ask}
use Rattle.kinds.specs.declared.names.Pointed.{Pointed}
use Rattle.kinds.specs.declared.names.Slot.{Slot}
use Rattle.queue.specs.Queues.{entry_of, entries_in}
use Rattle.queue.proofs.Flagged.{flags_are}
use Rattle.queue.proofs.looks.entered.Goals as goal

pub returns : goal.returns
returns c =
    let q = c.args.q in
    let t = c.args.caller.0 in
    let f = λ (a : Ask). has_entry (entries_in q) t a.name in
    flags_are f c.args.l _ (c.flagged.ensures (λ (w : Pointed). f (pointed_ask w))
    (λ w b h.
    let own = is_for t (pointer w.name.0) in
    let found : b ≡ some (λ (x : Slot). own (entry_of x)) (take q.count q.slots) = search rules in
    found ∙ any_shown entry_of own q.count q.slots))
