use Rattle.std.proofs.Common.{rules, ◌≡◌, List, map, take, sym, ap, ◌∙◌}
use Rattle.lists.specs.Keeping.{take_map}
use Rattle.names.specs.Pointers.{pointer, pointed_ask}
use Rattle.rules.specs.Control.{Entry, sole_owner}
use Rattle.rules.specs.Names.{Ask}
use Rattle.kinds.specs.declared.names.Pointed.{Pointed}
use Rattle.queue.specs.Queues.{entry_of, entries_in}
use Rattle.queue.proofs.Flagged.{flags_are}
use Rattle.queue.proofs.lead.sole.Goals as goal

pub returns : goal.returns
returns c =
    let q = c.args.q in
    let t = c.args.caller.0 in
    let f = λ (a : Ask). sole_owner (entries_in q) t a.name in
    flags_are f c.args.l _ (c.flagged.ensures (λ (w : Pointed). f (pointed_ask w))
    (λ w b h.
    let alone : b ≡ sole_owner (map entry_of (take q.count q.slots)) t (pointer w.name.0) = search rules in
    alone ∙ sym (ap (λ (l : List Entry). sole_owner l t (pointer w.name.0)) (take_map entry_of q.count q.slots))))
