-- None of them bars the entry: the rules' test of control, entry by entry.
use Rattle.std.proofs.Common.{not, rules, tests, sym, ◌∙◌, map}
use Rattle.std.proofs.lemmas.Iterator.{YieldsList-from_slice}
use Rattle.std.proofs.lemmas.Iterator.Search.{all_from_yields_List}
use Rattle.lists.specs.Every.{every_of}
use Rattle.kinds.specs.declared.names.Slot.{Slot}
use Rattle.rules.specs.Rings.{bars}
use Rattle.laws.specs.Control.{free, control_each}
use Rattle.queue.specs.Queues.{entry_of}
use Rattle.rings.proofs.standing.owns.Goals as goal

pub returns : goal.returns
unfolding free
returns c =
    let e = entry_of c.args.x in
    let es = c.args.before.now in
    all_from_yields_List (λ (s : Slot). not (bars (entry_of s) e)) _ _ _ c.all.ensures.ran (YieldsList-from_slice es cc)
    (λ x b q k. search (rules, tests))
    ∙ sym (every_of entry_of (free e) es) ∙ sym (control_each (map entry_of es) e)
