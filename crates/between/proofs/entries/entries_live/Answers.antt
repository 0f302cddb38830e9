-- The slots that are tested show the entries.
use Rattle.std.proofs.Common.{◌∙◌, rules, take}
use Rattle.std.proofs.lemmas.Iterator.{YieldsList-from_slice}
use Rattle.std.proofs.lemmas.Iterator.Search.{all_from_yields_List}
use Rattle.lists.specs.Loops.{all_shown}
use Rattle.kinds.specs.declared.names.Slot.{Slot}
use Rattle.rules.specs.Control.{Entry}
use Rattle.rules.specs.Family.{live}
use Rattle.rules.specs.SoundQueue.{entries_live}
use Rattle.queue.specs.Queues.{entry_of}
use Rattle.between.proofs.entries.entries_live.Goals as goal

pub returns : goal.returns
unfolding entries_live
returns c =
    let q = c.args.q in
    let p = λ (e : Entry). live c.args.f.places e.task in
    all_from_yields_List (λ (s : Slot). p (entry_of s)) _ _ _ c.all.ensures.ran
    (YieldsList-from_slice (take q.count q.slots) (search rules))
    (λ x b q k. search rules)
    ∙ all_shown entry_of p q.count q.slots
