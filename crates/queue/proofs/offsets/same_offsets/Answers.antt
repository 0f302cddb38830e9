use Rattle.std.proofs.Common.{rules, sym, ◌∙◌, ne_eqb, length-take-le}
use Rattle.lists.specs.Arrays.{within}
use Rattle.queue.proofs.Repointing.{same_is, same_counts}
use Rattle.queue.proofs.offsets.same_offsets.Goals as goal

pub returns-then-a-b : goal.returns-then-a-b
returns-then-a-b c =
    let a = c.args.a in
    let b = c.args.b in
    c.same_names.ensures
    ∙ same_is a b (length-take-le a.count a.slots (search (rules, within)) ∙ c.if-a-b.true
    ∙ sym (length-take-le b.count b.slots (search (rules, within))))

pub returns-else-a-b : goal.returns-else-a-b
returns-else-a-b c =
    let a = c.args in
    ne_eqb _ _ c.if-a-b.false ∙ same_counts a.a a.b (search (rules, within)) (search (rules, within)) c.if-a-b.false
