-- As many are counted as would be kept.
use Rattle.std.proofs.Common.{◌≡◌, not, count_by, take, sym, ◌∙◌, rules}
use Rattle.std.proofs.lemmas.List.Sums.{length-filter}
use Rattle.lists.specs.Counting.{how_many_keep}
use Rattle.resources.proofs.enq.fresh_names.Goals as goal

pub returns : goal.returns
returns c =
    let flags = take c.args.n c.args.has.of in
    let e : c.count.result ≡ count_by not flags = search rules in
    e ∙ sym (length-filter not flags) ∙ how_many_keep not flags
