use Rattle.std.proofs.Common.{rules, arith, sym, ◌∙◌, ◌-◌, ◌%◌}
use Rattle.cost.proofs.Sizes.{searched}
use Rattle.cost.proofs.searches.repeated.Goals as goal

pub search-last-requires : goal.search-last-requires
search-last-requires g c =
    let h = searched c.args.t.now (c.args.most - c.loop-i.i % 8) (sym c.packed.ensures ∙ c.if-packed.true) (omega arith)
    (omega arith) in
    search (rules, h, c.requires.calls)
