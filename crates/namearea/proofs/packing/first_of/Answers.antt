use Rattle.std.proofs.Common.{rules, tests, take}
use Rattle.std.proofs.lemmas.Iterator.{YieldsList-from_slice}
use Rattle.std.proofs.lemmas.Iterator.Search.{position_from_yields_List}
use Rattle.namearea.proofs.packing.first_of.Goals as goal

pub returns : goal.returns
returns c = record {
  is =
      position_from_yields_List _ _ _ _ c.position.ensures.ran (YieldsList-from_slice (take c.args.n c.args.ats.now) cc)
      (λ x b q k. search (rules, tests));
}
