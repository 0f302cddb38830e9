use Rattle.std.proofs.Common.{rules}
use Rattle.std.proofs.lemmas.Iterator.{YieldsList-from_slice}
use Rattle.std.proofs.lemmas.Iterator.Search.{all_from_yields_List}
use Rattle.laws.specs.Blocks.{waiter_good}
use Rattle.rules.specs.SoundEcbs.{waiters_good}
use Rattle.between.proofs.waiters.waiters_good.Goals as goal

pub returns : goal.returns
unfolding waiters_good
returns c =
    all_from_yields_List (waiter_good c.args.f.places) _ _ _ c.all.ensures.ran (YieldsList-from_slice c.args.e.ecbs cc)
    (λ x b q k. search rules)
