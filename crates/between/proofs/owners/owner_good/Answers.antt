-- Each return cites the test of the subpool, the second also that of the owner.
use Rattle.lists.specs.Pick.{chosen}
use Rattle.rules.specs.SoundAreas.{area_owner_good}
use Rattle.between.proofs.owners.owner_good.Goals as goal

pub returns-then-a-eq0 : goal.returns-then-a-eq0
unfolding area_owner_good
returns-then-a-eq0 c = search chosen depth 10

pub returns : goal.returns
unfolding area_owner_good
returns c = search chosen depth 10
