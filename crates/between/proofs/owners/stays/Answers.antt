-- Each return cites the test of the subpool, the second also that of the owner.
use Rattle.lists.specs.Pick.{chosen}
use Rattle.rules.specs.Ending.{area_stays}
use Rattle.between.proofs.owners.stays.Goals as goal

pub returns-then-a-eq0 : goal.returns-then-a-eq0
unfolding area_stays
returns-then-a-eq0 c = search chosen depth 10

pub returns-else-a-eq0 : goal.returns-else-a-eq0
unfolding area_stays
returns-else-a-eq0 c = search chosen depth 10
