-- Each return cites the tests that led to it, the first also the contract of the change of condition.
use Rattle.lists.specs.Pick.{chosen}
use Rattle.between.specs.Waiting.{wake_if}
use Rattle.between.proofs.waking.woken.Goals.{else-in_resource_wait-via-then-in_resource_wait+else-not-lacks, else-in_resource_wait-via-else-in_resource_wait}
use Rattle.between.proofs.waking.woken.Goals as goal

pub returns-then-not-lacks : goal.returns-then-not-lacks
unfolding wake_if
returns-then-not-lacks c = search chosen depth 10

pub returns : goal.returns
unfolding wake_if
returns c =
    elim c.else-in_resource_wait.branch [
      | else-in_resource_wait-via-then-in_resource_wait+else-not-lacks w ↦ search chosen depth 10
      | else-in_resource_wait-via-else-in_resource_wait w ↦ search chosen depth 10
    ]
