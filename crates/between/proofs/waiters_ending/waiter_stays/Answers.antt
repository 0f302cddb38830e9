-- Each return cites the test of whether the waiter is live.
use Rattle.lists.specs.Pick.{chosen}
use Rattle.rules.specs.Ending.{waiter_stays}
use Rattle.between.proofs.waiters_ending.waiter_stays.Goals as goal

pub returns-then-is_live : goal.returns-then-is_live
unfolding waiter_stays
returns-then-is_live c = search chosen

pub returns : goal.returns
unfolding waiter_stays
returns c = search chosen
