use Rattle.std.proofs.Common.{arith}
use Rattle.std.proofs.lemmas.Grind.{common_steps}
use Rattle.lists.specs.Pick.{pick}
use Rattle.queue.specs.Leading.{lead_next}
use Rattle.queue.proofs.lead.read.Goals as goal

pub returns-then-ne : goal.returns-then-ne
unfolding lead_next pick
returns-then-ne c = grind (arith, common_steps)

pub returns-then-s-x : goal.returns-then-s-x
unfolding lead_next pick
returns-then-s-x c = grind (arith, common_steps)

pub returns : goal.returns
unfolding lead_next pick
returns c = grind (arith, common_steps)
