use Rattle.std.proofs.Common.{arith}
use Rattle.std.proofs.lemmas.Grind.{common_steps}
use Rattle.rules.specs.Rings.{bars}
use Rattle.queue.proofs.bars.Goals as goal

pub returns-then-x : goal.returns-then-x
unfolding bars
returns-then-x c = grind (arith, common_steps)

pub returns-else-x : goal.returns-else-x
unfolding bars
returns-else-x c = grind (arith, common_steps)

pub returns-else-eq : goal.returns-else-eq
unfolding bars
returns-else-eq c = grind (arith, common_steps)
