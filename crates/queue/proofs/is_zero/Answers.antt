use Rattle.std.proofs.Common.{rules}
use Rattle.queue.specs.Queues.{is_zero}
use Rattle.queue.proofs.is_zero.Goals as goal

pub returns : goal.returns
unfolding is_zero
returns c = search rules
