-- Whatever the offsets are, they stand for lawful names.
use Rattle.queue.proofs.Tests.{names_are}
use Rattle.queue.proofs.entry_names_good.Goals as goal

pub returns : goal.returns
returns c = names_are c.args.q
