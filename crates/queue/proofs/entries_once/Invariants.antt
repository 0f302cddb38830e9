-- No two of all the entries are for one request just where no two of those from place i on are.
use Rattle.std.proofs.Common.{◌≡◌}
use Rattle.lists.specs.Lists.{distinct}
use Rattle.rules.specs.SoundQueue.{same_request}
use Rattle.queue.specs.Queues.{entries_in}
use Rattle.queue.proofs.Tests.{once_from}
use Rattle.queue.proofs.entries_once.Given as goal

abbrev pub invariant-loop-i : goal.invariant-loop-i
invariant-loop-i l = distinct same_request (entries_in l.fn.q) ≡ once_from l.used l.i
