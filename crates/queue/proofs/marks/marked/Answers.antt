-- What lies past the marks changes none of them.
use Rattle.std.proofs.Common.{rules}
use Rattle.std.proofs.Math.Seq.{set_out}
use Rattle.queue.specs.Marking.{with_mark}
use Rattle.queue.proofs.marks.marked.Goals as goal

pub returns-then-k-lt-PLACES : goal.returns-then-k-lt-PLACES
unfolding with_mark
returns-then-k-lt-PLACES c = search rules

pub returns-else-k-lt-PLACES : goal.returns-else-k-lt-PLACES
unfolding with_mark
returns-else-k-lt-PLACES c = search (rules, set_out)
