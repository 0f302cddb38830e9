-- Each return cites the test of whether the ECB is complete.
use Rattle.lists.specs.Pick.{pick}
use Rattle.rules.specs.Events.{signalled}
use Rattle.between.specs.Posts.{signals_of}
use Rattle.between.proofs.waiters.post.Goals as goal

pub returns-then-old : goal.returns-then-old
unfolding signals_of signalled pick
returns-then-old c = rw (← c.at-old.ensures, c.if-old.true)

pub returns : goal.returns
unfolding signalled pick
returns c =
    rw (← c.at-old.ensures, c.if-old.false, ← c.completed.ensures)
    (rw c.with_ecb-next.ensures at c.woken.ensures)
