-- Each return cites the test of whether the task is ready.
use mathlib.Core.Path.{sym, ◌∙◌}
use Rattle.lists.specs.Pick.{pick}
use Rattle.rules.specs.Events.{bits_left}
use Rattle.between.proofs.waiters.bits_left.Goals as goal

pub returns-then-is_ready : goal.returns-then-is_ready
unfolding bits_left pick
returns-then-is_ready c = rw (sym c.is_ready.ensures ∙ c.if-is_ready.true) c.unwaited_all.ensures

pub returns : goal.returns
unfolding bits_left pick
returns c = rw (sym c.is_ready.ensures ∙ c.if-is_ready.false)
