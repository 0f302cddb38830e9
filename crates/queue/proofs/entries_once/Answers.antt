use Rattle.std.proofs.Common.{arith, ap, sym, ◌∙◌}
use Rattle.lists.specs.Lists.{distinct}
use Rattle.rules.specs.SoundQueue.{same_request, entries_once}
use Rattle.queue.proofs.Views.{entries_shown}
use Rattle.queue.proofs.Tests.{once_stops, once_goes, once_over}
use Rattle.queue.proofs.entries_once.Goals as goal

pub loop-i-init : goal.loop-i-init
loop-i-init c = ap (distinct same_request) (entries_shown c.args.q)

pub returns-then-is_again : goal.returns-then-is_again
unfolding entries_once
returns-then-is_again c =
    sym (c.loop-i.invariant ∙ once_stops _ c.loop-i.i _ _ (omega arith) c.is_again.ensures c.if-is_again.true)

pub loop-i-preserved : goal.loop-i-preserved
loop-i-preserved c =
    c.loop-i.invariant ∙ once_goes _ c.loop-i.i _ _ (omega arith) c.is_again.ensures c.if-is_again.false

pub returns : goal.returns
unfolding entries_once
returns c = sym (c.loop-i.invariant ∙ once_over _ c.loop-i.i (omega arith))
