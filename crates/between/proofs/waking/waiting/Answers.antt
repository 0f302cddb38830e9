use native.Mathlib.Omega.{arith}
use Rattle.queue.specs.Marking.{marks_are}
use Rattle.between.proofs.Wakes.{waits_none, waits_next}
use Rattle.between.proofs.waking.waiting.Goals as goal

pub loop-i-init : goal.loop-i-init
loop-i-init c = waits_none _ _ c.no_marks-m.ensures

pub loop-i-preserved : goal.loop-i-preserved
loop-i-preserved c = waits_next c.args.f.places _ _ _ (omega arith) c.in_resource_wait.ensures c.loop-i.invariant

pub returns : goal.returns
returns c = marks_are _ _ _ (omega arith) c.loop-i.invariant
