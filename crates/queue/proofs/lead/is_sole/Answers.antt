use Rattle.std.proofs.Common.{arith, sym}
use Rattle.std.proofs.lemmas.Bool.{not-true, not-false}
use Rattle.queue.proofs.Soles.{read_start, read_next, read_stop, read_end}
use Rattle.queue.proofs.lead.is_sole.Goals as goal

pub loop-x-init : goal.loop-x-init
loop-x-init c = read_start _ _ _

pub loop-x-preserved : goal.loop-x-preserved
loop-x-preserved c =
    read_next _ _ _ _ _ _ _ (not-false _ c.if-not-s.false) (omega arith) c.read-s.ensures c.loop-x.invariant

pub returns-after-loop-x : goal.returns-after-loop-x
returns-after-loop-x c = sym (read_end _ _ _ _ c.loop-x.s (omega arith) c.loop-x.invariant)

pub returns-then-not-s : goal.returns-then-not-s
returns-then-not-s c = sym (read_stop _ _ _ _ _ (not-true _ c.if-not-s.true) c.loop-x.invariant)
