use Rattle.std.proofs.Common.{sym, arith, rules}
use borrow.Author.Count.{below_more}
use Rattle.rules.specs.SoundTasks.{mother_good, mothers_good}
use Rattle.laws.specs.Places.{by_number}
use Rattle.tasks.proofs.Mothers.{Kept, kept_first, kept_free, walk_starts, walk_spent, walk_stops, walk_on, walk_ends}
use Rattle.tasks.proofs.sound.mothers_good.Goals as goal

pub tasks-init : goal.tasks-init
tasks-init c = λ k h. kept_first _ k (omega arith)

pub tasks-preserved-then-not-in_use : goal.tasks-preserved-then-not-in_use
tasks-preserved-then-not-in_use c =
    below_more (Kept c.args.f.places) c.tasks.n c.tasks.invariant
    (kept_free _ _ _ c.place-x.ensures (sym c.if-not-in_use.ensures))

pub loop-init : goal.loop-init
loop-init c =
    walk_starts _ _ (omega arith) _ c.place-x.ensures (sym c.if-not-in_use.ensures)

pub returns-then-not-is_live : goal.returns-then-not-is_live
returns-then-not-is_live c =
    walk_stops _ _ (omega arith) _ _ c.loop.invariant _ c.place-x-in-loop.ensures
    (sym c.if-not-is_live.ensures)

pub tasks-preserved : goal.tasks-preserved
tasks-preserved c =
    let l = sym c.if-not-is_live.ensures in
    below_more (Kept c.args.f.places) c.tasks.n c.tasks.invariant
    (walk_ends _ _ (omega arith) _ _ c.loop.invariant _ c.place-x-in-loop.ensures l (search rules)
    (c.tasks.invariant _ c.if-m-n.true))

pub loop-preserved : goal.loop-preserved
loop-preserved c =
    let l = sym c.if-not-is_live.ensures in
    walk_on _ _ (omega arith) _ _ c.loop.invariant _ c.place-x-in-loop.ensures l _ (omega arith) c.if-m-n.false

pub returns-in-tasks : goal.returns-in-tasks
returns-in-tasks c = walk_spent _ _ (omega arith) _ _ c.loop.invariant (omega arith)

pub returns : goal.returns
unfolding mothers_good
returns c =
    sym (by_number (mother_good _) c.args.f.places (λ k low high. c.tasks.invariant k (omega arith)))
