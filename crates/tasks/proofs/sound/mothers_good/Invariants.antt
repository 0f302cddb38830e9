-- All tasks below n keep the rule, and the chain of task n is followed to the place x.
use Rattle.std.proofs.Common.{ℕ, ◌-◌, ◌<◌}
use Rattle.kinds.specs.Limits.{highest_task}
use Rattle.tasks.proofs.Mothers.{Kept, Walk}
use Rattle.tasks.proofs.sound.mothers_good.Given as goal

abbrev pub invariant-loop : goal.invariant-loop
invariant-loop l = Walk l.f.places l.n l.x (highest_task - l.counter)

abbrev pub invariant-tasks : goal.invariant-tasks
invariant-tasks l = (k : ℕ) → k < l.n → Kept l.f.places k
