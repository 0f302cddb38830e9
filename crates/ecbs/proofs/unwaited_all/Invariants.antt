-- The ECBs up to the index are unwaited, the others are as before.
use Rattle.std.proofs.Common.{◌≡◌, ◌++◌, map, take, drop}
use Rattle.rules.specs.Events.{unwaited}
use Rattle.ecbs.proofs.unwaited_all.Given as goal

abbrev pub invariant-loop-x : goal.invariant-loop-x
invariant-loop-x l =
    l.x-items ≡ map (unwaited l.w.0) (take l.x-index l.initial.x-items) ++ drop l.x-index l.initial.x-items
