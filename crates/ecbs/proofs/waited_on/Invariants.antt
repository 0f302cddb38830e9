-- The wait bits of the ECBs up to the index are counted.
use Rattle.std.proofs.Common.{◌≡◌, ◌+◌, take}
use Rattle.kinds.specs.Limits.{highest_task}
use Rattle.ecbs.specs.Blocks.{tally_from}
use Rattle.ecbs.proofs.waited_on.Given as goal

abbrev pub invariant-loop-x : goal.invariant-loop-x
invariant-loop-x l = l.t.ecbs ≡ tally_from (highest_task + 1) 0 (take l.x-index l.fn.e.ecbs)
