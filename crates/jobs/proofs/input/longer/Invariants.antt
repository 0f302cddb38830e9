-- `end` is within the block (invariant); bytes that the line may still have fall (measure).
use Prim.Native.Nat.{◌≤◌, ◌+◌, ◌-◌}
use Rattle.jobs.specs.Sizes.{block_size, longest_line}
use Rattle.jobs.proofs.input.longer.Given as goal

abbrev pub invariant-loop-end : goal.invariant-loop-end
invariant-loop-end l = l.end ≤ block_size

abbrev pub decreases-loop-end : goal.decreases-loop-end
decreases-loop-end l = longest_line + 1 - l.end
