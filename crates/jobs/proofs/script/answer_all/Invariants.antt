-- What is not yet taken is within the block (invariant).
use Prim.Native.Nat.{◌≤◌}
use Rattle.jobs.specs.Sizes.{block_size}
use Rattle.jobs.proofs.script.answer_all.Given as goal

abbrev pub invariant-loop-number : goal.invariant-loop-number
invariant-loop-number l = (l.next ≤ l.end) × (l.end ≤ block_size)
