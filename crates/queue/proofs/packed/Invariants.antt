-- The places that were looked at, behind those in use, are zero or not.
use Rattle.std.proofs.Common.{◌≡◌, length, take}
use Rattle.lists.specs.Lists.{every}
use Rattle.kinds.specs.Limits.{most_entries}
use Rattle.queue.specs.Queues.{is_zero}
use Rattle.queue.proofs.packed.Given as goal

abbrev pub invariant-loop-x : goal.invariant-loop-x
invariant-loop-x l = record {
  wide : length l.fn.q.slots ≡ most_entries;
  yet : l.zero ≡ every is_zero (take l.x-index l.x-items);
}
