-- The first i slots are written.
use Rattle.std.proofs.Common.{◌≡◌, length}
use Rattle.kinds.specs.Limits.{most_entries}
use Rattle.queue.proofs.Repointing.{written_to}
use Rattle.queue.proofs.offsets.with_offsets.Given as goal

abbrev pub invariant-loop-i : goal.invariant-loop-i
invariant-loop-i l = record {
  wide : length l.fn.q.slots ≡ most_entries;
  long : length l.fn.to.of ≡ most_entries;
  count : l.r.count ≡ l.fn.q.count;
  slots : l.r.slots ≡ written_to l.fn.to.of l.fn.q.slots l.i;
}
