-- The first i places are read.
use Rattle.std.proofs.Common.{◌≡◌, ◌++◌, length, take, drop}
use Rattle.kinds.specs.Limits.{most_entries}
use Rattle.queue.specs.Pointing.{offsets_at}
use Rattle.queue.proofs.offsets.offsets_of.Given as goal

abbrev pub invariant-loop-i : goal.invariant-loop-i
invariant-loop-i l = record {
  wide : length l.fn.q.slots ≡ most_entries;
  long : length l.initial.r.of ≡ most_entries;
  read : l.r.of ≡ take l.i (offsets_at l.fn.q).of ++ drop l.i l.initial.r.of;
}
