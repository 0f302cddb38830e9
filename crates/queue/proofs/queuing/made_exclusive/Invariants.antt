-- The first i slots are changed.
use Rattle.std.proofs.Common.{◌≡◌, ◌++◌, map, length, take, drop}
use Rattle.kinds.specs.Limits.{most_entries}
use Rattle.names.specs.Pointers.{pointed_in}
use Rattle.rules.specs.Names.{names_of}
use Rattle.queue.proofs.Exclusive.{exclusive_slot}
use Rattle.queue.proofs.queuing.made_exclusive.Given as goal

abbrev pub invariant-loop-i : goal.invariant-loop-i
invariant-loop-i l = record {
  wide : length l.fn.q.slots ≡ most_entries;
  count : l.r.count ≡ l.fn.q.count;
  slots : l.r.slots ≡ map (exclusive_slot l.fn.c.0 (names_of (pointed_in l.fn.l))) (take l.i l.fn.q.slots)
      ++ drop l.i l.fn.q.slots;
}
