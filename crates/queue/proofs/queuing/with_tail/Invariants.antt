-- The names from place i on are left to queue.
use Rattle.std.proofs.Common.{◌≡◌, ◌≤◌, length}
use Rattle.kinds.specs.Limits.{longest_list}
use Rattle.queue.proofs.Builds.{Tailed}
use Rattle.queue.proofs.queuing.with_tail.Given as goal

abbrev pub invariant-loop-i : goal.invariant-loop-i
invariant-loop-i l = record {
  few : l.fn.l.count ≤ longest_list;
  names : length l.fn.l.names ≡ longest_list;
  flags : length l.fn.skip.of ≡ longest_list;
  tailed : Tailed l.fn.c.0 l.fn.q l.fn.skip.of l.fn.l.names l.i l.fn.l.count l.r;
}
