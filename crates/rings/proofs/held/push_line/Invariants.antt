-- What is left from entry i on gives the line, and nothing is in the list yet.
use mathlib.Core.Path.{◌≡◌}
use lib.ListN.{take}
use Rattle.queue.specs.Marking.{mark_at}
use Rattle.rings.proofs.Ahead.{From}
use Rattle.rings.proofs.held.push_line.Given as goal

abbrev pub invariant-loop-i : goal.invariant-loop-i
invariant-loop-i l = record {
  same : l.l ≡ l.initial.l;
  line : From (mark_at l.on) l.t.0 (take l.q.count l.q.slots) l.i;
}
