-- The queues of the names of the first i entries are in the list.
use Rattle.rings.proofs.ByName.{Grouped}
use Rattle.rings.proofs.standing.queues_list.Given as goal

abbrev pub invariant-loop-i : goal.invariant-loop-i
invariant-loop-i l = Grouped l.q l.i l.l
