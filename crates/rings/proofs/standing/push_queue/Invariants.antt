-- The entries for the name among the places i to j - 1 are in the list.
use Rattle.rings.proofs.ByName.{Walked}
use Rattle.rings.proofs.standing.push_queue.Given as goal

abbrev pub invariant-loop-j : goal.invariant-loop-j
invariant-loop-j l = Walked l.q l.i l.n l.initial.l l.j l.l
