-- The first i tasks have woken unless marked, the others are as before.
use mathlib.Core.Path.{◌≡◌}
use Rattle.lists.specs.Numbered.{up_to}
use Rattle.between.proofs.Wakes.{unless_marked}
use Rattle.between.proofs.waking.wake.Given as goal

abbrev pub invariant-loop-i : goal.invariant-loop-i
invariant-loop-i l = l.x-items ≡ up_to (unless_marked l.lacking) 1 l.i l.initial.x-items
