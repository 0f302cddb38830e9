-- The first ECBs are swept, the others are as before.
use Prim.Native.Nat.{ℕ}
use mathlib.Core.Path.{◌≡◌}
use Rattle.lists.specs.Numbered.{up_to}
use Rattle.rules.specs.Ending.{waiter_stays}
use Rattle.between.proofs.waiters_ending.wait_bits_left.Given as goal

abbrev pub invariant-loop-x : goal.invariant-loop-x
invariant-loop-x l = l.x-items ≡ up_to (λ (k : ℕ). waiter_stays l.f.places) 0 l.x-index l.initial.x-items
