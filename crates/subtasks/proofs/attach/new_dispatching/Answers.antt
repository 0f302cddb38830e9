-- The sum as the machine reads it is the sum itself, and `clamp` holds it between 0 and the limit.
use Rattle.std.proofs.Common.{arith, ap, ◌∙◌, ◌≡◌, ℕ, ℤ, pos, nat_abs, ◌+ℤ◌, to_z, of_z, refl}
use Rattle.std.proofs.lemmas.Int.{ints, clamps}
use Rattle.std.specs.Int.{int_max, int_min}
use lib.IntN.{negsuc}
use mir.Syntax.{w16, w32}
use Rattle.rules.specs.Attach.{held_to, new_dispatching}
use Rattle.subtasks.proofs.attach.new_dispatching.Goals as goal

held : (l : ℕ) (z : ℤ) → int_max (pos 0) (int_min z (pos l)) ≡ held_to (pos 0) (pos l) z
unfolding held_to
held l (pos n) = grind (arith, ints, clamps)
held l (negsuc n) = refl

pub returns : goal.returns
unfolding new_dispatching
returns c =
    let a = c.args in
    let l : to_z w32 a.limit ≡ pos a.limit = omega (arith, ints) in
    let s : to_z w32 (of_z w32 (to_z w32 a.dispatching +ℤ to_z w32 (of_z w32 (to_z w16 (of_z w16 a.dpmod)))))
    ≡ pos a.dispatching +ℤ a.dpmod = omega (arith, ints) in
    let r : to_z w32 (of_z w32 c.clamp.result) ≡ c.clamp.result = omega (arith, ints) in
    ap nat_abs (r ∙ rw (l, s) at c.clamp.ensures.value ∙ held a.limit _)
