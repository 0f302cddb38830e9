-- The search from the n-th multiple of 8 on finds what all of it finds.
use Prim.Native.Nat.{◌*◌}
use Rattle.kinds.specs.Limits.{doubleword}
use Rattle.mainstorage.proofs.Searching.{Searching}
use Rattle.cost.proofs.every.every_multiple.Given as goal

abbrev pub invariant-loop-n : goal.invariant-loop-n
invariant-loop-n l = Searching l.fn.s.areas l.fn.s.count l.want (l.n * doubleword)
