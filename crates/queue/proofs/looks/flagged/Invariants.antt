-- However what is asked is answered, the first i names have their flags.
use Rattle.std.proofs.Common.{◌≡◌, Bool, false}
use Rattle.std.specs.Fn.{FnReturnsAt}
use Rattle.kinds.specs.declared.names.Pointed.{Pointed}
use Rattle.queue.proofs.Filled.{Filled}
use Rattle.queue.proofs.looks.flagged.Given as goal

abbrev pub invariant-loop-i : goal.invariant-loop-i
invariant-loop-i g l =
    (f : Pointed → Bool) → ((w : Pointed) (b : Bool) → FnReturnsAt g.F.Fn l.ask w b → b ≡ f w)
    → Filled false f l.names l.i l.r.of
