-- Of the rows so far, those that stay are at the front.
use Rattle.std.proofs.Common.{◌≡◌, Bool, ◌≤◌, take}
use Rattle.between.specs.Staying.{Staying}
use Rattle.between.proofs.staying.staying.Given as goal

abbrev pub invariant-loop-x : goal.invariant-loop-x
invariant-loop-x g l = record {
  few : l.n ≤ l.x-index;
  front : (p : _ → Bool) → ((x : _) (b : Bool) → goal.F-post g l.stays x b → b ≡ p x.now)
      → Staying p (take l.x-index l.rows) l.initial.kept l.kept l.n;
}
