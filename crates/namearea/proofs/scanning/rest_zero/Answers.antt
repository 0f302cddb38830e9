-- The fold keeps whether all bytes so far are zero.
use Rattle.std.proofs.Common.{rules, tests, ◌∙◌, ◌&&◌, Bool, ℕ, true, eqb}
use Rattle.std.proofs.lemmas.Iterator.{YieldsList-from_slice}
use Rattle.std.proofs.lemmas.Iterator.Consumers.{fold_from_yields_List}
use Rattle.namearea.specs.Steps.{fold_every}
use Rattle.namearea.proofs.scanning.rest_zero.Goals as goal

pub returns : goal.returns
returns c =
    fold_from_yields_List _ (λ (a : Bool) (x : ℕ). a && eqb 0 x) true _ c.fold.ensures.ran
    (YieldsList-from_slice c.args.rest.now cc) (λ a x b q k. search (rules, tests))
    ∙ fold_every (eqb 0) true c.args.rest.now
