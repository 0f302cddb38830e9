-- A CLEAR that goes on passed the range test.
use Rattle.std.proofs.Common.{sym, ◌∙◌, leb-true}
use Rattle.rules.specs.Clear.{clear_tests, clear_verdict}
use Rattle.laws.specs.Decided.{none_hold, good_of}
use Rattle.laws.specs.InRange.{clear_ecb}
use Rattle.events.proofs.clear.served.Goals as goal

pub with_ecb-e-requires : goal.with_ecb-e-requires
unfolding clear_verdict
with_ecb-e-requires c =
    let a = c.args in
    let g = none_hold (clear_tests a.t.ecbs.ecbs a.ecb) (sym c.clear_verdict.ensures ∙ c.in-Ok.is) in
    leb-true _ _ (clear_ecb a.ecb (good_of _ g.0))
