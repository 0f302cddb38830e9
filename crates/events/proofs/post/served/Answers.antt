-- A POST that goes on passed the range test.
use Rattle.std.proofs.Common.{sym, ◌∙◌, leb-true, arith}
use Rattle.rules.specs.Post.{post_tests, post_verdict, post_done}
use Rattle.laws.specs.Decided.{none_hold, good_of}
use Rattle.laws.specs.InRange.{post_ranges}
use Rattle.between.specs.Posts.{signals_of}
use Rattle.tables.proofs.Bodies.{bodies}
use Rattle.events.proofs.post.served.Goals as goal

pub post-l-requires : goal.post-l-requires
unfolding post_verdict
post-l-requires c =
    let a = c.args in
    let g = none_hold (post_tests a.ecb a.code) (sym c.post_verdict.ensures ∙ c.in-Ok.is) in
    leb-true _ _ (post_ranges a.ecb a.code (good_of _ g.0)).0

pub returns-in-Ok : goal.returns-in-Ok
unfolding post_done signals_of
returns-in-Ok c = grind (arith, bodies)
