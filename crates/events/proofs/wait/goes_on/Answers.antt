-- A count that goes on is at most 16, so it fits, and the caller has a place.
use Rattle.std.proofs.Common.{arith}
use Rattle.rules.specs.Wait.{wait_done}
use Rattle.tables.proofs.Admits.{admitted_packed, caller_place, packed_tables}
use Rattle.tables.proofs.Bodies.{bodies}
use Rattle.events.proofs.Counting.{wait_few}
use Rattle.events.proofs.wait.goes_on.Goals as goal

pub returns-then-count-complete : goal.returns-then-count-complete
unfolding wait_done
returns-then-count-complete c =
    grind (arith, bodies, packed_tables _ (admitted_packed c.args.t c.args.caller c.requires.0))

pub overflow_cast-posts : goal.overflow_cast-posts
overflow_cast-posts c = omega (arith, wait_few c.args.t.ecbs.ecbs c.args.ecbs c.args.count c.requires.1)

pub with_place-requires : goal.with_place-requires
with_place-requires c = caller_place c.args.t c.args.caller c.requires.0

pub returns : goal.returns
unfolding wait_done
returns c = grind (arith, bodies, admitted_packed c.args.t c.args.caller c.requires.0)
