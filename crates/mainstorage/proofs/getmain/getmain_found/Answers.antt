-- Each return is decided by the tests made so far, and so is the place.
use Rattle.std.proofs.Common.{arith}
use Rattle.rules.specs.Getmain.{getmain_verdict}
use Rattle.laws.specs.Decided.{judged}
use Rattle.mainstorage.specs.Found.{place_for}
use Rattle.mainstorage.proofs.getmain.getmain_found.Goals as goal

pub returns-then-not-getmain_good : goal.returns-then-not-getmain_good
unfolding getmain_verdict place_for
returns-then-not-getmain_good c = grind (arith, judged)

pub returns-then-is_full : goal.returns-then-is_full
unfolding getmain_verdict place_for
returns-then-is_full c = grind (arith, judged)

pub returns-then-is_none : goal.returns-then-is_none
unfolding getmain_verdict place_for
returns-then-is_none c = grind (arith, judged)

pub returns-else-not-conditional : goal.returns-else-not-conditional
unfolding getmain_verdict place_for
returns-else-not-conditional c = grind (arith, judged)
