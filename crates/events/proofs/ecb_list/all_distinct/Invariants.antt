-- No number stands twice exactly if none does among those left to look at, which get fewer.
use Rattle.std.proofs.Common.{◌≡◌, eqb, length, map}
use Rattle.lists.specs.Lists.{distinct}
use Rattle.ecbs.specs.Blocks.{ecbs_in}
use Rattle.events.proofs.Listing.{number}
use Rattle.events.proofs.ecb_list.all_distinct.Given as goal

abbrev pub invariant-loop-m : goal.invariant-loop-m
invariant-loop-m l = distinct eqb (ecbs_in l.fn.l).ecbs ≡ distinct eqb (map number l.rest)

abbrev pub decreases-loop-m : goal.decreases-loop-m
decreases-loop-m l = length l.rest
