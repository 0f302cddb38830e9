-- No name is twice there just where none of those left is (invariant); names left to look at fall (measure).
use mathlib.Core.Path.{◌≡◌}
use lib.ListN.{length}
use Rattle.lists.specs.Lists.{distinct}
use Rattle.names.specs.Named.{same_wanted}
use Rattle.names.proofs.list.all_once.Given as goal

abbrev pub invariant-loop-v : goal.invariant-loop-v
invariant-loop-v l = distinct same_wanted l.asked ≡ distinct same_wanted l.left

abbrev pub decreases-loop-v : goal.decreases-loop-v
decreases-loop-v l = length l.left
