-- What is stored so far is what stays of the areas looked at.
use Rattle.std.proofs.Common.{not, Bool, length, ◌≤◌}
use Rattle.lists.specs.Packed.{Swept}
use Rattle.kinds.specs.Limits.{most_areas}
use Rattle.kinds.specs.declared.areas.Area.{Area}
use Rattle.rules.specs.Storage.{same_area}
use Rattle.storage.specs.Kept.{table}
use Rattle.storage.proofs.without.Given as goal

-- what stays
abbrev pub stays : Area → Area → Bool
stays a b = not (same_area a b)

abbrev pub invariant-loop-x : goal.invariant-loop-x
invariant-loop-x l = (length l.x-items ≤ most_areas) × Swept table (stays l.a) l.x-items l.x-index l.r
