-- The struct is written out as the definition has it.
use mathlib.Core.Path.{refl}
use Rattle.lists.specs.Tables.{padded}
use Rattle.rings.proofs.listing.Listing.empty.Goals as goal

pub returns : goal.returns
unfolding padded
returns c = refl
