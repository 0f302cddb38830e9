-- Both tests are those of the definition.
use Rattle.std.proofs.Common.{arith}
use Rattle.std.proofs.lemmas.Grind.{common_steps}
use Rattle.lists.specs.Pick.{pick}
use Rattle.namearea.specs.Scanning.{fits_at}
use Rattle.namearea.proofs.scanning.fits.Goals as goal

pub returns-then-o-bytes : goal.returns-then-o-bytes
unfolding fits_at pick
returns-then-o-bytes c = grind (arith, common_steps)

pub returns-else-o-bytes : goal.returns-else-o-bytes
unfolding fits_at pick
returns-else-o-bytes c = grind (arith, common_steps)
