-- The struct is written out as the definition has it.
use mathlib.Core.Path.{refl}
use Rattle.lists.specs.Tables.{padded}
use Rattle.namearea.specs.Spelling.{spelling}
use Rattle.namearea.proofs.area.NameArea.empty.Goals as goal

pub returns : goal.returns
unfolding padded spelling
returns c = refl
