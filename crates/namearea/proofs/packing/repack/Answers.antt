use Rattle.std.proofs.Common.{refl}
use Rattle.namearea.specs.Packing.{laid_none}
use Rattle.namearea.proofs.packing.repack.Goals as goal

pub loop-i-init : goal.loop-i-init
loop-i-init c = (laid_none c.requires.2 c.requires.3, refl, refl)
