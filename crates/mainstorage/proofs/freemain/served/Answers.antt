-- A FREEMAIN that goes on has a length in range.
use Rattle.std.proofs.Common.{sym, ◌∙◌}
use Rattle.laws.specs.KeptAreas.{freemain_goes}
use Rattle.mainstorage.proofs.freemain.served.Goals as goal

pub area_at-a-requires : goal.area_at-a-requires
area_at-a-requires c = freemain_goes _ _ _ _ _ (sym c.freemain_verdict.ensures ∙ c.in-Ok.is)
