-- The one path, at the request that names the service; DPMOD is what the machine reads of its bits.
use mir.Facts.{to_z-of_z}
use Rattle.rules.specs.Serve.{service_of}
use Rattle.services.proofs.Tables.attach.Goals as goal

pub returns : goal.returns
unfolding service_of
returns c =
    rw (to_z-of_z c.ranges.dpmod) at c.plain.ensures
