-- The one path, at the request that names the service.
use Rattle.rules.specs.Serve.{service_of}
use Rattle.services.proofs.Tables.abend.Goals as goal

pub returns : goal.returns
unfolding service_of
returns c = c.plain.ensures
