-- The one path, at the request that names the service.
use Rattle.rules.specs.Serve.{service_of}
use Rattle.services.specs.Serve.{served_of}
use Rattle.services.proofs.Tables.deq.Goals as goal

pub returns : goal.returns
unfolding served_of service_of
returns c = c.serve.ensures
