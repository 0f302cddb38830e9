-- Gates that are shut refuse.
use Rattle.services.proofs.Glue.{entry_shut}
use Rattle.services.proofs.Tables.serve.Goals as goal

pub returns-in-Err : goal.returns-in-Err
returns-in-Err c =
    entry_shut c.args.self
    c.args.request _ _ _ _
    _ _ c.entry.ensures c.in-Err.is
    c.answering.ensures
