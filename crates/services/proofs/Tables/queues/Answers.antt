-- A shut gate refuses; behind an open one each entry is of a task, and what `rings` lists is what the rules list.
use mathlib.Core.Path.{◌≡◌}
use Rattle.std.specs.Prelude.{Ok}
use Rattle.rules.specs.Reports.{queues_list}
use Rattle.laws.specs.RenamedReports.{queues_list_same}
use Rattle.services.proofs.Reporting.{report_room, report_shut, report_open}
use borrow.Author.Rules.{rules}
use Rattle.services.proofs.Tables.queues.Goals as goal

pub queues-requires : goal.queues-requires
queues-requires c =
    let e = c.gate.ensures in
    let o : c.gate.result ≡ (Ok tt) = search rules in
    report_room c.args.self _ e o

pub returns-in-Err : goal.returns-in-Err
returns-in-Err c =
    report_shut c.args.self
    c.args.list.now
    queues_list queues_list_same _ _ c.gate.ensures
    c.in-Err.is _
    c.answering.ensures

pub returns-in-Ok : goal.returns-in-Ok
returns-in-Ok c =
    let k = c.queues in
    report_open c.args.self c.args.list.now queues_list queues_list_same _
    c.gate.ensures (search rules) _ _ _
    c.answering-in-Ok.ensures k.ensures.value k.ensures.area_after
