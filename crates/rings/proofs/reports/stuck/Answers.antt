-- The marks are those of the stuck tasks, so that the list written is theirs.
use mathlib.Core.Path.{ap, ◌∙◌}
use lib.ListN.{length}
use Rattle.kinds.specs.Limits.{highest_task}
use Rattle.rules.specs.Reports.{ItemList}
use Rattle.queue.specs.Queues.{entries_in}
use Rattle.queue.specs.Marking.{mark_at}
use Rattle.rings.specs.Listings.{report_reply, report_written}
use Rattle.rings.proofs.Items.{items_of}
use Rattle.rings.proofs.Ahead.{Lines, lines_room}
use Rattle.rings.proofs.Agreeing.{marked_lines}
use native.Mathlib.Omega.{arith}
use Rattle.rings.proofs.reports.stuck.Goals as goal

pub written-requires : goal.written-requires
written-requires c =
    let m = c.stuck-on.result in
    let q = c.args.q in
    let l = c.stuck_list in
    let v : Lines (mark_at m) (entries_in q) highest_task l.result = record { so_far = l.ensures } in
    let r = lines_room v (omega arith) in
    omega arith

pub returns : goal.returns
returns c =
    let w = c.written.ensures in
    let l = c.stuck_list in
    let m = c.stuck-on in
    let area = c.args.area.now in
    let q = entries_in c.args.q in
    let e = items_of _ l.result l.ensures ∙ marked_lines q m.result c.requires.q_value m.ensures in
    record {
      value = w.value ∙ ap (λ (r : ItemList). report_reply r (length area)) e;
      area_after = w.area_after ∙ ap (λ (r : ItemList). report_written r area) e;
    }
