-- The list written is that of the queues, with two bytes for each entry.
use mathlib.Core.Path.{refl, ap, ◌∙◌}
use mathlib.Core.List.{map}
use lib.ListN.{length, length-take}
use Rattle.rules.specs.Reports.{ItemList, queues_of, queue_item, queues_list}
use Rattle.laws.specs.Gathering.{gathered_long}
use Rattle.laws.specs.Standings.{queues_many}
use Rattle.queue.specs.Queues.{entry_of, entries_in}
use Rattle.rings.specs.Listings.{report_reply, report_written}
use Rattle.rings.proofs.Items.{items_count, items_of}
use native.Mathlib.Omega.{arith}
use Rattle.rings.proofs.reports.queues.Goals as goal

pub written-requires : goal.written-requires
unfolding queues_list
written-requires c =
    let q = c.args.q in
    let l = c.queues_list in
    let m = items_count queue_item (queues_of (entries_in q)) l.result l.ensures in
    let n = gathered_long queue_item 2 (λ x. refl) (queues_of (entries_in q)) in
    let k = queues_many (entries_in q) in
    omega (arith, length-take q.count (map entry_of q.slots))

pub returns : goal.returns
returns c =
    let w = c.written.ensures in
    let l = c.queues_list in
    let area = c.args.area.now in
    let e = items_of _ l.result l.ensures in
    record {
      value = w.value ∙ ap (λ (r : ItemList). report_reply r (length area)) e;
      area_after = w.area_after ∙ ap (λ (r : ItemList). report_written r area) e;
    }
