-- The slots of what stays, and zero slots behind them.
use Rattle.std.proofs.Common.{List, ap, ap₂, take, ◌∙◌, ℕ, rules}
use Rattle.kinds.specs.Limits.{most_entries}
use Rattle.kinds.specs.declared.names.Slot.{Slot}
use Rattle.rules.specs.Ending.{entry_stays}
use Rattle.queue.specs.Queues.{entry_of, zero_slot}
use Rattle.queue.specs.declared.Queue.{Queue}
use Rattle.queue.proofs.Views.{swept_rows}
use Rattle.between.proofs.Stays.{all_stored}
use Rattle.between.proofs.entries_ending.entries_left.Goals as goal

pub returns : goal.returns
returns c =
    let q = c.args.q in
    let f = entry_stays c.args.f.places in
    let v = c.staying.ensures (λ (s : Slot). f (entry_of s)) (λ x b k. search rules) in
    ap₂ (λ (l : List Slot) (n : ℕ). record { slots = l; count = n })
    (all_stored most_entries zero_slot _ (take q.count q.slots) _ _ _ (ap (λ (r : Queue). r.slots) c.empty-r.ensures) v)
    v.many
    ∙ swept_rows f q
