use Rattle.std.proofs.Common.{ℕ, false, arith, rules}
use Rattle.queue.specs.Queues.{entries_in}
use Rattle.rings.specs.Ways.{way_at, wide}
use Rattle.rings.proofs.Rounds.{made_by, ring_marks}
use Rattle.rings.proofs.stuck.Goals as goal

pub returns : goal.returns
returns c =
    let w = c.closed-w.result in
    let r = c.from_fn.ensures.items in
    ring_marks (entries_in c.args.q.now) c.requires.q_value c.steps.result w c.steps.ensures c.closed-w.ensures
    (record { tasks = c.from_fn.result }) wide (omega arith)
    (record {
      long = r.long;
      each = λ t h.
          made_by _ (λ (k : ℕ). way_at w k k) false c.from_fn.result wide 0 _ (λ x y q k. search rules) r.each t
          (omega arith) (omega arith);
    })
