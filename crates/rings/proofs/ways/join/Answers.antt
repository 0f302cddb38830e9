use Rattle.std.proofs.Common.{ℕ, ◌/◌, ◌%◌, false, sym, ◌∙◌, arith, rules}
use Rattle.rings.specs.Ways.{wide, all_ways, joined_by, joined_none, ways_are}
use Rattle.rings.proofs.Rounds.{made_by}
use Rattle.rings.proofs.ways.join.Goals as goal

pub returns-then-not-leads_on : goal.returns-then-not-leads_on
returns-then-not-leads_on c = joined_none _ _ (search rules) (sym c.leads_on.ensures ∙ c.if-not-leads_on.true)

pub returns : goal.returns
returns c =
    let m = c.args.m.now in
    let k = c.args.k in
    let r = c.from_fn-m.ensures.items in
    ways_are (joined_by m k) all_ways (record { of = c.from_fn-m.result }) (omega arith)
    (record {
      long = r.long;
      each = λ n h.
          made_by _ (λ (i : ℕ). joined_by m k (i / wide) (i % wide)) false c.from_fn-m.result all_ways 0 _
          (λ x y q d. search rules) r.each n (omega arith) (omega arith);
    })
