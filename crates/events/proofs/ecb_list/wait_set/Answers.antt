use Rattle.std.proofs.Common.{◌≡◌, rules, arith, ℕ, List, sym, ap, ◌∙◌, map, take, take_all, length}
use Rattle.lists.specs.Arrays.{mapped_length}
use Rattle.lists.specs.Keeping.{take_map}
use Rattle.lists.specs.Lists.{map_at}
use Rattle.kinds.specs.Limits.{all_ecbs}
use Rattle.rules.specs.Wait.{wait_set}
use Rattle.ecbs.specs.Blocks.{ecb_table_of}
use Rattle.ecbs.specs.declared.EcbTable.{EcbTable}
use Rattle.events.proofs.Listing.{number, next_shown}
use Rattle.events.proofs.Waiting.{those, none_waited, waited_here, waited_past}
use Rattle.events.proofs.ecb_list.wait_set.Goals.{then-k-lt-PLACES, else-k-lt-PLACES}
use Rattle.events.proofs.ecb_list.wait_set.Goals as goal

pub loop-m-init : goal.loop-m-init
loop-m-init c = none_waited c.args.c.0 c.args.l.count 0 c.args.e.ecbs

pub loop-m-preserved : goal.loop-m-preserved
loop-m-preserved c =
    let es = c.args.e.ecbs in
    let n = c.args.l.count in
    let ms = c.listed-m-items.result.now in
    let i = c.loop-m.m-index in
    let long : length es ≡ all_ecbs = search (rules, mapped_length) in
    let v = c.loop-m.invariant in
    let same =
    ap (λ (k : List ℕ). map_at (wait_set c.args.c.0 (those n k)) 0 es) (next_shown ms i _ c.loop-m-test.true) in
    elim c.if-k-lt-PLACES.branch [
      | then-k-lt-PLACES w ↦
          ap (λ (r : EcbTable). r.ecbs) w.r-is
          ∙ waited_here c.args.c.0 n (map number (take i ms)) _ es _ v long _ w.if-k-lt-PLACES.true w.waited_by.ensures
          ∙ same
      | else-k-lt-PLACES w ↦
          ap (λ (r : EcbTable). r.ecbs) w.r-is
          ∙ waited_past c.args.c.0 n (map number (take i ms)) _ es _ v long w.if-k-lt-PLACES.false
          ∙ same
    ]

pub returns : goal.returns
returns c =
    let l = c.args.l in
    let ms = c.listed-m-items.result.now in
    ap ecb_table_of
    (c.loop-m.invariant
    ∙ ap (λ (k : List ℕ). map_at (wait_set c.args.c.0 (those l.count k)) 0 c.args.e.ecbs)
    (ap (map number) (take_all c.loop-m.m-index ms (omega arith) ∙ c.listed-m-items.ensures)
    ∙ sym (take_map number l.count l.ecbs)))
