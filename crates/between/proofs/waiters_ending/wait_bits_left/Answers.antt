use Prim.Native.Nat.{ℕ}
use mathlib.Core.Path.{◌≡◌, ap, ◌∙◌}
use native.Mathlib.Omega.{arith}
use borrow.Author.Rules.{rules}
use lib.ListN.{length}
use Rattle.lists.specs.Numbered.{map_at_plain, up_to_next, up_to_end}
use Rattle.lists.specs.Arrays.{mapped_length}
use Rattle.kinds.specs.Limits.{all_ecbs}
use Rattle.kinds.specs.Ecbs.{no_ecb}
use Rattle.rules.specs.Ending.{waiter_stays}
use Rattle.ecbs.specs.Blocks.{ecb_table_of}
use Rattle.between.proofs.waiters_ending.wait_bits_left.Goals as goal

pub loop-x-preserved : goal.loop-x-preserved
loop-x-preserved c =
    let l = c.loop-x in
    let long : length c.args.e.ecbs ≡ all_ecbs = search (rules, mapped_length) in
    let e = rw l.invariant at c.waiter_stays.ensures in
    rw l.invariant (up_to_next _ 0 l.x-index l.x-index _ no_ecb _ (omega arith) (omega arith) e)

pub returns : goal.returns
returns c =
    let l = c.loop-x in
    let f = waiter_stays c.args.f.places in
    let long : length c.args.e.ecbs ≡ all_ecbs = search (rules, mapped_length) in
    ap ecb_table_of
    (l.invariant ∙ up_to_end (λ (k : ℕ). f) 0 l.x-index _ (omega arith) ∙ map_at_plain f 0 c.args.e.ecbs)
