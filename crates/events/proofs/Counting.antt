-- A WAIT that goes on.
use mathlib.Core.Path.{◌≡◌}
use mathlib.Core.List.{List, map}
use Prim.Native.Nat.{ℕ, ◌≤◌}
use native.Mathlib.Omega.{arith}
use lib.ListN.{length, length-take}
use borrow.Author.Tests.{ltb-false}
use Rattle.lists.specs.Pick.{chain_and}
use Rattle.kinds.specs.Limits.{longest_list}
use Rattle.kinds.specs.Ranges.{count_good}
use Rattle.kinds.specs.declared.ecbs.Ecb.{Ecb}
use Rattle.kinds.specs.declared.ecbs.EcbList.{EcbList}
use Rattle.kinds.specs.declared.numbers.EcbNumber.{EcbNumber}
use Rattle.std.specs.Prelude.{Ok}
use Rattle.rules.specs.Events.{ecbs_good}
use Rattle.rules.specs.Wait.{wait_tests, wait_verdict}
use Rattle.laws.specs.Decided.{none_hold, good_of}
use Rattle.names.proofs.Listed.{count_few}
use Rattle.ecbs.specs.Blocks.{ecbs_in}

-- the count is at most that of the list, which is at most 16
pub wait_few : (es : List Ecb) (l : EcbList) (n : ℕ) → wait_verdict es (ecbs_in l) n ≡ Ok tt → n ≤ longest_list
unfolding wait_verdict ecbs_good
wait_few es l n h =
    let g = none_hold (wait_tests es (ecbs_in l) n) h in
    let a = count_few l.count (chain_and (count_good l.count) _ (good_of (ecbs_good (ecbs_in l)) g.0)).0 in
    let b = ltb-false (length (ecbs_in l).ecbs) n g.1.0 in
    omega (arith, length-take l.count (map (λ (e : EcbNumber). e.0) l.ecbs))
