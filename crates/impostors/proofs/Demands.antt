-- WHAT DEMANDS 1 AND 2 RULE OUT by themselves: answers on a fresh step, each wrong in one thing, of which they cannot
-- be
-- true. (Demand 3's are in `history`.)
use Prim.Native.Nat.{ℕ}
use mathlib.Core.Path.{◌≡◌, refl, sym, ap, ◌∙◌}
use mathlib.Core.Bool.{false, true, true≢false}
use mathlib.Core.List.{[], ◌∷◌}
use mathlib.Core.Logic.{◌⊎◌, inl, inr}
use native.Mathlib.Omega.{arith}
use lib.ListN.{length}
use Rattle.kinds.specs.Replies.{value_of}
use Rattle.kinds.specs.Replies.Besides.{TheAddress, TheNumber}
use Rattle.kinds.specs.declared.replies.Refusal.TheVariants.{OutOfRange, NotLive, ShortArea, SystemName}
use Rattle.kinds.specs.declared.replies.Fault.TheVariants.{DeqWithoutEntry}
use Rattle.std.specs.Prelude.{Err}
use Rattle.kinds.specs.declared.replies.No.TheVariants.{Refuse}
use Rattle.kinds.specs.declared.requests.Ret.TheVariants.{None as Ret-None, Test as Ret-Test}
use Rattle.kinds.specs.declared.requests.DeqRet.TheVariants.{None}
use Rattle.rules.specs.Opened.{rules_open}
use Rattle.rules.specs.Tests.{first_of}
use Rattle.rules.specs.Steps.{Step, Served, refused, failed, done, done_with, four, untouched, over_step}
use Rattle.rules.specs.Fresh.{fresh_step}
use Rattle.rules.specs.Getmain.{sound_request, wanted}
use Rattle.rules.specs.Sound.{sound_step}
use Rattle.rules.specs.Serve.{Asked, tests_of}
use Rattle.rules.specs.Table.{exc, clear, end, enq, deq, getmain, getmain_if, dispatch}
use Rattle.rules.specs.SystemCases.{sysdsn}
use Rattle.rules.specs.DemandOne.{Demand1, abended_from}
use Rattle.rules.specs.DemandTwo.{Room, Demand2}
use Rattle.laws.specs.Decided.{decided, decides}
use Rattle.history.specs.Samples.{x}
use Rattle.impostors.specs.Samples.{task}

abbrev start : Step
start = fresh_step 200 150

abbrev One : Asked → Served Step → Type 0
One a r = Demand1 Step (tests_of start a) start (abended_from start) a r

abbrev Two : Asked → Served Step → Type 0
Two a r = Demand2 Step (sound_step start) start (λ t. t) a r

-- DEMAND 1

-- a DISPATCH that nothing speaks against is refused
pub one_refuses_without_a_test : One dispatch (untouched [] (refused OutOfRange start)) → ⊥
unfolding rules_open
one_refuses_without_a_test d = neither (d.goes (refl, (refl, (refl, (refl, tt)))))
  where
    neither : (◌≡◌ {A = ℕ} 101 0) ⊎ (◌≡◌ {A = ℕ} 101 4) → ⊥
    neither (inl e) = omega arith
    neither (inr e) = omega arith

-- 101 before 102: task 2 is not live, and there is no ECB 64
pub one_101_before_102 : One (clear 2 64) (untouched [] (refused OutOfRange start)) → ⊥
unfolding rules_open
one_101_before_102 d =
    let f : first_of (tests_of start (clear 2 64)) ≡ Err (Refuse OutOfRange) = decided _ (Refuse OutOfRange)
    (d.when (Refuse OutOfRange) refl) in
    let g : Err (Refuse NotLive) ≡ Err (Refuse OutOfRange) = f in
    let z : ◌≡◌ {A = ℕ} 0 1 = cc in
    omega arith

-- 104 before 110: TEST for a system name, with no codes area
pub one_104_before_110 : One (enq 1 Ret-Test 0 (exc sysdsn ∷ [])) (untouched [] (refused ShortArea start)) → ⊥
unfolding rules_open
one_104_before_110 d =
    let f : first_of (tests_of start (enq 1 Ret-Test 0 (exc sysdsn ∷ []))) ≡ Err (Refuse ShortArea) =
    decided _ (Refuse ShortArea) (d.when (Refuse ShortArea) refl) in
    let g : Err (Refuse SystemName) ≡ Err (Refuse ShortArea) = f in
    let z : ◌≡◌ {A = ℕ} 0 1 = cc in
    omega arith

-- always 0: task 2 is not live, and its END is done
pub one_always_0 : One (end 2 0) (untouched [] (done start)) → ⊥
unfolding rules_open
one_always_0 d =
    let e : ◌≡◌ {A = ℕ} 0 102 = d.given (Refuse NotLive) (decides (tests_of start (end 2 0)) (Refuse NotLive) refl) in
    omega arith

-- a refusal that ends the step
pub one_refusal_changes : One (end 2 0) (untouched [] (refused NotLive (over_step 0))) → ⊥
unfolding rules_open
one_refusal_changes d = true≢false (ap (λ (r : Served Step). r.outcome.tables.over) (d.unchanged NotLive refl))

-- a program error that leaves its caller as it was
pub one_error_ends_nobody : One (deq 1 None 0 (x ∷ [])) (untouched [] (failed DeqWithoutEntry start)) → ⊥
unfolding rules_open
one_error_ends_nobody d =
    let k = d.ends DeqWithoutEntry refl in
    true≢false
    (sym (ap (λ (r : Served Step). r.outcome.tables.over) k.leaves
    ∙ ap (λ (n : ℕ). (abended_from start (record { 0 = n }) 202).over) k.called))

-- DEMAND 2

-- address 0 is permitted for 100 bytes of subpool 10
zero_has_room : Room [] (wanted 100 10 1) 0
unfolding rules_open
zero_has_room = record { aligned = refl; permits = refl }

-- a higher address than the lowest
pub two_higher_address : Two (getmain 1 100 10) (untouched [] (done_with (TheAddress (record { 0 = 8 })) start)) → ⊥
unfolding rules_open sound_request
two_higher_address d =
    let g = (d.storage (task 1) 100 10 false refl refl (omega arith)).lowest_given 0 zero_has_room in
    let e : ◌≡◌ {A = ℕ} 8 g.address.0 = ap value_of g.besides in
    g.below 0 (omega arith) zero_has_room

-- 4 while there is room
pub two_no_room_found : Two (getmain_if 1 100 10) (untouched [] (four start)) → ⊥
unfolding rules_open sound_request
two_no_room_found d =
    (d.storage (task 1) 100 10 true refl refl (omega arith)).only (λ e. omega (arith, e)) 0 zero_has_room

-- the tables copied back: task 1 asks for x, and nothing is queued
pub two_tables_copied_back : Two (enq 1 Ret-None 0 (exc x ∷ [])) (untouched [] (done start)) → ⊥
unfolding rules_open
two_tables_copied_back d =
    let e : ◌≡◌ {A = ℕ} 0 1 = ap (λ (r : Served Step). length r.outcome.tables.queue) (d.answers refl) in
    omega arith

-- DISPATCH of a task that is not there
pub two_other_than_ruled : Two dispatch (untouched [] (done_with (TheNumber (task 2)) start)) → ⊥
unfolding rules_open
two_other_than_ruled d =
    let e : ◌≡◌ {A = ℕ} 2 1 = ap (λ (r : Served Step). value_of r.outcome.besides) (d.answers refl) in
    omega arith
