-- Task tables in which nobody is new, and everybody has the mother that he had.
use mathlib.Core.Path.{◌≡◌, refl, sym, ap, subst, ◌∙◌}
use mathlib.Core.Bool.{Bool, true, false, not}
use mathlib.Core.List.{List}
use Prim.Native.Nat.{ℕ, ◌≤◌, ◌<◌, ◌-◌}
use native.Mathlib.Omega.{arith}
use lib.Dec.{eqb, leb}
use lib.ListN.{length, set}
use lib.Seq.{set_out}
use borrow.Author.Tests.{eqb-true, eqb-false, leb-true, leb-false, not-true}
use Rattle.lists.specs.Pick.{pick}
use Rattle.lists.specs.Bools.{never}
use Rattle.kinds.specs.Tasks.{is_free, with_condition}
use Rattle.kinds.specs.declared.tasks.Task.{Task}
use Rattle.kinds.specs.declared.tasks.Condition.{Condition}
use Rattle.kinds.specs.declared.tasks.Condition.TheVariants.{Free, Ready, ResourceWait, EcbWait, Ended}
use Rattle.kinds.specs.declared.ecbs.Ecb.{Ecb}
use Rattle.rules.specs.Family.{place, with_place, condition_of, used, mother, below}
use Rattle.rules.specs.Events.{ecb_at, completed, one_post_fewer, comes_to, woken, signalled}
use Rattle.rules.specs.Ending.{end_tasks}
use Rattle.laws.specs.Wiping.{free_unused}
use Rattle.laws.specs.Chains.{used_same, mother_same}
use Rattle.laws.specs.Kindred.{Kindred}
use Rattle.laws.specs.Ended.{below_used, stays, goes_last, goes_free}
use Rattle.laws.specs.Conditions.{by_place}

-- whoever is in use was so before, and has the mother that he had
abbrev pub Heirs : List Task → List Task → Type 0
Heirs ts us = (n : ℕ) → used us n ≡ true → (used ts n ≡ true) × (mother us n ≡ mother ts n)

pub same_heirs : (ts : List Task) → Heirs ts ts
same_heirs ts n u = (u, refl)

pub later_heirs : (ts us vs : List Task) → Heirs ts us → Heirs us vs → Heirs ts vs
later_heirs ts us vs f g n u =
    let b = g n u in
    let a = f n b.0 in
    (a.0, b.1 ∙ a.1)

pub kindred_heirs : (ts us : List Task) → Kindred ts us → Heirs ts us
kindred_heirs ts us k n u = (sym (k.in_use n) ∙ u, k.mothers n)

-- A TASK COMES TO ANOTHER CONDITION

pub moved_heirs : (ts : List Task) (w : ℕ) (k : Condition) → 0 < w → w ≤ length ts
    → is_free k ≡ is_free (condition_of ts w) → Heirs ts (with_place ts w (with_condition (place ts w) k))
unfolding used mother
moved_heirs ts w k low high e n u =
    by_place ts w _ low high
    (λ (x z : Task). not (is_free z.condition) ≡ true
    → (not (is_free x.condition) ≡ true) × (z.mother.0 ≡ x.mother.0)) (λ v. (ap not (sym e) ∙ v, refl))
    (λ x v. (v, refl)) n u

-- A POST

fewer_free : (k : Condition) → is_free (one_post_fewer k) ≡ is_free k
unfolding one_post_fewer pick
fewer_free Free = refl
fewer_free Ready = refl
fewer_free ResourceWait = refl
fewer_free (EcbWait n) = one (leb n 1)
  where
    one : (b : Bool) → is_free (pick b Ready (EcbWait (n - 1))) ≡ false
    one true = refl
    one false = refl
fewer_free Ended = refl

-- a number that is no place's changes nothing
woken_heirs : (ts : List Task) (w : ℕ) → (w ≡ 0 → ⊥)
    → Heirs ts (with_place ts w (with_condition (place ts w) (one_post_fewer (condition_of ts w))))
woken_heirs ts w d = one (leb w (length ts)) refl
  where
    one : (b : Bool) → leb w (length ts) ≡ b
        → Heirs ts (with_place ts w (with_condition (place ts w) (one_post_fewer (condition_of ts w))))
    one true e = moved_heirs ts w _ (omega arith) (leb-true w (length ts) e) (fewer_free (condition_of ts w))
    one false e =
        let k = leb-false w (length ts) e in
        subst (Heirs ts)
        (sym (set_out ts (w - 1) (with_condition (place ts w) (one_post_fewer (condition_of ts w))) (omega arith)))
        (same_heirs ts)

pub posted_heirs : (ts : List Task) (es : List Ecb) (e code : ℕ) → Heirs ts (signalled ts es e code).tasks
unfolding signalled woken pick
posted_heirs ts es e code = complete (ecb_at es e).complete (eqb w 0) refl
  where
    w : ℕ
    w = (ecb_at es e).waiter.0

    ds : List Ecb
    ds = set es e (completed code)

    complete : (a b : Bool) → eqb w 0 ≡ b
        → Heirs ts (pick a (record { tasks = ts; ecbs = es })
        (pick b (record { tasks = ts; ecbs = ds }) (comes_to ts ds w (one_post_fewer (condition_of ts w))))).tasks
    complete true b h = same_heirs ts
    complete false true h = same_heirs ts
    complete false false h = woken_heirs ts w (eqb-false w 0 h)

-- TASK c ENDS, with all below it: its place is free, or is kept with its mother
pub ended_heirs : (ts : List Task) (c : ℕ) (last : Task)
    → (is_free last.condition ≡ false → last.mother ≡ (place ts c).mother) → Heirs ts (end_tasks ts c last)
unfolding used mother
ended_heirs ts c last kin n u = one (below ts c n) (eqb n c) refl refl
  where
    us : List Task
    us = end_tasks ts c last

    kept : below ts c c ≡ true → used us c ≡ true → mother us c ≡ mother ts c
    kept b v =
        let e = goes_last ts c last b in
        ap (λ (x : Task). x.mother.0) e
        ∙ ap (λ m. m.0)
        (kin (not-true (is_free last.condition) (ap (λ (x : Task). not (is_free x.condition)) (sym e) ∙ v)))

    one : (b e : Bool) → below ts c n ≡ b → eqb n c ≡ e → (used ts n ≡ true) × (mother us n ≡ mother ts n)
    one false e b q = let k = stays ts c last n b in (used_same ts us n (sym k) ∙ u, mother_same us ts n k)
    one true false b q = never _ u (free_unused us n (goes_free ts c last n b (eqb-false n c q)))
    one true true b q =
        let i = eqb-true n c q in
        let k = kept (subst (λ (j : ℕ). below ts c j ≡ true) i b) (subst (λ (j : ℕ). used us j ≡ true) i u) in
        (below_used ts c n b, subst (λ (j : ℕ). mother us j ≡ mother ts j) (sym i) k)
