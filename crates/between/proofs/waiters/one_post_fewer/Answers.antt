-- Each arm computes; those of an ECB wait first learn how many posts it needs.
use Rattle.std.proofs.Common.{◌≡◌, ◌<◌, ℕ, refl, sym, ◌∙◌, arith}
use Rattle.lists.specs.Pick.{chosen}
use Rattle.kinds.specs.declared.tasks.Condition.{Condition}
use Rattle.kinds.specs.declared.tasks.Condition.TheVariants.{Free, Ready, ResourceWait, EcbWait, Ended}
use Rattle.rules.specs.Events.{one_post_fewer}
use Rattle.between.proofs.waiters.one_post_fewer.Goals as goal

-- nothing changes but a wait for ECBs
other : (k : Condition) → ((n : ℕ) → k ≡ EcbWait n → ⊥) → k ≡ one_post_fewer k
unfolding one_post_fewer
other Free h = refl
other Ready h = refl
other ResourceWait h = refl
other (EcbWait n) h = absurd (h n refl)
other Ended h = refl

pub returns-in-EcbWait : goal.returns-in-EcbWait
unfolding one_post_fewer
returns-in-EcbWait c = rw c.in-EcbWait.is (search chosen)

pub returns-in-EcbWait-2 : goal.returns-in-EcbWait-2
unfolding one_post_fewer
returns-in-EcbWait-2 c =
    let e : EcbWait c.in-EcbWait.n ≡ EcbWait c.in-EcbWait-2.n = sym c.in-EcbWait.is ∙ c.in-EcbWait-2.is in
    let n : c.in-EcbWait.n ≡ c.in-EcbWait-2.n = cc in
    let h : 1 < c.in-EcbWait-2.n = omega arith in
    rw c.in-EcbWait-2.is (search chosen)

pub returns-in_default : goal.returns-in_default
returns-in_default c = other _ c.in_default.not-EcbWait
