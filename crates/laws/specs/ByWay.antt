-- Steps that lead from a number to a number, over any test of one step: the test `leadsBy`, which computes, says
-- exactly where some do, as long as every number from which a step leads may be passed.
use Rattle.std.specs.Prelude.{◌≡◌, Bool, false, ◌&&◌, ◌||◌, ◌⊎◌, ℕ, eqb}
use Rattle.std.proofs.Common.{sym, ◌∙◌, inl, inr, eqb-true}
use Rattle.std.proofs.Math.Path.{ap}
use Rattle.std.proofs.Math.Bool.{true, or-true}
use Rattle.std.proofs.lemmas.Bool.{false≢true}
use mathlib.Core.List.{List, [], ◌∷◌}
use Rattle.lists.specs.Lists.{some}
use Rattle.lists.specs.Bools.{both, join, either, decided, same_test}
use Rattle.rules.specs.Rings.{leads_by}

-- one step or more
pub data Led (w : ℕ → ℕ → Bool) : ℕ → ℕ → Type 0 where
  step : {a b : ℕ} → w a b ≡ true → Led w a b
  then : {a b c : ℕ} → w a b ≡ true → Led w b c → Led w a c

module _ (w : ℕ → ℕ → Bool) where
  -- WHAT IT SAYS IS SO
  joined : {a b c : ℕ} → Led w a b → Led w b c → Led w a c
  joined (step e) r = then e r
  joined (then e p) r = then e (joined p r)

  pub by_led : (ks : List ℕ) (a b : ℕ) → leads_by w ks a b ≡ true → Led w a b
  unfolding leads_by
  by_led [] a b e = step e
  by_led (k ∷ ks) a b e =
      one (either (leads_by w ks a b) (leads_by w ks a k && leads_by w ks k b) e) (by_led ks a b) (by_led ks a k)
      (by_led ks k b)
    where
      one : (leads_by w ks a b ≡ true) ⊎ ((leads_by w ks a k && leads_by w ks k b) ≡ true)
          → (leads_by w ks a b ≡ true → Led w a b) → (leads_by w ks a k ≡ true → Led w a k)
          → (leads_by w ks k b ≡ true → Led w k b) → Led w a b
      one (inl h) f g d = f h
      one (inr h) f g d = let p = both (leads_by w ks a k) (leads_by w ks k b) h in joined (g p.0) (d p.1)

  -- ALL THAT IS SO IT SAYS

  -- steps that pass these only
  data Through (ks : List ℕ) : ℕ → ℕ → Type 0 where
    last : {a b : ℕ} → w a b ≡ true → Through ks a b
    more : {a b c : ℕ} → w a b ≡ true → some (eqb b) ks ≡ true → Through ks b c → Through ks a c

  -- they pass k nowhere, or can be cut at k
  split : {k : ℕ} {ks : List ℕ} {a b : ℕ} → Through (k ∷ ks) a b
      → Through ks a b ⊎ (Through ks a k × Through ks k b)
  split (last e) = inl (last e)
  split {k} {ks} (more {a = a} {b = x} {c = b} e s r) = one (decided (eqb x k)) (split r)
    where
      here : eqb x k ≡ true → Through ks a k
      here h = last (ap (w a) (sym (eqb-true x k h)) ∙ e)

      from : eqb x k ≡ true → Through ks x b → Through ks k b
      from h t = rw (eqb-true x k h) at t

      passed : eqb x k ≡ false → some (eqb x) ks ≡ true
      passed h = sym (ap (λ (b : Bool). b || some (eqb x) ks) h) ∙ s

      one : (eqb x k ≡ true) ⊎ (eqb x k ≡ false) → Through ks x b ⊎ (Through ks x k × Through ks k b)
          → Through ks a b ⊎ (Through ks a k × Through ks k b)
      one (inl h) (inl t) = inr (here h, from h t)
      one (inl h) (inr t) = inr (here h, t.1)
      one (inr h) (inl t) = inl (more e (passed h) t)
      one (inr h) (inr t) = inr (more e (passed h) t.0, t.1)

  through_by : (ks : List ℕ) (a b : ℕ) → Through ks a b → leads_by w ks a b ≡ true
  unfolding leads_by
  through_by [] a b (last e) = e
  through_by [] a b (more e s r) = absurd (false≢true s)
  through_by (k ∷ ks) a b t = one (split t) (through_by ks a b) (through_by ks a k) (through_by ks k b)
    where
      one : Through ks a b ⊎ (Through ks a k × Through ks k b)
          → (Through ks a b → leads_by w ks a b ≡ true) → (Through ks a k → leads_by w ks a k ≡ true)
          → (Through ks k b → leads_by w ks k b ≡ true)
          → (leads_by w ks a b || (leads_by w ks a k && leads_by w ks k b)) ≡ true
      one (inl u) f g d = ap (λ (x : Bool). x || (leads_by w ks a k && leads_by w ks k b)) (f u)
      one (inr u) f g d =
          ap (λ (x : Bool). leads_by w ks a b || x) (join (leads_by w ks a k) (leads_by w ks k b) (g u.0) (d u.1))
          ∙ or-true (leads_by w ks a b)

  -- where a step leads from nobody else
  module _ (ks : List ℕ) (all : (a b : ℕ) → w a b ≡ true → some (eqb a) ks ≡ true) where
    started : {a b : ℕ} → Led w a b → some (eqb a) ks ≡ true
    started (step {a = a} {b = b} e) = all a b e
    started (then {a = a} {b = b} e r) = all a b e

    led_through : {a b : ℕ} → Led w a b → Through ks a b
    led_through (step e) = last e
    led_through (then e r) = more e (started r) (led_through r)

    pub led_by : (a b : ℕ) → Led w a b → leads_by w ks a b ≡ true
    led_by a b r = through_by ks a b (led_through r)

-- so two lists that both have all give the same
pub by_same : (w : ℕ → ℕ → Bool) (ks ls : List ℕ) → ((a b : ℕ) → w a b ≡ true → some (eqb a) ks ≡ true)
    → ((a b : ℕ) → w a b ≡ true → some (eqb a) ls ≡ true)
    → (a b : ℕ) → leads_by w ks a b ≡ leads_by w ls a b
by_same w ks ls p q a b =
    same_test (leads_by w ks a b) (leads_by w ls a b) (λ e. led_by w ls q a b (by_led w ks a b e))
    (λ e. led_by w ks p a b (by_led w ls a b e))

-- whoever is on a ring takes a step to somebody who is on one
pub ring_next : (w : ℕ → ℕ → Bool) (a : ℕ) → Led w a a → (b : ℕ) × (w a b ≡ true) × Led w b b
ring_next w a (step e) = (a, e, step e)
ring_next w a (then {b = b} e r) = (b, e, joined w r (step e))
