-- The walk that ends the subtasks of a task, step by step.
use mathlib.Core.Path.{◌≡◌, refl, sym, ap, subst, ◌∙◌}
use mathlib.Core.Bool.{Bool, true, false, not, ◌&&◌}
use mathlib.Core.List.{List}
use Prim.Native.Nat.{ℕ, ◌+◌, ◌≤◌, ◌<◌}
use native.Mathlib.Omega.{arith}
use lib.Dec.{eqb, ltb}
use lib.ListN.{length, get_or}
use borrow.Author.Tests.{eqb-true, eq-eqb, ltb-true, lt-ltb}
use Rattle.lists.specs.Bools.{and_left, and_right, join, never, not_so, same_test}
use Rattle.kinds.specs.Limits.{highest_task}
use Rattle.kinds.specs.Tasks.{no_task, is_free}
use Rattle.kinds.specs.declared.tasks.Task.{Task}
use Rattle.rules.specs.Family.{place, used, mother, chain, below, is_subtask_of, direct_subtask}
use Rattle.laws.specs.Places.{place_next}
use Rattle.laws.specs.Wiping.{wiped, length_wiped, kept, still, wiped_same, wiped_none, wiped_twice}
use Rattle.laws.specs.Chains.{only, used_same, used_pos, used_within}
use Rattle.laws.specs.Chains.{Chain, here, up, chain_of, chain_all, below_chain, chain_below, carry}
use Rattle.tasks.specs.Under.{under}

-- TESTS

-- a direct subtask of n whose number is above k
abbrev subtask_above : List Task → ℕ → ℕ → ℕ → Bool
subtask_above ts n k m = direct_subtask ts n m && ltb k m

-- one of those, or below one
unfoldable pub under_above : List Task → ℕ → ℕ → ℕ → Bool
under_above ts n k = chain highest_task ts (subtask_above ts n k)

module _ (ts : List Task) (n m : ℕ) where
  pub sub_mother : direct_subtask ts n m ≡ true → mother ts m ≡ n
  unfolding is_subtask_of mother
  sub_mother h =
      let x = place ts m in
      eqb-true x.mother.0 n (and_right (not (is_free x.condition)) (eqb x.mother.0 n) h)

  pub sub_make : used ts m ≡ true → mother ts m ≡ n → direct_subtask ts n m ≡ true
  unfolding is_subtask_of used mother
  sub_make u e =
      let x = place ts m in
      join (not (is_free x.condition)) (eqb x.mother.0 n) u (eq-eqb x.mother.0 n e)

  pub under_chain : under ts n m ≡ true → Chain ts (direct_subtask ts n) m
  unfolding under
  under_chain e = chain_of highest_task ts (direct_subtask ts n) m e

  pub chain_under : length ts ≡ highest_task → Chain ts (direct_subtask ts n) m → under ts n m ≡ true
  unfolding under
  chain_under l r = chain_all ts (direct_subtask ts n) m l r

  module _ (k : ℕ) where
    above_sub : subtask_above ts n k m ≡ true → direct_subtask ts n m ≡ true
    above_sub h = and_left (direct_subtask ts n m) (ltb k m) h

    above_low : subtask_above ts n k m ≡ true → k < m
    above_low h = ltb-true k m (and_right (direct_subtask ts n m) (ltb k m) h)

    above_make : direct_subtask ts n m ≡ true → k < m → subtask_above ts n k m ≡ true
    above_make s l = join (direct_subtask ts n m) (ltb k m) s (lt-ltb k m l)

    above_chain : under_above ts n k m ≡ true → Chain ts (subtask_above ts n k) m
    unfolding under_above
    above_chain e = chain_of highest_task ts (subtask_above ts n k) m e

    chain_above : length ts ≡ highest_task → Chain ts (subtask_above ts n k) m → under_above ts n k m ≡ true
    unfolding under_above
    chain_above l r = chain_all ts (subtask_above ts n k) m l r

-- a place that is the same in two tables is a direct subtask's in both
sub_same : (ts us : List Task) (n m : ℕ)
    → place us m ≡ place ts m → direct_subtask ts n m ≡ true → direct_subtask us n m ≡ true
sub_same ts us n m e h = ap (is_subtask_of n) e ∙ h

-- a chain of the same table that goes on to another test
onward : (ts : List Task) (s t : ℕ → Bool) → ((m : ℕ) → used ts m ≡ true → s m ≡ true → Chain ts t m)
    → (m : ℕ) → Chain ts s m → Chain ts t m
onward ts s t last m r = carry ts ts s t (λ a. Unit {0}) (λ a o u. refl) (λ a o u. tt) (λ a o u h. last a u h) m tt r

-- a chain of what a wipe has left is one of the table as it was
pub unwiped : (out : ℕ → Bool) (ts : List Task) (s t : ℕ → Bool)
    → ((m : ℕ) → used (wiped out ts) m ≡ true → s m ≡ true → Chain ts t m)
    → (m : ℕ) → Chain (wiped out ts) s m → Chain ts t m
unwiped out ts s t last m r =
    carry (wiped out ts) ts s t (λ a. Unit {0}) (λ a o u. still out ts a u) (λ a o u. tt) (λ a o u h. last a u h) m tt r

-- THE WALK: what is left of it from place k on

pub walk_starts : (ts : List Task) (n : ℕ)
    → length ts ≡ highest_task → wiped (under_above ts n 0) ts ≡ wiped (under ts n) ts
walk_starts ts n l =
    wiped_same (under_above ts n 0) (under ts n) ts
    (λ m. same_test (under_above ts n 0 m) (under ts n m)
    (λ e. chain_under ts n m l
    (onward ts _ _ (λ a u h. here u (above_sub ts n a 0 h)) m (above_chain ts n m 0 e)))
    (λ e. chain_above ts n m 0 l
    (onward ts _ _ (λ a u h. here u (above_make ts n a 0 h (used_pos ts a u))) m (under_chain ts n m e))))

none_above : (ts : List Task) (n k m : ℕ) → length ts ≤ k → Chain ts (subtask_above ts n k) m → ⊥
none_above ts n k m l (here u h) = omega (arith, used_within ts m u, above_low ts n m k h)
none_above ts n k m l (up u r) = none_above ts n k (mother ts m) l r

pub walk_done : (ts : List Task) (n k : ℕ) → length ts ≤ k → ts ≡ wiped (under_above ts n k) ts
walk_done ts n k l =
    wiped_none (under_above ts n k) ts
    (λ m. not_so (under_above ts n k m) (λ e. none_above ts n k m l (above_chain ts n m k e)))

-- the next place is no subtask's
pub walk_on : (ts : List Task) (n k : ℕ) → length ts ≡ highest_task → is_subtask_of n (get_or ts k no_task) ≡ false
    → wiped (under_above ts n (k + 1)) ts ≡ wiped (under_above ts n k) ts
walk_on ts n k l other =
    wiped_same (under_above ts n (k + 1)) (under_above ts n k) ts
    (λ m. same_test (under_above ts n (k + 1) m) (under_above ts n k m)
    (λ e. chain_above ts n m k l
    (onward ts (subtask_above ts n (k + 1)) (subtask_above ts n k)
    (λ a u h. here u (above_make ts n a k (above_sub ts n a (k + 1) h) (omega (arith, above_low ts n a (k + 1) h))))
    m (above_chain ts n m (k + 1) e)))
    (λ e. chain_above ts n m (k + 1) l
    (onward ts (subtask_above ts n k) (subtask_above ts n (k + 1))
    (λ a u h.
    let s = above_sub ts n a k h in
    here u (above_make ts n a (k + 1) s (omega (arith, above_low ts n a k h, elsewhere a s))))
    m (above_chain ts n m k e))))
  where
    elsewhere : (a : ℕ) → direct_subtask ts n a ≡ true → 1 + k ≡ a → ⊥
    elsewhere a s i =
        never (is_subtask_of n (get_or ts k no_task))
        (ap (is_subtask_of n) (sym (place_next ts k)) ∙ subst (λ (j : ℕ). direct_subtask ts n j ≡ true) (sym i) s) other

-- the next place is a subtask's: it ends with all below it
module _ (ts : List Task) (n c k : ℕ) (l : length ts ≡ highest_task) (next : c ≡ k + 1)
    (s : direct_subtask ts n c ≡ true) where
  abbrev rest : List Task
  rest = wiped (below ts c) ts

  rest_long : length rest ≡ highest_task
  rest_long = length_wiped (below ts c) ts ∙ l

  -- whoever ends is under n
  in_first : (m : ℕ) → below ts c m ≡ true → under_above ts n k m ≡ true
  in_first m h =
      chain_above ts n m k l
      (onward ts (only c) (subtask_above ts n k)
      (λ a u e. let i = eqb-true a c e in here u (above_make ts n a k (rw i s) (omega (arith, i))))
      m (below_chain ts c m h))

  -- and who is under n after that was so before
  in_back : (m : ℕ) → under_above rest n c m ≡ true → under_above ts n k m ≡ true
  in_back m e =
      chain_above ts n m k l
      (unwiped (below ts c) ts (subtask_above rest n c) (subtask_above ts n k)
      (λ a u h.
      let j = still (below ts c) ts a u in
      here (used_same ts rest a j ∙ u)
      (above_make ts n a k (sub_same rest ts n a j (above_sub rest n a c h)) (omega (arith, above_low rest n a c h))))
      m (above_chain rest n m c e))

  -- a task that does not end has a mother that does not end
  stays : (a : ℕ) → below ts c a ≡ false → used ts a ≡ true → below ts c (mother ts a) ≡ false
  stays a o u =
      not_so (below ts c (mother ts a))
      (λ x. never (below ts c a) (chain_below ts c a l (up u (below_chain ts c (mother ts a) x))) o)

  in_on : (m : ℕ) → below ts c m ≡ false → under_above ts n k m ≡ true → under_above rest n c m ≡ true
  in_on m o e =
      chain_above rest n m c rest_long
      (carry ts rest (subtask_above ts n k) (subtask_above rest n c) (λ a. below ts c a ≡ false)
      (λ a f u. kept (below ts c) ts a f)
      stays
      (λ a f u h.
      let j = kept (below ts c) ts a f in
      let d : a ≡ c → ⊥ = λ i. never (below ts c a) (chain_below ts c a l (here u (eq-eqb a c i))) f in
      here (used_same rest ts a j ∙ u)
      (above_make rest n a c (sub_same ts rest n a j (above_sub ts n a k h)) (omega (arith, d, above_low ts n a k h))))
      m o (above_chain ts n m k e))

  walk_in : wiped (under_above rest n c) rest ≡ wiped (under_above ts n k) ts
  walk_in =
      wiped_twice (below ts c) (under_above rest n c) (under_above ts n k) ts in_first
      (λ m o. same_test (under_above rest n c m) (under_above ts n k m) (in_back m) (in_on m o))

-- the same for what the code reads and writes: place k is task k + 1's
pub step_in : (ts us : List Task) (n k : ℕ)
    → length ts ≡ highest_task → is_subtask_of n (get_or ts k no_task) ≡ true → us ≡ wiped (below ts (k + 1)) ts
    → wiped (under_above us n (k + 1)) us ≡ wiped (under_above ts n k) ts
step_in ts us n k l h e =
    let i : 1 + k ≡ k + 1 = omega arith in
    let s : direct_subtask ts n (k + 1) ≡ true = rw (← i, place_next) h in
    rw e (walk_in ts n (k + 1) k l refl s)
