-- WRONG ANSWERS, ruled out by a contract. T says whether the arguments fit the types of the parameters; Q is what the
-- contract asks, of the lifetimes and the arguments; P what it promises, of these, the result and what the parameters
-- are at the end: `Pre` and `Post` that the prover makes of a function's clauses.
use Rattle.std.specs.Prelude.{◌≡◌, Bool, true, false}
use Rattle.std.proofs.Common.{sym, ap, ◌∙◌}
use Rattle.lists.specs.Bools.{never}

-- two results that a test tells apart are not one
pub told_apart : {R : Type 0} {x y : R} → x ≡ y → (test : R → Bool) → test x ≡ true → test y ≡ false → ⊥
told_apart {R} {x} {y} e test h k = never (test x) h (ap test e ∙ k)

-- ANSWERS. Something is given, as the types and the contract ask, for which f breaks what it promises, whatever the
-- parameters are at the end.
pub record RuledOut {K : Type 0} {A R E : K → Type 0} (T : (k : K) → A k → Bool) (Q : (k : K) → A k → Type 0)
    (P : (k : K) → A k → R k → E k → Type 0) (f : (k : K) → A k → R k) : Type 0 where
  pub lifetimes : K
  pub given : A lifetimes
  pub fitting : T lifetimes given ≡ true
  pub asked : Q lifetimes given
  pub broken : (e : E lifetimes) → P lifetimes given (f lifetimes given) e → ⊥

-- where the promise is that what is seen of the result is d: a test is true of the answer and false of d; antt finds
-- see and d in the contract
pub wrong_at : {K : Type 0} {A R E W : K → Type 0} {T : (k : K) → A k → Bool} {Q : (k : K) → A k → Type 0}
    {f : (k : K) → A k → R k} {see : (k : K) → R k → W k} {d : (k : K) → A k → W k} (k : K) (a : A k) → T k a ≡ true
    → Q k a → (test : W k → Bool) → test (see k (f k a)) ≡ true → test (d k a) ≡ false
    → RuledOut {E = E} T Q (λ k a r e. see k r ≡ d k a) f
wrong_at k a t q test h n = record {
  lifetimes = k;
  given = a;
  fitting = t;
  asked = q;
  broken = λ e p. told_apart p test h n;
}

-- ANSWERS WITH A LENT AREA: f gives a result and what the parameters are at the end.
pub record RuledOutWith {K : Type 0} {A R E : K → Type 0} (T : (k : K) → A k → Bool) (Q : (k : K) → A k → Type 0)
    (P : (k : K) → A k → R k → E k → Type 0) (f : (k : K) → A k → R k × E k) : Type 0 where
  pub lifetimes : K
  pub given : A lifetimes
  pub fitting : T lifetimes given ≡ true
  pub asked : Q lifetimes given
  pub broken : P lifetimes given (f lifetimes given).0 (f lifetimes given).1 → ⊥

pub wrong_with : {K : Type 0} {A R E W : K → Type 0} {T : (k : K) → A k → Bool} {Q : (k : K) → A k → Type 0}
    {f : (k : K) → A k → R k × E k} {see : (k : K) → R k → E k → W k} {d : (k : K) → A k → W k} (k : K) (a : A k)
    → T k a ≡ true → Q k a → (test : W k → Bool) → test (see k (f k a).0 (f k a).1) ≡ true → test (d k a) ≡ false
    → RuledOutWith T Q (λ k a r e. see k r e ≡ d k a) f
wrong_with k a t q test h n = record {
  lifetimes = k;
  given = a;
  fitting = t;
  asked = q;
  broken = λ p. told_apart p test h n;
}

-- where the promise is of the result and of the area: a test tells the result apart, or the area
module _ {K : Type 0} {A R E S W : K → Type 0} {T : (k : K) → A k → Bool} {Q : (k : K) → A k → Type 0}
    {f : (k : K) → A k → R k × E k} {see : (k : K) → R k → S k} {d : (k : K) → A k → S k} {area : (k : K) → E k → W k}
    {w : (k : K) → A k → W k}
  where
    pub wrong_result : (k : K) (a : A k) → T k a ≡ true → Q k a → (test : S k → Bool) → test (see k (f k a).0) ≡ true
        → test (d k a) ≡ false
        → RuledOutWith T Q (λ k a r e. (see k r ≡ d k a) × (area k e ≡ w k a)) f
    wrong_result k a t q test h n = record {
      lifetimes = k;
      given = a;
      fitting = t;
      asked = q;
      broken = λ p. told_apart p.0 test h n;
    }

    pub wrong_area : (k : K) (a : A k) → T k a ≡ true → Q k a → (test : W k → Bool) → test (area k (f k a).1) ≡ true
        → test (w k a) ≡ false
        → RuledOutWith T Q (λ k a r e. (see k r ≡ d k a) × (area k e ≡ w k a)) f
    wrong_area k a t q test h n = record {
      lifetimes = k;
      given = a;
      fitting = t;
      asked = q;
      broken = λ p. told_apart p.1 test h n;
    }

-- DEAF ANSWERS. Two things are given, as the types and the contract ask, that no one result fits: whoever does not look
-- at what they differ in is ruled out, whatever it answers.
pub record Heeds {K : Type 0} {A R E : K → Type 0} (T : (k : K) → A k → Bool) (Q : (k : K) → A k → Type 0)
    (P : (k : K) → A k → R k → E k → Type 0) : Type 0 where
  pub lifetimes : K
  pub one : A lifetimes
  pub other : A lifetimes
  pub one_fitting : T lifetimes one ≡ true
  pub other_fitting : T lifetimes other ≡ true
  pub one_asked : Q lifetimes one
  pub other_asked : Q lifetimes other
  pub not_both : (r : R lifetimes) (e d : E lifetimes) → P lifetimes one r e → P lifetimes other r d → ⊥

pub heeds : {K : Type 0} {A R E W : K → Type 0} {T : (k : K) → A k → Bool} {Q : (k : K) → A k → Type 0}
    {see : (k : K) → R k → W k} {d : (k : K) → A k → W k} (k : K) (a b : A k) → T k a ≡ true → T k b ≡ true → Q k a
    → Q k b → (test : W k → Bool) → test (d k a) ≡ true → test (d k b) ≡ false
    → Heeds {E = E} T Q (λ k a r e. see k r ≡ d k a)
heeds k a b t u q s test h n = record {
  lifetimes = k;
  one = a;
  other = b;
  one_fitting = t;
  other_fitting = u;
  one_asked = q;
  other_asked = s;
  not_both = λ r e d p o. told_apart (sym p ∙ o) test h n;
}
