-- Some turn did, and none since: what one turn more makes of that.
use mathlib.Core.Path.{◌≡◌, refl, sym, ap, subst, ◌∙◌}
use mathlib.Core.Bool.{true≢false}
use mathlib.Core.List.{List, [], ◌∷◌, ◌++◌, append-nil, append_assoc}
use mathlib.Core.Logic.{◌⊎◌, inl, inr}
use Rattle.lists.specs.Lists.{none}
use Rattle.rules.specs.Reading.{Turn}
use Rattle.history.specs.Told.{Never, Since}

-- the last of a list that is split elsewhere
module _ {A : Type 0} where
  no_split : (p : List A) (v : A) (q : List A) → [] ≡ p ++ (v ∷ q) → ⊥
  no_split [] v q e = true≢false (ap none e)
  no_split (x ∷ p) v q e = true≢false (ap none e)

  pub last_split : (xs : List A) (u : A) (p : List A) (v : A) (q : List A) → xs ++ (u ∷ []) ≡ p ++ (v ∷ q)
      → ((xs ≡ p) × (u ≡ v) × (q ≡ [])) ⊎ ((k : List A) × (q ≡ k ++ (u ∷ [])) × (xs ≡ p ++ (v ∷ k)))
  last_split [] u [] v q e = inl (refl, cc, cc)
  last_split [] u (y ∷ p) v q e = absurd (no_split p v q cc)
  last_split (x ∷ xs) u [] v q e = inr (xs, cc, cc)
  last_split (x ∷ xs) u (y ∷ p) v q e = one (last_split xs u p v q cc)
    where
      h : x ≡ y
      h = cc

      one : ((xs ≡ p) × (u ≡ v) × (q ≡ [])) ⊎ ((k : List A) × (q ≡ k ++ (u ∷ [])) × (xs ≡ p ++ (v ∷ k)))
          → ((x ∷ xs ≡ y ∷ p) × (u ≡ v) × (q ≡ []))
          ⊎ ((k : List A) × (q ≡ k ++ (u ∷ [])) × (x ∷ xs ≡ y ∷ (p ++ (v ∷ k))))
      one (inl a) = inl (cc, a.1, a.2)
      one (inr a) = inr (a.0, a.1, cc)

module _ (Does : List Turn → Turn → Type 0) (u : Turn) where
  pub never_next : (past us : List Turn) → Never Does past us → (Does (past ++ us) u → ⊥)
      → Never Does past (us ++ (u ∷ []))
  never_next past [] h f = ((λ d. f (subst (λ (p : List Turn). Does p u) (sym (append-nil past)) d)), tt)
  never_next past (v ∷ us) h f = (
    h.0,
    never_next (past ++ (v ∷ [])) us h.1
        (λ d. f (subst (λ (p : List Turn). Does p u) (append_assoc past (v ∷ []) us) d)),
  )

  pub never_back : (past us : List Turn) → Never Does past (us ++ (u ∷ []))
      → Never Does past us × (Does (past ++ us) u → ⊥)
  never_back past [] h = (tt, λ d. h.0 (subst (λ (p : List Turn). Does p u) (append-nil past) d))
  never_back past (v ∷ us) h =
      let k = never_back (past ++ (v ∷ [])) us h.1 in
      ((h.0, k.0), λ d. k.1 (subst (λ (p : List Turn). Does p u) (sym (append_assoc past (v ∷ []) us)) d))

module _ (Did : List Turn → Turn → Type 0) (Does : List Turn → Turn → Type 0) where
  pub since_none : Since Did Does [] → ⊥
  since_none s = no_split s.before s.turn s.later s.split

  module _ (us : List Turn) (u : Turn) where
    -- it is the last turn that did
    pub since_last : Did us u → Since Did Does (us ++ (u ∷ []))
    since_last d = record { before = us; turn = u; later = []; split = refl; did = d; never = tt }

    -- an earlier one did, and the last does not
    pub since_next : Since Did Does us → (Does us u → ⊥) → Since Did Does (us ++ (u ∷ []))
    since_next s f = record {
      before = s.before;
      turn = s.turn;
      later = s.later ++ (u ∷ []);
      split = ap (λ (l : List Turn). l ++ (u ∷ [])) s.split ∙ append_assoc s.before (s.turn ∷ s.later) (u ∷ []);
      did = s.did;
      never =
          never_next Does u _ s.later s.never
          (λ d. f (subst (λ (p : List Turn). Does p u)
          (append_assoc s.before (s.turn ∷ []) s.later ∙ sym s.split) d));
    }

    pub since_back : Since Did Does (us ++ (u ∷ [])) → Did us u ⊎ (Since Did Does us × (Does us u → ⊥))
    since_back s = one (last_split us u s.before s.turn s.later s.split)
      where
        one : ((us ≡ s.before) × (u ≡ s.turn) × (s.later ≡ []))
            ⊎ ((k : List Turn) × (s.later ≡ k ++ (u ∷ [])) × (us ≡ s.before ++ (s.turn ∷ k)))
            → Did us u ⊎ (Since Did Does us × (Does us u → ⊥))
        one (inl a) =
            inl (subst (λ (p : List Turn). Did p u) (sym a.0) (subst (Did s.before) (sym a.1) s.did))
        one (inr a) =
            let past = s.before ++ (s.turn ∷ []) in
            let n = never_back Does u past a.0 (subst (Never Does past) a.1 s.never) in
            let i = a.2 ∙ sym (append_assoc s.before (s.turn ∷ []) a.0) in
            inr (
              record { before = s.before; turn = s.turn; later = a.0; split = a.2; did = s.did; never = n.0 },
              λ d. n.1 (subst (λ (p : List Turn). Does p u) i d),
            )

-- what holds of no turns, and of one more where it holds of some, holds of any
pub by_turns : (Law : List Turn → Type 0) → Law [] → ((us : List Turn) (u : Turn) → Law us → Law (us ++ (u ∷ [])))
    → (us : List Turn) → Law us
by_turns Law first next us = along [] us first
  where
    along : (past later : List Turn) → Law past → Law (past ++ later)
    along past [] h = subst Law (sym (append-nil past)) h
    along past (u ∷ later) h =
        subst Law (append_assoc past (u ∷ []) later) (along (past ++ (u ∷ [])) later (next past u h))
