-- The mothers that are read from turns are those whom the turns tell of.
use Prim.Native.Nat.{ℕ}
use mathlib.Core.Path.{◌≡◌, refl, sym, ap, subst, ◌∙◌}
use mathlib.Core.Bool.{true, false}
use mathlib.Core.List.{List, [], ◌∷◌, ◌++◌}
use mathlib.Core.Logic.{◌⊎◌, inl, inr}
use lib.Dec.{eqb}
use borrow.Author.Tests.{eq-eqb}
use Rattle.lists.specs.Bools.{or_left, or_right, not_so, never, decided}
use Rattle.rules.specs.Reading.{Turn, Link, links_by, mother_in, effect_of, Reading, nothing, reads, reading}
use Rattle.history.specs.Told.{Since, Attached, IsAttached, Mother}
use Rattle.history.proofs.Since.{never_next, never_back, since_none, since_last, since_next, since_back}
use Rattle.history.proofs.Since.{by_turns}
use Rattle.history.proofs.Deeds.{MothersTold, attaches_to, linked_attached, attached_links}

-- one turn more is read
pub reading_last : (r : Reading) (us : List Turn) (u : Turn) → reading r (us ++ (u ∷ [])) ≡ reads (reading r us) u
reading_last r [] u = refl
reading_last r (v ∷ us) u = reading_last (reads r v) us u

-- links that are not c's say nothing of its mother
other_links : (c : ℕ) (ks ls : List Link) → attaches_to c ks ≡ false → mother_in (ks ++ ls) c ≡ mother_in ls c
other_links c [] ls h = refl
other_links c (k ∷ ks) ls h =
    rw (or_left (eqb k.child c) _ h) (other_links c ks ls (or_right (eqb k.child c) _ h))

module _ (us : List Turn) (law : MothersTold us) (u : Turn) where
  abbrev ks : List Link
  ks = links_by (effect_of (reading nothing us) u)

  abbrev ls : List Link
  ls = (reading nothing us).links

  module _ (c : ℕ) where
    -- if the turn does not attach c, its mother is who she was
    mother_next : (q : ℕ) → Mother us c q → (IsAttached c u → ⊥) → Mother (us ++ (u ∷ [])) c q
    mother_next q (inl s) f = inl (since_next (λ past v. Attached q c v) (λ past v. IsAttached c v) us u s f)
    mother_next q (inr n) f = inr (n.0, never_next (λ past v. IsAttached c v) u [] us n.1 f)

    mother_back : (q : ℕ) → Mother (us ++ (u ∷ [])) c q → Attached q c u ⊎ (Mother us c q × (IsAttached c u → ⊥))
    mother_back q (inl s) = one (since_back (λ past v. Attached q c v) (λ past v. IsAttached c v) us u s)
      where
        one : Attached q c u ⊎ (Since (λ past v. Attached q c v) (λ past v. IsAttached c v) us × (IsAttached c u → ⊥))
            → Attached q c u ⊎ (Mother us c q × (IsAttached c u → ⊥))
        one (inl a) = inl a
        one (inr b) = inr (inl b.0, b.1)
    mother_back q (inr n) = let k = never_back (λ past v. IsAttached c v) u [] us n.1 in inr (inr (n.0, k.0), k.1)

    -- it attaches c where its links say so
    attached_to : (q : ℕ) → Attached q c u → (attaches_to c ks ≡ true) × (mother_in (ks ++ ls) c ≡ q)
    attached_to q a =
        let e = attached_links us law u a in
        let i = eq-eqb c c refl in
        (ap (attaches_to c) e ∙ rw i, ap (λ (k : List Link). mother_in (k ++ ls) c) e ∙ rw i)

    then_told : Mother (us ++ (u ∷ [])) c (mother_in (ks ++ ls) c)
    then_told = one (decided (attaches_to c ks))
      where
        one : (attaches_to c ks ≡ true) ⊎ (attaches_to c ks ≡ false) → Mother (us ++ (u ∷ [])) c (mother_in (ks ++ ls) c)
        one (inl h) =
            let a = linked_attached us law u ls c h in
            inl (since_last (λ past v. Attached (mother_in (ks ++ ls) c) c v) (λ past v. IsAttached c v) us u
            (subst (λ (q : ℕ). Attached q c u) (sym a.1) a.0.1))
        one (inr h) =
            subst (Mother _ c) (sym (other_links c ks ls h))
            (mother_next _ (law.told c) (λ a. never (attaches_to c ks) (attached_to a.0 a.1).0 h))

    then_once : (q : ℕ) → Mother (us ++ (u ∷ [])) c q → mother_in (ks ++ ls) c ≡ q
    then_once q mo = one (mother_back q mo)
      where
        one : Attached q c u ⊎ (Mother us c q × (IsAttached c u → ⊥)) → mother_in (ks ++ ls) c ≡ q
        one (inl a) = (attached_to q a).1
        one (inr b) =
            other_links c ks ls (not_so _ (λ h. b.1 (linked_attached us law u ls c h).0)) ∙ law.once c q b.0

  then_mothers : MothersTold (us ++ (u ∷ []))
  then_mothers =
      let e = sym (reading_last nothing us u) in
      record {
        told = λ c. subst (λ (r : Reading). Mother (us ++ (u ∷ [])) c (mother_in r.links c)) e (then_told c);
        once = λ c q mo. subst (λ (r : Reading). mother_in r.links c ≡ q) e (then_once c q mo);
      }

-- of no turns
first_mothers : MothersTold []
first_mothers = record { told = λ c. inr (refl, tt); once = one }
  where
    one : (c q : ℕ) → Mother [] c q → 0 ≡ q
    one c q (inl s) = absurd (since_none (λ past v. Attached q c v) (λ past v. IsAttached c v) s)
    one c q (inr n) = sym n.0

pub mothers_told : (us : List Turn) → MothersTold us
mothers_told us = by_turns MothersTold first_mothers (λ vs u law. then_mothers vs law u) us
