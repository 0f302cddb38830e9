-- GETMAIN's address a second time, as the lowest of the candidates at which the area is permitted: "Search those. The
-- answer for every request stays what it is." (02 §4)
use Rattle.std.specs.Prelude.{◌≡◌, refl, Bool, true, false, cond, ◌&&◌, List, [], ◌∷◌, ℕ, ◌≤◌, ◌<◌, eqb, leb}
use Rattle.std.proofs.Common.{sym, ap, ◌∙◌, arith, eqb-true, eq-eqb, leb-true, leb-false, le-leb}
use Rattle.std.proofs.Math.Bool.{or-true}
use Rattle.std.proofs.lemmas.Bool.{false≢true}
use Rattle.lists.specs.Lists.{every, some, keep}
use Rattle.lists.specs.Bools.{both, join}
use Rattle.lists.specs.Every.{every_gives, every_one}
use Rattle.kinds.specs.declared.areas.Area.{Area}
use Rattle.kinds.specs.declared.numbers.Address.{Address}
use Rattle.std.specs.Prelude.{Option, Some, None}
use Rattle.rules.specs.DemandTwo.{Room}
use Rattle.rules.specs.Storage.{permitted, placed_at, lowest}
use Rattle.laws.specs.Among.{number_kept}
use Rattle.laws.specs.Lowest.{Lowest, not_above, lowest_is}
use Rattle.laws.specs.Candidates.{is_candidate, aligned_end, candidates, listed}
use Rattle.laws.specs.Candidates.{candidate_aligned, lowest_candidate}

-- the lower of two addresses, of which one may be none
abbrev pub lesser : ℕ → Option Address → Option Address
lesser s (Some p) = cond (leb s p.0) (Some (record { 0 = s })) (Some p)
lesser s None = Some (record { 0 = s })

-- the lowest of some
abbrev pub least : List ℕ → Option Address
least [] = None
least (s ∷ l) = lesser s (least l)

-- the lowest of the candidates at which the area is permitted
unfoldable pub lowest_among : List Area → Area → Option Address
lowest_among l a = least (keep (λ (s : ℕ). permitted l (placed_at a s)) (candidates l))

-- it is one of them, and none of them is lower; of none there is none
abbrev Least : List ℕ → Option Address → Type 0
Least l (Some p) = (some (eqb p.0) l ≡ true) × (every (leb p.0) l ≡ true)
Least l None = l ≡ []

least_is : (l : List ℕ) → Least l (least l)
least_is [] = refl
least_is (s ∷ l) = one (least l) (least_is l)
  where
    self : eqb s s ≡ true
    self = eq-eqb s s refl

    alone : leb s s ≡ true
    alone = le-leb s s (omega arith)

    under : (p : ℕ) → s ≤ p → (x : ℕ) → leb p x ≡ true → leb s x ≡ true
    under p h x e = let k : p ≤ x = leb-true p x e in le-leb s x (omega arith)

    two : (p : Address) (b : Bool) → leb s p.0 ≡ b → Least l (Some p)
        → Least (s ∷ l) (cond b (Some (record { 0 = s })) (Some p))
    two p true e h =
        let k : s ≤ p.0 = leb-true s p.0 e in
        (rw self, rw alone (every_gives (leb p.0) (leb s) (under p.0 k) l h.1))
    two p false e h =
        let k : p.0 < s = leb-false s p.0 e in
        (rw h.0 (or-true (eqb p.0 s)), rw (le-leb p.0 s (omega arith)) h.1)

    one : (p : Option Address) → Least l p → Least (s ∷ l) (lesser s p)
    one (Some p) h = two p (leb s p.0) refl h
    one None h = (rw self, rw (alone, h))

-- IT IS THE LOWEST OF ALL, where every area ends at a multiple of 8
module _ (l : List Area) (a : Area) (long : 0 < a.size) (aligned : every aligned_end l ≡ true) where
  -- the candidates at which the area is permitted
  abbrev fits : List ℕ
  fits = keep (λ (s : ℕ). permitted l (placed_at a s)) (candidates l)

  fits_told : (s : ℕ) → some (eqb s) fits ≡ (permitted l (placed_at a s) && is_candidate l s)
  fits_told s =
      number_kept s (λ (x : ℕ). permitted l (placed_at a x)) (candidates l)
      ∙ ap (λ (b : Bool). permitted l (placed_at a s) && b) (listed l s)

  fit_room : (s : ℕ) → some (eqb s) fits ≡ true → Room l a s
  fit_room s h =
      let b = both (permitted l (placed_at a s)) (is_candidate l s) (sym (fits_told s) ∙ h) in
      record { aligned = candidate_aligned l aligned s b.1; permits = b.0 }

  room_fit : (s : ℕ) → Room l a s → is_candidate l s ≡ true → some (eqb s) fits ≡ true
  room_fit s r c = fits_told s ∙ join (permitted l (placed_at a s)) (is_candidate l s) r.permits c

  -- what is lowest among these is lowest among all, as that is a candidate
  one : (p q : Option Address) → Least fits p → Lowest l a q → ((s : Address) → q ≡ Some s → is_candidate l s.0 ≡ true)
      → p ≡ q
  one (Some p) (Some q) h k c =
      let z = room_fit q.0 k.here (c q refl) in
      let g : p.0 ≤ q.0 = leb-true p.0 q.0 (every_one eqb eqb-true (leb p.0) fits q.0 h.1 z) in
      let f : q.0 ≤ p.0 = not_above l a q.0 p.0 (fit_room p.0 h.0) k.below in
      let e : p.0 ≡ q.0 = omega arith in
      λ i. Some (record { 0 = e i })
  one (Some p) None h k c = absurd (k.below p.0 tt (fit_room p.0 h.0))
  one None (Some q) h k c =
      absurd (false≢true (ap (some (eqb q.0)) (sym h) ∙ room_fit q.0 k.here (c q refl)))
  one None None h k c = refl

  pub lowest_among_lem : lowest_among l a ≡ lowest l a
  unfolding lowest_among
  lowest_among_lem =
      one (least fits) (lowest l a) (least_is fits) (lowest_is l a long) (lowest_candidate l a long aligned)
