-- A queue in which each task's entries stand together has no ring: whoever waits for another stands wholly behind him.
use mathlib.Core.Path.{◌≡◌, sym, ap, subst, ◌∙◌}
use mathlib.Core.Bool.{Bool, true, false, cond, false≢true}
use mathlib.Core.List.{List, [], ◌∷◌, ◌++◌}
use mathlib.Core.Logic.{◌⊎◌, inl, inr}
use Prim.Native.Nat.{ℕ, zero, suc, ◌≤◌, ◌<◌}
use native.Mathlib.Omega.{arith}
use lib.Dec.{eqb}
use lib.ListN.{length}
use borrow.Author.Tests.{eqb-true, eqb-false, eq-eqb}
use Rattle.lists.specs.Lists.{some}
use Rattle.lists.specs.Bools.{decided, never}
use Rattle.rules.specs.Control.{Entry, of_task}
use Rattle.rules.specs.Rings.{waits_for, Leads, step, then, Ring}
use Rattle.laws.specs.Among.{some_at}
use Rattle.laws.specs.OnRing.{waits_at}
use Rattle.history.proofs.Grouped.{Starts, Front, Grouped}

-- RANKS: how far from the tail a task's first entry stands

abbrev rank : ℕ → List Entry → ℕ
rank t [] = zero
rank t (e ∷ l) = cond (of_task t e) (suc (length l)) (rank t l)

rank_le : (t : ℕ) (l : List Entry) → rank t l ≤ length l
rank_le t [] = omega arith
rank_le t (e ∷ l) = one (of_task t e) (rank_le t l)
  where
    one : (b : Bool) → rank t l ≤ length l → cond b (suc (length l)) (rank t l) ≤ suc (length l)
    one true h = omega arith
    one false h = omega arith

rank_starts : (t : ℕ) (l : List Entry) → Starts t l → rank t l ≡ length l
rank_starts t [] h = absurd h
rank_starts t (e ∷ l) h = rw h

-- of two tasks, the one with an entry before an entry of the other ranks higher
module _ (a b : ℕ) (other : eqb a b ≡ false) where
  rank_before : (p : List Entry) (e : Entry) (r : List Entry) → Grouped (p ++ (e ∷ r)) → of_task a e ≡ true
      → some (of_task b) p ≡ true
      → rank a (p ++ (e ∷ r)) < rank b (p ++ (e ∷ r))
  rank_before [] e r g m s = absurd (false≢true s)
  rank_before (x ∷ p) e r g m s = one (decided (of_task a x)) (decided (of_task b x)) g.0 (rank_before p e r g.1 m)
    where
      l : List Entry
      l = p ++ (e ∷ r)

      one : (of_task a x ≡ true) ⊎ (of_task a x ≡ false) → (of_task b x ≡ true) ⊎ (of_task b x ≡ false) → Front x.task l
          → (some (of_task b) p ≡ true → rank a l < rank b l) → rank a (x ∷ l) < rank b (x ∷ l)
      one (inl u) (inl v) f ih = absurd (eqb-false a b other (sym (eqb-true x.task a u) ∙ eqb-true x.task b v))
      one (inr u) (inl v) f ih = let k = rank_le a l in rw (u, v) (omega arith)
      one (inr u) (inr v) f ih = rw (u, v) (ih (rw v at s))
      one (inl u) (inr v) (inl n) ih =
          never _ (some_at (of_task a) p e r m) (subst (λ (t : ℕ). some (of_task t) l ≡ false) (eqb-true x.task a u) n)
      one (inl u) (inr v) (inr n) ih =
          let h : rank a l < rank b l = ih (rw v at s) in
          let j = rank_starts a l (subst (λ (t : ℕ). Starts t l) (eqb-true x.task a u) n) in
          let k = rank_le b l in
          absurd (omega arith)

-- RINGS

module _ (q : List Entry) (g : Grouped q) where
  wait_climbs : (a b : ℕ) → waits_for q a b ≡ true → rank a q < rank b q
  wait_climbs a b w =
      let f = waits_at q a b w in
      let e = eq-eqb f.ahead.task b f.theirs in
      subst (λ (l : List Entry). rank a l < rank b l) (sym f.split)
      (rank_before a b f.other f.before f.entry f.after (subst Grouped f.split g)
      (eq-eqb f.entry.task a f.own)
      (ap (some (of_task b)) f.behind ∙ some_at (of_task b) f.first f.ahead f.rest e))

  leads_climbs : {a b : ℕ} → Leads q a b → rank a q < rank b q
  leads_climbs (step {a = a} {b = b} w) = wait_climbs a b w
  leads_climbs (then {a = a} {b = b} {c = c} w r) =
      let h = wait_climbs a b w in
      let k = leads_climbs r in
      omega arith

  pub no_ring : Ring q → ⊥
  no_ring (t, r) = let h = leads_climbs r in omega arith
