-- The queue that is read from turns has an entry exactly when it was queued, and since then neither released nor ended.
use Prim.Native.Nat.{ℕ}
use mathlib.Core.Path.{◌≡◌, refl, sym, ap, ap₂, subst, ◌∙◌}
use mathlib.Core.Bool.{Bool, true, false, not, cond, ◌&&◌, ◌||◌, and-false, false≢true}
use mathlib.Core.List.{List, [], ◌∷◌, ◌++◌, map}
use mathlib.Core.Logic.{◌⊎◌, inl, inr, ◌↔◌}
use borrow.Author.Tests.{eqb-true, not-true}
use Rattle.lists.specs.Lists.{keep}
use Rattle.lists.specs.Bools.{both, either, not_so, never}
use Rattle.lists.specs.Every.{some_append}
use Rattle.rules.specs.Names.{Resource}
use Rattle.rules.specs.Control.{Entry, of_task, is_for, has_entry}
use Rattle.rules.specs.Steps.{Step}
use Rattle.rules.specs.Reading.{Turn, Effect, takes, makes_of}
use Rattle.rules.specs.Reading.{brings, after, effect_of}
use Rattle.rules.specs.Reading.{Reading, nothing, reading, queue_read}
use Rattle.rules.specs.DemandThree.{Run, Fresh}
use Rattle.laws.specs.SameNames.{name_eq}
use Rattle.history.specs.Told.{Queued, Released, Ended, StillQueued, InQueue, QueueTold}
use Rattle.history.proofs.Since.{since_none, since_last, since_next, since_back, by_turns}
use Rattle.history.proofs.Effects.{entry_as, makes_same, takes_by}
use Rattle.history.proofs.Deeds.{taken_gone, brought_queued, Stands, queued_stands, gone_taken}
use Rattle.history.proofs.ToldMothers.{reading_last, mothers_told}
use Rattle.history.proofs.Runs.{run_keeps}

-- WHAT AN EFFECT DOES to task t's entry for name n

module _ (t : ℕ) (n : Resource) where
  -- an entry stays the task's, for the name
  made_has : (ev : Effect) (q : List Entry) → has_entry (map (makes_of ev) q) t n ≡ has_entry q t n
  made_has ev [] = refl
  made_has ev (e ∷ q) = ap₂ ◌||◌ (ap (is_for t n) (makes_same ev e)) (made_has ev q)

  takes_alike : (ev : Effect) (e : Entry) → is_for t n e ≡ true → not (takes ev e) ≡ not (takes ev (entry_as t n))
  takes_alike ev e h =
      let b = both (of_task t e) _ h in
      ap not (takes_by ev e
      ∙ ap₂ (λ (c : ℕ) (k : Resource). takes ev (entry_as c k)) (eqb-true e.task t b.0)
      (name_eq e.name n b.1))

  -- a test that comes out the same for all of the task's entries for the name
  kept_has : (f : Entry → Bool) (b : Bool) → ((e : Entry) → is_for t n e ≡ true → f e ≡ b) → (q : List Entry)
      → has_entry (keep f q) t n ≡ (has_entry q t n && b)
  kept_has f b same [] = refl
  kept_has f b same (e ∷ q) = one (is_for t n e) (f e) refl (same e) (kept_has f b same q)
    where
      one : (i g : Bool) → is_for t n e ≡ i → (i ≡ true → g ≡ b) → has_entry (keep f q) t n ≡ (has_entry q t n && b)
          → has_entry (cond g (e ∷ keep f q) (keep f q)) t n ≡ ((i || has_entry q t n) && b)
      one true true i k ih = rw i (k refl)
      one true false i k ih = ih ∙ rw (sym (k refl)) (and-false (has_entry q t n))
      one false true i k ih = rw i ih
      one false false i k ih = ih

  after_has : (ev : Effect) (q : List Entry)
      → has_entry (after ev q) t n ≡ ((has_entry q t n && not (takes ev (entry_as t n))) || has_entry (brings ev) t n)
  after_has ev q =
      some_append _ (map _ (keep (λ (e : Entry). not (takes ev e)) q)) _
      ∙ ap (λ (b : Bool). b || has_entry (brings ev) t n)
      (made_has ev (keep (λ (e : Entry). not (takes ev e)) q)
      ∙ kept_has (λ (e : Entry). not (takes ev e)) _ (takes_alike ev) q)

  -- ONE TURN

  abbrev QueuesIt : List Turn → Turn → Type 0
  QueuesIt past u = Queued t n u

  abbrev EndsIt : List Turn → Turn → Type 0
  EndsIt past u = Released t n u ⊎ Ended past t u

  abbrev Law : List Turn → Type 0
  Law us = InQueue t n (queue_read us) ↔ StillQueued t n us

  module _ (us : List Turn) (u : Turn) (law : Law us) where
    abbrev ev : Effect
    ev = effect_of (reading nothing us) u

    abbrev q : List Entry
    q = queue_read us

    then_read : has_entry (queue_read (us ++ (u ∷ []))) t n
        ≡ ((has_entry q t n && not (takes ev (entry_as t n))) || has_entry (brings ev) t n)
    then_read = ap (λ (r : Reading). has_entry r.queue t n) (reading_last nothing us u) ∙ after_has ev q

    then_still : InQueue t n (queue_read (us ++ (u ∷ []))) → StillQueued t n (us ++ (u ∷ []))
    then_still h = one (either (has_entry q t n && not (takes ev (entry_as t n))) _ (sym then_read ∙ h))
      where
        one : ((has_entry q t n && not (takes ev (entry_as t n))) ≡ true) ⊎ (has_entry (brings ev) t n ≡ true)
            → StillQueued t n (us ++ (u ∷ []))
        one (inl k) =
            let b = both (has_entry q t n) _ k in
            since_next QueuesIt EndsIt us u (law.0 b.0)
            (λ g. never (takes ev (entry_as t n)) (gone_taken us (mothers_told us) u t n g)
            (not-true (takes ev (entry_as t n)) b.1))
        one (inr k) = since_last QueuesIt EndsIt us u (brought_queued us (mothers_told us) u t n k)

    then_in : StillQueued t n (us ++ (u ∷ [])) → InQueue t n (queue_read (us ++ (u ∷ [])))
    then_in s = then_read ∙ one (since_back QueuesIt EndsIt us u s)
      where
        one : Queued t n u ⊎ (StillQueued t n us × (Released t n u ⊎ Ended us t u → ⊥))
            → Stands us (mothers_told us) u t n ev
        one (inl d) = queued_stands us (mothers_told us) u t n d
        one (inr b) =
            let g = not_so (takes ev (entry_as t n)) (λ h. b.1 (taken_gone us (mothers_told us) u t n h)) in
            rw (law.1 b.0, g)

-- THE LAW, of any turns
pub queue_told : QueueTold
queue_told us t n =
    by_turns (Law t n) ((λ h. absurd (false≢true h)), (λ s. absurd (since_none (QueuesIt t n) (EndsIt t n) s)))
    (λ vs u law. (then_still t n vs u law, then_in t n vs u law)) us

-- AND OF THE TABLES: after any run from a fresh step they have the entry exactly when the run tells that it is queued
pub run_told : {s z : Step} {us : List Turn} → Fresh s → Run s us z → (t : ℕ) (n : Resource)
    → InQueue t n z.queue ↔ StillQueued t n us
run_told {s} {z} {us} f r t n =
    subst (λ (q : List Entry). InQueue t n q ↔ StillQueued t n us) (sym (run_keeps f r).1) (queue_told us t n)
