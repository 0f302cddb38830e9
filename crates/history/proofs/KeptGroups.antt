-- What can happen to a queue keeps each task's entries together, if no task queues while it has an entry.
use mathlib.Core.Path.{◌≡◌, refl, sym, ap, subst, ◌∙◌}
use mathlib.Core.Bool.{Bool, true, false, not, cond, ◌||◌}
use mathlib.Core.List.{List, [], ◌∷◌, ◌++◌, map, append-nil}
use mathlib.Core.Logic.{inl, inr}
use Prim.Native.Nat.{ℕ}
use lib.Dec.{eqb}
use borrow.Author.Tests.{eqb-true, eqb-false, eq-eqb, ne_eqb}
use Rattle.lists.specs.Lists.{keep, some}
use Rattle.lists.specs.Bools.{or_left, or_right}
use Rattle.lists.specs.Every.{some_append}
use Rattle.lists.specs.Keeping.{some_keep}
use Rattle.rules.specs.Names.{Ask}
use Rattle.rules.specs.Control.{Entry, of_task}
use Rattle.rules.specs.Enq.{entry_for}
use Rattle.rules.specs.Reading.{Effect, NoEffect, Queues, Releases, Changes, Ends, Attaches, takes, makes_of, brings}
use Rattle.rules.specs.Reading.{after, breaks}
use Rattle.history.proofs.Effects.{makes_same}
use Rattle.history.proofs.Grouped.{Front, Grouped}

-- ENTRIES GO

front_keep : (f : Entry → Bool) (t : ℕ) (q : List Entry) → Grouped q → Front t q → Front t (keep f q)
front_keep f t [] g h = h
front_keep f t (e ∷ q) g h = one (f e) h (front_keep f t q g.1)
  where
    one : (b : Bool) → Front t (e ∷ q) → (Front t q → Front t (keep f q)) → Front t (cond b (e ∷ keep f q) (keep f q))
    one true (inl n) ih =
        inl (ap (λ (b : Bool). b || some (of_task t) (keep f q)) (or_left (of_task t e) _ n)
        ∙ some_keep _ f q (or_right (of_task t e) _ n))
    one true (inr s) ih = inr s
    one false (inl n) ih = inl (some_keep (of_task t) f q (or_right (of_task t e) _ n))
    one false (inr s) ih = ih (subst (λ (u : ℕ). Front u q) (eqb-true e.task t s) g.0)

grouped_keep : (f : Entry → Bool) (q : List Entry) → Grouped q → Grouped (keep f q)
grouped_keep f [] g = tt
grouped_keep f (e ∷ q) g = one (f e) (front_keep f e.task q g.1 g.0) (grouped_keep f q g.1)
  where
    one : (b : Bool) → Front e.task (keep f q) → Grouped (keep f q) → Grouped (cond b (e ∷ keep f q) (keep f q))
    one true h ih = (h, ih)
    one false h ih = ih

-- ENTRIES CHANGE, and stay their tasks'

module _ (f : Entry → Entry) (same : (e : Entry) → (f e).task ≡ e.task) where
  some_changed : (t : ℕ) (q : List Entry) → some (of_task t) (map f q) ≡ some (of_task t) q
  some_changed t [] = refl
  some_changed t (e ∷ q) = rw (same e, some_changed t q)

  front_map : (t : ℕ) (q : List Entry) → Front t q → Front t (map f q)
  front_map t [] h = h
  front_map t (e ∷ q) (inl n) = inl (some_changed t (e ∷ q) ∙ n)
  front_map t (e ∷ q) (inr s) = inr (ap (λ (u : ℕ). eqb u t) (same e) ∙ s)

  grouped_map : (q : List Entry) → Grouped q → Grouped (map f q)
  grouped_map [] g = tt
  grouped_map (e ∷ q) g =
      (front_map (f e).task q (subst (λ (t : ℕ). Front t q) (sym (same e)) g.0), grouped_map q g.1)

same_task : (ev : Effect) (e : Entry) → (makes_of ev e).task ≡ e.task
same_task ev e = ap (λ (x : Entry). x.task) (makes_same ev e)

-- ENTRIES COME TO THE TAIL, with one request

module _ (t : ℕ) where
  others : (u : ℕ) (l : List Ask) → (u ≡ t → ⊥) → some (of_task u) (map (entry_for t) l) ≡ false
  others u [] h = refl
  others u (a ∷ l) h = rw (ne_eqb t u (λ e. h (sym e))) (others u l h)

  block : (l : List Ask) → Grouped (map (entry_for t) l)
  block [] = tt
  block (a ∷ []) = (inl refl, tt)
  block (a ∷ (b ∷ l)) = (inr (eq-eqb t t refl), block (b ∷ l))

  front_joined : (u : ℕ) (q : List Entry) (l : List Ask) → (u ≡ t → ⊥) → Front u q → Front u (q ++ map (entry_for t) l)
  front_joined u [] l d (inl n) = inl (others u l d)
  front_joined u [] l d (inr s) = absurd s
  front_joined u (e ∷ q) l d (inl n) = inl (some_append (of_task u) (e ∷ q) (map (entry_for t) l) ∙ rw (n, others u l d))
  front_joined u (e ∷ q) l d (inr s) = inr s

  joined : (q : List Entry) (l : List Ask) → some (of_task t) q ≡ false → Grouped q → Grouped (q ++ map (entry_for t) l)
  joined [] l n g = block l
  joined (e ∷ q) l n g =
      let d = eqb-false e.task t (or_left (of_task t e) _ n) in
      (front_joined e.task q l d g.0, joined q l (or_right (of_task t e) _ n) g.1)

-- ONE EFFECT

-- what an effect leaves of a queue
abbrev left : Effect → List Entry → List Entry
left ev q = map (makes_of ev) (keep (λ (e : Entry). not (takes ev e)) q)

module _ (q : List Entry) (g : Grouped q) where
  left_grouped : (ev : Effect) → Grouped (left ev q)
  left_grouped ev =
      grouped_map _ (same_task ev) (keep (λ (e : Entry). not (takes ev e)) q)
      (grouped_keep (λ (e : Entry). not (takes ev e)) q g)

  -- it brings nothing
  only_left : (ev : Effect) → brings ev ≡ [] → Grouped (after ev q)
  only_left ev b = rw (b, append-nil (left ev q)) (left_grouped ev)

  pub after_grouped : (ev : Effect) → breaks ev q ≡ false → Grouped (after ev q)
  after_grouped NoEffect a = only_left NoEffect refl
  after_grouped (Queues t []) a = only_left (Queues t []) refl
  after_grouped (Queues t (b ∷ asks)) a =
      let ev = Queues t (b ∷ asks) in
      joined t (left ev q) (b ∷ asks)
      (some_changed _ (same_task ev) t (keep (λ (e : Entry). true) q)
      ∙ some_keep _ (λ (e : Entry). true) q (or_left (some (of_task t) q) _ a)) (left_grouped ev)
  after_grouped (Releases t ns) a = only_left (Releases t ns) refl
  after_grouped (Changes t ns) a = only_left (Changes t ns) refl
  after_grouped (Ends who) a = only_left (Ends who) refl
  after_grouped (Attaches m n) a = only_left (Attaches m n) refl
