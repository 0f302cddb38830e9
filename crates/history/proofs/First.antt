-- Where each task's entries stand together, and none has two for one name, the first task of the queue lacks nothing.
use mathlib.Core.Path.{◌≡◌, refl, sym, subst, ◌∙◌}
use mathlib.Core.Bool.{Bool, true, false, not, ◌&&◌, false≢true}
use mathlib.Core.List.{List, [], ◌∷◌, ◌++◌, append_assoc}
use mathlib.Core.Logic.{inl, inr}
use Prim.Native.Nat.{ℕ}
use borrow.Author.Tests.{eqb-true, eq-eqb}
use Rattle.lists.specs.Lists.{every, distinct}
use Rattle.lists.specs.Bools.{both, join}
use Rattle.lists.specs.Every.{every_append, none_every}
use Rattle.lists.specs.Once.{distinct_before}
use Rattle.rules.specs.Names.{same_name}
use Rattle.rules.specs.Control.{Entry, of_task, lacks_from, lacks}
use Rattle.rules.specs.Rings.{bars}
use Rattle.rules.specs.SoundQueue.{same_request, entries_once}
use Rattle.laws.specs.Control.{free, control_each}
use Rattle.laws.specs.SameNames.{name_sym}
use Rattle.laws.specs.Lacking.{lacks_behind}
use Rattle.history.proofs.Grouped.{Front, Grouped}

-- among a task's own entries none bars another
apart : (t : ℕ) (e : Entry) → of_task t e ≡ true → (p : List Entry) → every (of_task t) p ≡ true
    → every (λ (y : Entry). not (same_request y e)) p ≡ true → every (free e) p ≡ true
unfolding free bars
apart t e m [] o d = refl
apart t e m (y ∷ p) o d =
    let a = both (of_task t y) (every (of_task t) p) o in
    let b = both (not (same_request y e)) _ d in
    join (free e y) (every (free e) p) (one (same_name e.name y.name) refl a.0 b.0)
    (apart t e m p a.1 b.1)
  where
    one : (b : Bool) → same_name e.name y.name ≡ b → of_task t y ≡ true → not (of_task y.task e && b) ≡ true
        → free e y ≡ true
    one true u v w =
        let i = eqb-true e.task t m ∙ sym (eqb-true y.task t v) in
        let k : of_task y.task e ≡ true = eq-eqb e.task y.task i in
        absurd (false≢true (rw k at w))
    one false u v w = rw (name_sym y.name e.name ∙ u)

-- a task whose entries stand first, behind some of its own, lacks nothing
first_lacks : (t : ℕ) (p l : List Entry) → every (of_task t) p ≡ true → distinct same_request (p ++ l) ≡ true → Front t l
    → Grouped l → lacks_from t p l ≡ false
first_lacks t p [] o d f g = refl
first_lacks t p (e ∷ l) o d f g = one f (first_lacks t (p ++ (e ∷ [])) l)
  where
    one : Front t (e ∷ l)
        → (every (of_task t) (p ++ (e ∷ [])) ≡ true → distinct same_request ((p ++ (e ∷ [])) ++ l) ≡ true → Front t l
        → Grouped l → lacks_from t (p ++ (e ∷ [])) l ≡ false)
        → lacks_from t p (e ∷ l) ≡ false
    one (inl n) ih = lacks_behind t p (e ∷ l) (none_every (of_task t) (e ∷ l) n)
    one (inr m) ih =
        rw (control_each p e ∙ apart t e m p o (distinct_before same_request p e l d), m)
        (ih
        (every_append (of_task t) p (e ∷ []) ∙ rw (o, m))
        (subst (λ (r : List Entry). distinct same_request r ≡ true) (sym (append_assoc p (e ∷ []) l)) d)
        (subst (λ (u : ℕ). Front u l) (eqb-true e.task t m) g.0)
        g.1)

pub first_free : (x : Entry) (q : List Entry) → Grouped (x ∷ q) → entries_once (x ∷ q) ≡ true
    → lacks x.task (x ∷ q) ≡ false
unfolding entries_once
first_free x q g d = first_lacks x.task [] (x ∷ q) refl d (inr (eq-eqb x.task x.task refl)) g
