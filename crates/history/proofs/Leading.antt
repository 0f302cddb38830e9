-- A task that lacks nothing has each of its entries among the owners.
use mathlib.Core.Path.{◌≡◌, refl, sym, ap, ◌∙◌}
use mathlib.Core.Bool.{Bool, true, false, not, cond, ◌&&◌, ◌||◌, false≢true}
use mathlib.Core.List.{List, [], ◌∷◌}
use borrow.Author.Tests.{eqb-true, eq-eqb, not-false}
use Rattle.lists.specs.Bools.{and_left, or_left, or_right}
use Rattle.rules.specs.Names.{Resource, same_name}
use Rattle.rules.specs.Control.{Entry, of_task, queue_of, control, holding, lacks_from, lacks}
use Rattle.rules.specs.Alike.{same_entry}
use Rattle.rules.specs.DemandThree.{stands_in, leading_run}
use Rattle.laws.specs.Owners.{owners_leading}

module _ (n : Resource) (e : Entry) where
  -- an entry that is e, of a task that lacks nothing here, has control
  has : (x : Entry) (c r : Bool) → ((of_task e.task x && not c) || r) ≡ false → same_entry e x ≡ true → c ≡ true
  has x c r h k =
      let i = sym (eqb-true e.task x.task (and_left _ _ k)) in
      let o : of_task e.task x ≡ true = eq-eqb x.task e.task i in
      not-false c (sym (ap (λ (b : Bool). b && not c) o) ∙ or_left (of_task e.task x && not c) r h)

  -- one entry more: it is e or not, for the name (b) or not, with control (c) or not
  one_more : (s b c : Bool) (x : Entry) (q h : List Entry) → (s ≡ true → c ≡ true) → same_entry e x ≡ s
      → same_name x.name n ≡ b
      → (stands_in e (queue_of n q) ≡ true → stands_in e (queue_of n h) ≡ true)
      → stands_in e (cond b (x ∷ queue_of n q) (queue_of n q)) ≡ true → stands_in e (queue_of n (cond c (x ∷ h) h)) ≡ true
  one_more true true true x q h f p u ih k = rw (u, p)
  one_more true false true x q h f p u ih k = rw u (ih k)
  one_more true b false x q h f p u ih k = absurd (false≢true (f refl))
  one_more false true true x q h f p u ih k = rw (u, p) (ih (rw p at k))
  one_more false true false x q h f p u ih k = ih (rw p at k)
  one_more false false true x q h f p u ih k = rw u (ih k)
  one_more false false false x q h f p u ih k = ih k

  held : (before q : List Entry) → lacks_from e.task before q ≡ false → stands_in e (queue_of n q) ≡ true
      → stands_in e (queue_of n (holding before q)) ≡ true
  held before [] h k = k
  held before (x ∷ q) h k =
      one_more _ _ _ x q _ (has x (control before x) _ h) refl refl
      (held _ q (or_right (of_task e.task x && not (control before x)) _ h)) k

pub leads : (n : Resource) (e : Entry) (q : List Entry) → lacks e.task q ≡ false → stands_in e (queue_of n q) ≡ true
    → stands_in e (leading_run (queue_of n q)) ≡ true
leads n e q h k = ap (stands_in e) (sym (owners_leading n q)) ∙ held n e [] q h k
