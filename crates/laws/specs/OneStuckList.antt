-- NO SECOND LIST OF THE STUCK FITS: who is listed and what a line says leave one list.
use Rattle.std.specs.Prelude.{◌≡◌, refl, true, false, not, ◌&&◌, eqb, length}
use Rattle.std.proofs.Common.{sym, ap, ap₂, ◌∙◌}
use mathlib.Core.List.{List, [], ◌∷◌, ◌++◌, map, nil≢cons, head-eq_of_cons-eq, tail-eq_of_cons-eq}
use Rattle.std.proofs.lemmas.Bool.{not-true}
use Rattle.lists.specs.Lists.{every, some, keep, numbers}
use Rattle.lists.specs.Bools.{join, never}
use Rattle.kinds.specs.Limits.{highest_task}
use Rattle.rules.specs.Control.{Entry}
use Rattle.rules.specs.Rings.{bars, stuck}
use Rattle.rules.specs.Reports.{StuckTask, holds_up, stuck_tasks}
use Rattle.laws.specs.Among.{eqb_swap, Each, every_there, some_at}
use Rattle.laws.specs.OnRing.{waits_at}
use Rattle.laws.specs.Stuck.{task_of, stuck_listed, StuckLine, stuck_lines}

-- of two splits of one list, both are at one place, or one of them is ahead
data Splits {A : Type 0} (p : List A) (x : A) (s : List A) (y : A) : Type 0 where
  same : p ≡ s → x ≡ y → Splits p x s y
  ahead : (c : List A) → s ≡ p ++ (x ∷ c) → Splits p x s y
  behind : (c : List A) → p ≡ s ++ (y ∷ c) → Splits p x s y

module _ {A : Type 0} where
  pushed : (z w : A) (p s : List A) (x y : A) → z ≡ w → Splits p x s y → Splits (z ∷ p) x (w ∷ s) y
  pushed z w p s x y e (same h k) = same (ap₂ (λ (v : A) (l : List A). v ∷ l) e h) k
  pushed z w p s x y e (ahead c h) = ahead c (ap₂ (λ (v : A) (l : List A). v ∷ l) (sym e) h)
  pushed z w p s x y e (behind c h) = behind c (ap₂ (λ (v : A) (l : List A). v ∷ l) e h)

  two_splits : (p : List A) (x : A) (r : List A) (s : List A) (y : A) (u : List A) → p ++ (x ∷ r) ≡ s ++ (y ∷ u)
      → Splits p x s y
  two_splits [] x r [] y u e = same refl (head-eq_of_cons-eq e)
  two_splits [] x r (w ∷ s) y u e = ahead s (ap (λ (v : A). v ∷ s) (sym (head-eq_of_cons-eq e)))
  two_splits (z ∷ p) x r [] y u e = behind p (ap (λ (v : A). v ∷ p) (head-eq_of_cons-eq e))
  two_splits (z ∷ p) x r (w ∷ s) y u e =
      pushed z w p s x y (head-eq_of_cons-eq e) (two_splits p x r s y u (tail-eq_of_cons-eq e))

module _ (q : List Entry) where
  -- a line's entry is held up by the one ahead
  line_held : (x : StuckTask) (l : StuckLine q x) → holds_up (stuck q) l.entry l.ahead ≡ true
  line_held x l =
      let w = waits_at q x.task x.partner l.waits in
      let d : eqb l.ahead.task l.entry.task ≡ false =
      ap₂ eqb l.theirs l.own ∙ eqb_swap x.partner x.task ∙ w.other in
      join (not (eqb l.ahead.task l.entry.task) && stuck q l.ahead.task) (bars l.ahead l.entry)
      (join (not (eqb l.ahead.task l.entry.task)) (stuck q l.ahead.task) (ap not d)
      (ap (stuck q) l.theirs ∙ l.partner))
      l.barred

  -- no line has its entry ahead of another's of that task, ..
  no_entry : (x y : StuckTask) (l : StuckLine q x) (m : StuckLine q y) (c : List Entry) → x.task ≡ y.task
      → m.before ≡ l.before ++ (l.entry ∷ c) → ⊥
  no_entry x y l m c e k =
      never (some (holds_up (stuck q) l.entry) l.before)
      (ap (some (holds_up (stuck q) l.entry)) l.behind
      ∙ some_at (holds_up (stuck q) l.entry) l.first l.ahead l.rest (line_held x l))
      (m.no_earlier_entry l.before l.entry c k (l.own ∙ e))

  -- .. nor, of one entry, has it one ahead of the other's
  no_ahead : (x y : StuckTask) (l : StuckLine q x) (m : StuckLine q y) (c : List Entry) → l.entry ≡ m.entry
      → m.first ≡ l.first ++ (l.ahead ∷ c) → ⊥
  no_ahead x y l m c e k =
      never (holds_up (stuck q) l.entry l.ahead) (line_held x l)
      (ap (λ (z : Entry). holds_up (stuck q) z l.ahead) e
      ∙ not-true (holds_up (stuck q) m.entry l.ahead)
      (every_there (λ (z : Entry). not (holds_up (stuck q) m.entry z)) l.first l.ahead c
      (sym (ap (every (λ (z : Entry). not (holds_up (stuck q) m.entry z))) k) ∙ m.no_earlier_ahead)))

  -- so a stuck task has one line
  pub one_line : (x y : StuckTask) → StuckLine q x → StuckLine q y → x.task ≡ y.task → x ≡ y
  one_line x y l m e =
      places (two_splits l.before l.entry l.after m.before m.entry m.after
      (sym l.split ∙ m.split))
    where
      partners : l.before ≡ m.before → l.entry ≡ m.entry → Splits l.first l.ahead m.first m.ahead
          → x ≡ y
      partners h k (same f a) =
          let place : x.place ≡ y.place = sym l.place ∙ ap length h ∙ m.place in
          let name = sym l.name ∙ ap (λ (z : Entry). z.name) k ∙ m.name in
          let partner : x.partner ≡ y.partner = sym l.theirs ∙ ap (λ (z : Entry). z.task) a ∙ m.theirs in
          λ i. record { task = e i; place = place i; name = name i; partner = partner i }
      partners h k (ahead c f) = absurd (no_ahead x y l m c k f)
      partners h k (behind c f) = absurd (no_ahead y x m l c (sym k) f)

      places : Splits l.before l.entry m.before m.entry → x ≡ y
      places (same h k) =
          partners h k (two_splits l.first l.ahead l.rest m.first m.ahead m.rest
          (sym l.behind ∙ h ∙ m.behind))
      places (ahead c h) = absurd (no_entry x y l m c e h)
      places (behind c h) = absurd (no_entry y x m l c (sym e) h)

  one_list : (l m : List StuckTask) → map task_of l ≡ map task_of m → Each (StuckLine q) l → Each (StuckLine q) m → l ≡ m
  one_list [] [] e h k = refl
  one_list [] (y ∷ m) e h k = absurd (nil≢cons e)
  one_list (x ∷ l) [] e h k = absurd (nil≢cons (sym e))
  one_list (x ∷ l) (y ∷ m) e h k =
      ap₂ (λ (z : StuckTask) (r : List StuckTask). z ∷ r) (one_line x y h.0 k.0 (head-eq_of_cons-eq e))
      (one_list l m (tail-eq_of_cons-eq e) h.1 k.1)

  -- and there is one list of lines for the stuck tasks in ascending order
  pub one_stuck_list : (l : List StuckTask) → map task_of l ≡ keep (stuck q) (numbers 1 highest_task)
      → Each (StuckLine q) l → l ≡ stuck_tasks q
  one_stuck_list l e h = one_list l (stuck_tasks q) (e ∙ sym (stuck_listed q)) h (stuck_lines q)
