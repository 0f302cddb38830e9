-- WHO IS ON A RING: task a waits for task b where an entry of a stands behind one of b that bars it, and the test
-- `stuck`, which computes, says exactly who is on a ring of document 01.
use Rattle.std.specs.Prelude.{◌≡◌, refl, Bool, true, false, not, ◌&&◌, ◌||◌, List, [], ◌∷◌, ◌++◌, map, ◌⊎◌, ℕ, eqb}
use Rattle.std.proofs.Common.{sym, ap, ◌∙◌, append-nil, append_assoc, inl, inr, eqb-true, eq-eqb}
use Rattle.std.proofs.Math.Bool.{and-false, or-true}
use Rattle.std.proofs.lemmas.Bool.{false≢true, not-true}
use Rattle.lists.specs.Lists.{some}
use Rattle.lists.specs.Bools.{both, join, either}
use Rattle.lists.specs.Every.{some_of, some_fails}
use Rattle.rules.specs.Control.{Entry, of_task, control}
use Rattle.rules.specs.Rings.{bars, waits_from, waits_for, Leads, step, then, tasks_queued, stuck}
use Rattle.laws.specs.Control.{free, control_each}
use Rattle.laws.specs.ByWay.{Led, by_led, led_by, ring_next}
use Rattle.laws.specs.ByWay.Led.{step as led-step, then as led-then}
use Rattle.laws.specs.Among.{some_at, first_that}
use Rattle.laws.specs.Grouping.{same_numbers, firsts_all}

-- WHO WAITS FOR WHOM

-- whatever has an entry before it that bars it lacks control
pub bars_lacks : (before : List Entry) (e : Entry) → some (λ (x : Entry). bars x e) before ≡ true
    → control before e ≡ false
unfolding free
bars_lacks before e h =
    control_each before e ∙ some_fails (λ (x : Entry). bars x e) (free e) (λ x k. ap not k) before h

-- the entries of b that bar an entry
abbrev pub bars_of : ℕ → Entry → Entry → Bool
bars_of b e x = of_task b x && bars x e

some_bars : (b : ℕ) (e : Entry) (l : List Entry) → some (bars_of b e) l ≡ true → some (λ (x : Entry). bars x e) l ≡ true
some_bars b e l h =
    let s = first_that (bars_of b e) l h in
    ap (some (λ (x : Entry). bars x e)) s.split
    ∙ some_at (λ (x : Entry). bars x e) s.front s.one s.back
    (both (of_task b s.one) (bars s.one e) s.passes).1

-- so to lack control says nothing besides
pub barred_lacks : (b : ℕ) (before : List Entry) (e : Entry)
    → (not (control before e) && some (bars_of b e) before) ≡ some (bars_of b e) before
barred_lacks b before e = one (some (bars_of b e) before) refl
  where
    one : (r : Bool) → some (bars_of b e) before ≡ r → (not (control before e) && r) ≡ r
    one true h = ap (λ (c : Bool). not c && true) (bars_lacks before e (some_bars b e before h))
    one false h = and-false (not (control before e))

-- an entry of a in this list, which stands behind `before`, and an entry of b ahead of it that bars it
record Behind (a b : ℕ) (before l : List Entry) : Type 0 where
  front : List Entry
  entry : Entry
  back : List Entry
  split : l ≡ front ++ (entry ∷ back)
  own : of_task a entry ≡ true
  ahead : some (bars_of b entry) (before ++ front) ≡ true

module _ (a b : ℕ) where
  behind : (before l : List Entry) → waits_from before a b l ≡ true → Behind a b before l
  behind before [] h = absurd (false≢true h)
  behind before (e ∷ l) h =
      one (either _ (waits_from (before ++ (e ∷ [])) a b l) h) (behind (before ++ (e ∷ [])) l)
    where
      one : ((of_task a e && (not (control before e) && some (bars_of b e) before)) ≡ true)
          ⊎ (waits_from (before ++ (e ∷ [])) a b l ≡ true)
          → (waits_from (before ++ (e ∷ [])) a b l ≡ true → Behind a b (before ++ (e ∷ [])) l)
          → Behind a b before (e ∷ l)
      one (inl k) ih =
          let m = both (of_task a e) (not (control before e) && some (bars_of b e) before) k in
          record {
            front = [];
            entry = e;
            back = l;
            split = refl;
            own = m.0;
            ahead = ap (some (bars_of b e)) (append-nil before) ∙ sym (barred_lacks b before e) ∙ m.1;
          }
      one (inr k) ih =
          let f = ih k in
          record {
            front = e ∷ f.front;
            entry = f.entry;
            back = f.back;
            split = ap (λ (r : List Entry). e ∷ r) f.split;
            own = f.own;
            ahead = ap (some (bars_of b f.entry)) (sym (append_assoc before (e ∷ []) f.front)) ∙ f.ahead;
          }

  behind_waits : (before front : List Entry) (e : Entry) (back : List Entry) → of_task a e ≡ true
      → some (bars_of b e) (before ++ front) ≡ true → waits_from before a b (front ++ (e ∷ back)) ≡ true
  behind_waits before [] e back o h =
      ap (λ (c : Bool). c || waits_from (before ++ (e ∷ [])) a b back)
      (join (of_task a e) (not (control before e) && some (bars_of b e) before) o
      (barred_lacks b before e ∙ ap (some (bars_of b e)) (sym (append-nil before)) ∙ h))
  behind_waits before (x ∷ front) e back o h =
      ap (λ (c : Bool). (of_task a x && (not (control before x) && some (bars_of b x) before)) || c)
      (behind_waits (before ++ (x ∷ [])) front e back o
      (ap (some (bars_of b e)) (append_assoc before (x ∷ []) front) ∙ h))
      ∙ or-true (of_task a x && (not (control before x) && some (bars_of b x) before))

-- an entry of a and, ahead of it, one of another task b that bars it
pub record WaitsAt (q : List Entry) (a b : ℕ) : Type 0 where
  pub before : List Entry
  pub entry : Entry
  pub after : List Entry
  pub split : q ≡ before ++ (entry ∷ after)
  pub own : entry.task ≡ a
  pub first : List Entry
  pub ahead : Entry
  pub rest : List Entry
  pub behind : before ≡ first ++ (ahead ∷ rest)
  pub theirs : ahead.task ≡ b
  pub barred : bars ahead entry ≡ true
  pub other : eqb a b ≡ false

pub waits_at : (q : List Entry) (a b : ℕ) → waits_for q a b ≡ true → WaitsAt q a b
unfolding waits_for
waits_at q a b h =
    let k = both (not (eqb a b)) (waits_from [] a b q) h in
    let f = behind a b [] q k.1 in
    let s = first_that (bars_of b f.entry) f.front f.ahead in
    let m = both (of_task b s.one) (bars s.one f.entry) s.passes in
    record {
      before = f.front;
      entry = f.entry;
      after = f.back;
      split = f.split;
      own = eqb-true f.entry.task a f.own;
      first = s.front;
      ahead = s.one;
      rest = s.back;
      behind = s.split;
      theirs = eqb-true s.one.task b m.0;
      barred = m.1;
      other = not-true (eqb a b) k.0;
    }

pub at_waits : (q : List Entry) (a b : ℕ) → WaitsAt q a b → waits_for q a b ≡ true
unfolding waits_for
at_waits q a b w =
    join (not (eqb a b)) (waits_from [] a b q) (ap not w.other)
    (ap (waits_from [] a b) w.split
    ∙ behind_waits a b [] w.before w.entry w.after (eq-eqb w.entry.task a w.own)
    (ap (some (bars_of b w.entry)) w.behind
    ∙ some_at (bars_of b w.entry) w.first w.ahead w.rest
    (join (of_task b w.ahead) (bars w.ahead w.entry) (eq-eqb w.ahead.task b w.theirs) w.barred)))

-- RINGS

-- whoever waits has an entry
pub waiter_has : (q : List Entry) (a b : ℕ) → waits_for q a b ≡ true → some (eqb a) (tasks_queued q) ≡ true
waiter_has q a b h =
    let w = waits_at q a b h in
    firsts_all same_numbers a (map (λ (e : Entry). e.task) q) ∙ some_of (λ (e : Entry). e.task) (eqb a) q
    ∙ ap (some (λ (e : Entry). eqb a e.task)) w.split
    ∙ some_at (λ (e : Entry). eqb a e.task) w.before w.entry w.after
    (eq-eqb a w.entry.task (sym w.own))

module _ (q : List Entry) where
  leads_of : {a b : ℕ} → Led (waits_for q) a b → Leads q a b
  leads_of (led-step e) = step e
  leads_of (led-then e r) = then e (leads_of r)

  led_of : {a b : ℕ} → Leads q a b → Led (waits_for q) a b
  led_of (step e) = led-step e
  led_of (then e r) = led-then e (led_of r)

  pub stuck_leads : (t : ℕ) → stuck q t ≡ true → Leads q t t
  unfolding stuck
  stuck_leads t h = leads_of (by_led (waits_for q) (tasks_queued q) t t h)

  pub leads_stuck : (t : ℕ) → Leads q t t → stuck q t ≡ true
  unfolding stuck
  leads_stuck t r = led_by (waits_for q) (tasks_queued q) (waiter_has q) t t (led_of r)

  -- whoever is on a ring waits for somebody who is on one
  pub next_on_ring : (a : ℕ) → Leads q a a → (b : ℕ) × (waits_for q a b ≡ true) × Leads q b b
  next_on_ring a r = let n = ring_next (waits_for q) a (led_of r) in (n.0, n.1, leads_of n.2)
