-- WHAT HOLDS A TASK UP: the list of its entries that wait for some tasks, each with an entry ahead, names exactly those
-- of them for which it waits; and its first line is the earliest entry with the earliest ahead.
use Rattle.std.specs.Prelude.{◌≡◌, refl, Bool, true, false, not, ◌&&◌, ◌||◌, ◌⊎◌, ℕ, eqb, length, take}
use Rattle.std.proofs.Common.{sym, ap, ap₂, subst, ◌∙◌, inl, inr, eqb-true}
use Rattle.std.proofs.Math.Bool.{and-false}
use Rattle.std.proofs.lemmas.Bool.{false≢true}
use mathlib.Core.List.{List, [], ◌∷◌, ◌++◌, map, append-nil, append_assoc, nil≢cons}
use mathlib.Core.List.{head-eq_of_cons-eq, tail-eq_of_cons-eq}
use Rattle.lists.specs.Lists.{some, none, keep}
use Rattle.lists.specs.Bools.{both, decided}
use Rattle.lists.specs.Every.{some_append, some_of}
use Rattle.rules.specs.Control.{Entry, of_task, control}
use Rattle.rules.specs.Rings.{bars, waits_from, waits_for}
use Rattle.rules.specs.Reports.{StuckTask, stuck_at, holds_up, stuck_at_from}
use Rattle.laws.specs.Among.{eqb_swap, first_that, some_same, some_besides, some_kept, kept_none, kept_first}
use Rattle.laws.specs.OnRing.{bars_of, barred_lacks}

shut : (u v : Bool) → false ≡ (u && (v && false))
shut true true = refl
shut true false = refl
shut false v = refl

parted : (u v x y : Bool) → ((u && (v && x)) || (u && (v && y))) ≡ (u && (v && (x || y)))
parted true true x y = refl
parted true false x y = refl
parted false v x y = refl

ordered : (s u r : Bool) → (((not s && u) && r) && true) ≡ ((u && (not s && true)) && r)
ordered true true r = refl
ordered true false r = refl
ordered false true true = refl
ordered false true false = refl
ordered false false r = refl

regrouped : (u v o x : Bool) → ((u && (v && o)) && x) ≡ (u && (v && (o && x)))
regrouped true true o x = refl
regrouped true false o x = refl
regrouped false v o x = refl

module _ (these : ℕ → Bool) (t : ℕ) where
  -- by entry and the one ahead, and for whom
  held_pair : (b : ℕ) (e x : Entry)
      → ((of_task t e && holds_up these e x) && of_task b x)
      ≡ ((these b && (not (eqb t b) && of_task t e)) && bars_of b e x)
  held_pair b e x = one (of_task t e) (of_task b x) refl refl
    where
      one : (o p : Bool) → of_task t e ≡ o → of_task b x ≡ p
          → ((o && holds_up these e x) && p) ≡ ((these b && (not (eqb t b) && o)) && (p && bars x e))
      one true true h k =
          let i = eqb-true e.task t h in
          let j = eqb-true x.task b k in
          let s : eqb x.task e.task ≡ eqb t b = ap₂ eqb j i ∙ eqb_swap b t in
          ap₂ (λ (c d : Bool). ((not c && d) && bars x e) && true) s (ap these j)
          ∙ ordered (eqb t b) (these b) (bars x e)
      one true false h k = and-false (holds_up these e x) ∙ sym (and-false (these b && (not (eqb t b) && true)))
      one false p h k = ap (λ (c : Bool). c && (p && bars x e)) (shut (these b) (not (eqb t b)))

  held_here : (b : ℕ) (before : List Entry) (e : Entry)
      → some (λ (x : StuckTask). eqb x.partner b)
      (map (stuck_at (length before) e) (keep (λ (x : Entry). of_task t e && holds_up these e x) before))
      ≡ (these b && (not (eqb t b) && (of_task t e && (not (control before e) && some (bars_of b e) before))))
  held_here b before e =
      some_of (stuck_at (length before) e) (λ (x : StuckTask). eqb x.partner b)
      (keep (λ (x : Entry). of_task t e && holds_up these e x) before)
      ∙ some_kept (of_task b) (λ (x : Entry). of_task t e && holds_up these e x) before
      ∙ some_same (λ (x : Entry). (of_task t e && holds_up these e x) && of_task b x)
      (λ (x : Entry). (these b && (not (eqb t b) && of_task t e)) && bars_of b e x) (held_pair b e) before
      ∙ some_besides (these b && (not (eqb t b) && of_task t e)) (bars_of b e) before
      ∙ regrouped (these b) (not (eqb t b)) (of_task t e) (some (bars_of b e) before)
      ∙ ap (λ (c : Bool). these b && (not (eqb t b) && (of_task t e && c))) (sym (barred_lacks b before e))

  -- whom it lists: those of these tasks for which t waits, and nobody else
  held_from : (b : ℕ) (before l : List Entry)
      → some (λ (x : StuckTask). eqb x.partner b) (stuck_at_from these t before l)
      ≡ (these b && (not (eqb t b) && waits_from before t b l))
  held_from b before [] = shut (these b) (not (eqb t b))
  held_from b before (e ∷ l) =
      some_append (λ (x : StuckTask). eqb x.partner b)
      (map (stuck_at (length before) e) (keep (λ (x : Entry). of_task t e && holds_up these e x) before))
      (stuck_at_from these t (before ++ (e ∷ [])) l)
      ∙ ap₂ ◌||◌ (held_here b before e) (held_from b (before ++ (e ∷ [])) l)
      ∙ parted (these b) (not (eqb t b)) (of_task t e && (not (control before e) && some (bars_of b e) before))
      (waits_from (before ++ (e ∷ [])) t b l)

  pub held_by : (q : List Entry) (b : ℕ)
      → some (λ (x : StuckTask). eqb x.partner b) (stuck_at_from these t [] q) ≡ (these b && waits_for q t b)
  unfolding waits_for
  held_by q b = held_from b [] q

  -- THE FIRST LINE, in a list that stands behind `before`
  pub record FirstHeld (before l : List Entry) : Type 0 where
    pub front : List Entry
    pub entry : Entry
    pub back : List Entry
    pub split : l ≡ front ++ (entry ∷ back)
    pub own : of_task t entry ≡ true
    pub first : List Entry
    pub ahead : Entry
    pub rest : List Entry
    pub behind : before ++ front ≡ first ++ (ahead ∷ rest)
    pub held : holds_up these entry ahead ≡ true
    pub no_ahead : some (holds_up these entry) first ≡ false
    pub no_entry : (b : List Entry) (e : Entry) (a : List Entry) → front ≡ b ++ (e ∷ a) → of_task t e ≡ true
        → some (holds_up these e) (before ++ b) ≡ false
    pub line : take 1 (stuck_at_from these t before l) ≡ stuck_at (length (before ++ front)) entry ahead ∷ []

  -- an entry held up here
  held_first : (before : List Entry) (e : Entry) (l : List Entry)
      → some (λ (x : Entry). of_task t e && holds_up these e x) before ≡ true → FirstHeld before (e ∷ l)
  held_first before e l h =
      let f = first_that (λ (x : Entry). of_task t e && holds_up these e x) before h in
      let m = both (of_task t e) (holds_up these e f.one) f.passes in
      record {
        front = [];
        entry = e;
        back = l;
        split = refl;
        own = m.0;
        first = f.front;
        ahead = f.one;
        rest = f.back;
        behind = append-nil before ∙ f.split;
        held = m.1;
        no_ahead =
            ap (λ (c : Bool). some (λ (x : Entry). c && holds_up these e x) f.front) (sym m.0) ∙ f.earlier;
        no_entry = λ b x a k o. absurd (no_split b x a k);
        line =
            ap (λ (k : List Entry). take 1 (map (stuck_at (length before) e) k
            ++ stuck_at_from these t (before ++ (e ∷ [])) l))
            (ap (keep (λ (x : Entry). of_task t e && holds_up these e x)) f.split
            ∙ kept_first (λ (x : Entry). of_task t e && holds_up these e x) f.front f.one f.back f.earlier
            f.passes)
            ∙ ap (λ (p : List Entry). stuck_at (length p) e f.one ∷ []) (sym (append-nil before));
      }
    where
      no_split : (b : List Entry) (x : Entry) (a : List Entry) → [] ≡ b ++ (x ∷ a) → ⊥
      no_split [] x a k = nil≢cons k
      no_split (y ∷ b) x a k = nil≢cons k

  -- no entry held up here
  held_later : (before : List Entry) (e : Entry) (l : List Entry)
      → some (λ (x : Entry). of_task t e && holds_up these e x) before ≡ false
      → FirstHeld (before ++ (e ∷ [])) l → FirstHeld before (e ∷ l)
  held_later before e l h f = record {
    front = e ∷ f.front;
    entry = f.entry;
    back = f.back;
    split = ap (λ (r : List Entry). e ∷ r) f.split;
    own = f.own;
    first = f.first;
    ahead = f.ahead;
    rest = f.rest;
    behind = sym (append_assoc before (e ∷ []) f.front) ∙ f.behind;
    held = f.held;
    no_ahead = f.no_ahead;
    no_entry = none;
    line =
        ap (λ (k : List Entry). take 1 (map (stuck_at (length before) e) k
        ++ stuck_at_from these t (before ++ (e ∷ [])) l))
        (kept_none (λ (x : Entry). of_task t e && holds_up these e x) before h)
        ∙ f.line
        ∙ ap (λ (p : List Entry). stuck_at (length p) f.entry f.ahead ∷ [])
        (append_assoc before (e ∷ []) f.front);
  }
    where
      here : (x : Entry) → e ≡ x → of_task t x ≡ true → some (holds_up these x) before ≡ false
      here x k o =
          subst (λ (y : Entry). of_task t y ≡ true → some (holds_up these y) before ≡ false) k
          (λ u. ap (λ (c : Bool). some (λ (z : Entry). c && holds_up these e z) before) (sym u) ∙ h) o

      none : (b : List Entry) (x : Entry) (a : List Entry) → e ∷ f.front ≡ b ++ (x ∷ a) → of_task t x ≡ true
          → some (holds_up these x) (before ++ b) ≡ false
      none [] x a k o = ap (some (holds_up these x)) (append-nil before) ∙ here x (head-eq_of_cons-eq k) o
      none (y ∷ b) x a k o =
          ap (λ (z : Entry). some (holds_up these x) (before ++ (z ∷ b))) (sym (head-eq_of_cons-eq k))
          ∙ ap (some (holds_up these x)) (sym (append_assoc before (e ∷ []) b))
          ∙ f.no_entry b x a (tail-eq_of_cons-eq k) o

  pub first_held : (before l : List Entry) → none (stuck_at_from these t before l) ≡ false → FirstHeld before l
  first_held before [] h = absurd (false≢true (sym h))
  first_held before (e ∷ l) h = one (decided (some test before)) (first_held (before ++ (e ∷ [])) l)
    where
      test : Entry → Bool
      test x = of_task t e && holds_up these e x

      one : (some test before ≡ true) ⊎ (some test before ≡ false)
          → (none (stuck_at_from these t (before ++ (e ∷ [])) l) ≡ false → FirstHeld (before ++ (e ∷ [])) l)
          → FirstHeld before (e ∷ l)
      one (inl k) ih = held_first before e l k
      one (inr k) ih =
          held_later before e l k
          (ih (ap (λ (r : List Entry). none (map (stuck_at (length before) e) r
          ++ stuck_at_from these t (before ++ (e ∷ [])) l)) (sym (kept_none test before k)) ∙ h))
