-- A list put in groups has the elements of a key in one run: behind it none has the key again. It is the one list that
-- has that, the keys in the same order, and for each key the same elements.
use Rattle.std.specs.Prelude.{◌≡◌, refl, Bool, true, false, not, cond, ◌&&◌, ◌||◌, List, [], ◌∷◌, ◌++◌, map}
use Rattle.std.proofs.Common.{sym, ap, ap₂, ◌∙◌}
use Rattle.std.proofs.lemmas.Bool.{not-true}
use Rattle.lists.specs.Lists.{every, some, keep, distinct, firsts_by, gathered}
use Rattle.lists.specs.Bools.{both, join, or_left, or_right, not_so, never}
use Rattle.lists.specs.Every.{every_gives, some_append}
use Rattle.laws.specs.Among.{some_same, some_kept, all_kept, kept_none}
use Rattle.laws.specs.Grouping.{Same, same_as, firsts_once, groups, groups_cons}

module _ {X : Type 0} where
  -- what is left behind the elements at the front that pass a test
  abbrev pub behind_run : (X → Bool) → List X → List X
  behind_run p [] = []
  behind_run p (x ∷ l) = cond (p x) (behind_run p l) (x ∷ l)

  run_all : (p : X → Bool) (b r : List X) → every p b ≡ true → behind_run p (b ++ r) ≡ behind_run p r
  run_all p [] r h = refl
  run_all p (x ∷ b) r h =
      let k = both (p x) (every p b) h in
      ap (λ (c : Bool). cond c (behind_run p (b ++ r)) (x ∷ (b ++ r))) k.0 ∙ run_all p b r k.1

  run_none : (p : X → Bool) (r : List X) → some p r ≡ false → behind_run p r ≡ r
  run_none p [] h = refl
  run_none p (x ∷ r) h = ap (λ (c : Bool). cond c (behind_run p r) (x ∷ r)) (or_left (p x) (some p r) h)

  none_pass : (p : X → Bool) → ((x : X) → p x ≡ false) → (l : List X) → some p l ≡ false
  none_pass p h [] = refl
  none_pass p h (x ∷ l) = ap₂ (λ (a b : Bool). a || b) (h x) (none_pass p h l)

  all_left : (p : X → Bool) (l : List X) → some p l ≡ false → keep (λ (x : X). not (p x)) l ≡ l
  all_left p [] h = refl
  all_left p (x ∷ l) h =
      rw (or_left (p x) (some p l) h) (ap (λ (r : List X). x ∷ r) (all_left p l (or_right (p x) (some p l) h)))

  -- where none passes behind the run, those that pass and then the others are the list
  run_split : (p : X → Bool) (l : List X) → some p (behind_run p l) ≡ false
      → keep p l ++ keep (λ (x : X). not (p x)) l ≡ l
  run_split p [] h = refl
  run_split p (x ∷ l) h = one (p x) h (run_split p l)
    where
      rest : List X
      rest = keep (λ (y : X). not (p y)) l

      one : (b : Bool) → some p (cond b (behind_run p l) (x ∷ l)) ≡ false
          → (some p (behind_run p l) ≡ false → keep p l ++ rest ≡ l)
          → cond b (x ∷ keep p l) (keep p l) ++ cond (not b) (x ∷ rest) rest ≡ x ∷ l
      one true k ih = ap (λ (r : List X). x ∷ r) (ih k)
      one false k ih =
          let n = or_right (p x) (some p l) k in
          ap (λ (r : List X). r ++ (x ∷ rest)) (kept_none p l n) ∙ ap (λ (r : List X). x ∷ r) (all_left p l n)

module _ {X A : Type 0} (same : A → A → Bool) (key : X → A) where
  -- the elements of a key stand together
  abbrev pub together : List X → Bool
  together [] = true
  together (x ∷ l) =
      not (some (λ (y : X). same (key y) (key x)) (behind_run (λ (y : X). same (key y) (key x)) l)) && together l

module _ {X A : Type 0} {same : A → A → Bool} (so : Same same) (key : X → A) where
  open so use {turned, onward}

  abbrev keyed : A → X → Bool
  keyed n y = same (key y) n

  -- who has the key of an element that has key n has key n
  as_keyed : (n : A) (x : X) → keyed n x ≡ true → (y : X) → keyed (key x) y ≡ keyed n y
  as_keyed n x h y =
      turned (key y) (key x) ∙ same_as so (key x) n h (key y) ∙ turned n (key y)

  -- one run more, at the front
  run_before : (n : A) (b r : List X) → every (keyed n) b ≡ true → some (keyed n) r ≡ false
      → together same key r ≡ true → together same key (b ++ r) ≡ true
  run_before n [] r h k t = t
  run_before n (x ∷ b) r h k t =
      let e = both (keyed n x) (every (keyed n) b) h in
      let p = as_keyed n x e.0 in
      let all = every_gives (keyed n) (keyed (key x)) (λ y w. p y ∙ w) b e.1 in
      let none = some_same (keyed (key x)) (keyed n) p r ∙ k in
      join (not (some (keyed (key x)) (behind_run (keyed (key x)) (b ++ r)))) (together same key (b ++ r))
      (ap (λ (l : List X). not (some (keyed (key x)) l))
      (run_all (keyed (key x)) b r all ∙ run_none (keyed (key x)) r none)
      ∙ ap not none)
      (run_before n b r e.1 k t)

  -- a group has no element of another key
  other_group : (n m : A) (l : List X) → same n m ≡ false → some (keyed n) (keep (keyed m) l) ≡ false
  other_group n m l h =
      some_kept (keyed n) (keyed m) l
      ∙ none_pass (λ (x : X). keyed m x && keyed n x) (λ x. not_so (keyed m x && keyed n x) (λ e.
      let k = both (keyed m x) (keyed n x) e in
      never (same n m) (onward n (key x) m (turned n (key x) ∙ k.1) k.0) h)) l

  other_groups : (n : A) (l : List X) (ns : List A) → some (same n) ns ≡ false
      → some (keyed n) (gathered (λ (m : A). keep (keyed m) l) ns) ≡ false
  other_groups n l [] h = refl
  other_groups n l (m ∷ ns) h =
      some_append (keyed n) (keep (keyed m) l) (gathered (λ (k : A). keep (keyed k) l) ns)
      ∙ ap₂ (λ (a b : Bool). a || b) (other_group n m l (or_left (same n m) (some (same n) ns) h))
      (other_groups n l ns (or_right (same n m) (some (same n) ns) h))

  by_key : (l : List X) (ns : List A) → distinct same ns ≡ true
      → together same key (gathered (λ (m : A). keep (keyed m) l) ns) ≡ true
  by_key l [] h = refl
  by_key l (n ∷ ns) h =
      let d = both (not (some (same n) ns)) (distinct same ns) h in
      run_before n (keep (keyed n) l) (gathered (λ (m : A). keep (keyed m) l) ns) (all_kept (keyed n) l)
      (other_groups n l ns (not-true (some (same n) ns) d.0)) (by_key l ns d.1)

  pub groups_together : (l : List X) → together same key (groups same key l) ≡ true
  groups_together l = by_key l (firsts_by same (map key l)) (firsts_once same (map key l))

  -- ONE LIST ONLY

  -- whose elements stand together is its own groups
  in_runs : (l : List X) → together same key l ≡ true → groups same key l ≡ l
  in_runs [] h = refl
  in_runs (x ∷ l) h =
      let p = keyed (key x) in
      let d = both (not (some p (behind_run p l))) (together same key l) h in
      groups_cons so key x l
      ∙ ap (λ (r : List X). x ∷ (keep p l ++ keep (λ (y : X). not (p y)) r)) (in_runs l d.1)
      ∙ ap (λ (r : List X). x ∷ r) (run_split p l (not-true (some p (behind_run p l)) d.0))

  pub one_grouping : (l m : List X) → together same key l ≡ true
      → firsts_by same (map key l) ≡ firsts_by same (map key m)
      → ((n : A) → keep (keyed n) l ≡ keep (keyed n) m) → l ≡ groups same key m
  one_grouping l m h e g =
      sym (in_runs l h) ∙ ap (gathered (λ (n : A). keep (keyed n) l)) e
      ∙ alike (firsts_by same (map key m))
    where
      alike : (ns : List A) → gathered (λ (n : A). keep (keyed n) l) ns ≡ gathered (λ (n : A). keep (keyed n) m) ns
      alike [] = refl
      alike (n ∷ ns) = ap₂ (λ (r s : List X). r ++ s) (g n) (alike ns)
