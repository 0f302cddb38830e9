-- The different elements of a list, each where it stands first, and a list put in groups: for each key in the order of
-- firsts, the elements that have it, in their order. Over any test by which two are the same.
use Rattle.std.specs.Prelude.{◌≡◌, refl, Bool, true, false, not, cond, ◌&&◌, ◌||◌, List, [], ◌∷◌, ◌++◌, map, suc, ◌+◌, length, eqb}
use Rattle.std.proofs.Common.{sym, ap, ap₂, ◌∙◌, append-nil, arith, length-append, eqb-true, eq-eqb}
use Rattle.std.proofs.Math.Bool.{and_comm, and-false}
use Rattle.std.proofs.lemmas.Bool.{not-true}
use Rattle.lists.specs.Lists.{keep, every, some, distinct, firsts_by, gathered}
use Rattle.lists.specs.Bools.{both, join, same_test, not_so, never}
use Rattle.lists.specs.Keeping.{keep_append, keep_same, keep_all, keep_map, distinct_keep}
use Rattle.laws.specs.Among.{some_same, some_kept, all_kept, eqb_swap}

-- WHAT IS KEPT OF WHAT IS KEPT

-- a test that the other gives asks no more
no_more : (a b : Bool) → (a ≡ true → b ≡ true) → (b && a) ≡ a
no_more true b k = rw (k refl)
no_more false b k = and-false b

module _ {A : Type 0} where
  pub keep_both : (f g : A → Bool) (l : List A) → keep f (keep g l) ≡ keep (λ (x : A). g x && f x) l
  keep_both f g [] = refl
  keep_both f g (x ∷ l) = one (g x) (keep_both f g l)
    where
      one : (b : Bool) → keep f (keep g l) ≡ keep (λ (y : A). g y && f y) l
          → keep f (cond b (x ∷ keep g l) (keep g l))
          ≡ cond (b && f x) (x ∷ keep (λ (y : A). g y && f y) l) (keep (λ (y : A). g y && f y) l)
      one true e = ap (λ (r : List A). cond (f x) (x ∷ r) r) e
      one false e = e

  -- the order of two tests does not matter
  pub keep_swap : (f g : A → Bool) (l : List A) → keep f (keep g l) ≡ keep g (keep f l)
  keep_swap f g l =
      keep_both f g l ∙ keep_same (λ (x : A). g x && f x) (λ (x : A). f x && g x) l (λ x. and_comm (g x) (f x))
      ∙ sym (keep_both g f l)

  -- a test that gives the other
  pub keep_given : (f g : A → Bool) → ((x : A) → f x ≡ true → g x ≡ true) → (l : List A) → keep f (keep g l) ≡ keep f l
  keep_given f g h l =
      keep_both f g l ∙ keep_same (λ (x : A). g x && f x) f l (λ x. no_more (f x) (g x) (h x))

  -- a test that rules the other out
  pub keep_against : (f g : A → Bool) → ((x : A) → g x ≡ true → f x ≡ false) → (l : List A) → keep f (keep g l) ≡ []
  keep_against f g h [] = refl
  keep_against f g h (x ∷ l) = one (g x) (h x) (keep_against f g h l)
    where
      one : (b : Bool) → (b ≡ true → f x ≡ false) → keep f (keep g l) ≡ []
          → keep f (cond b (x ∷ keep g l) (keep g l)) ≡ []
      one true k e = rw (k refl) e
      one false k e = e

  pub some_given : (p f : A → Bool) → ((x : A) → p x ≡ true → f x ≡ true) → (l : List A) → some p (keep f l) ≡ some p l
  some_given p f h l =
      some_kept p f l ∙ some_same (λ (x : A). f x && p x) p (λ x. no_more (p x) (f x) (h x)) l

  -- those that pass and those that don't are all
  pub keep_parts : (f : A → Bool) (l : List A) → length (keep f l) + length (keep (λ (x : A). not (f x)) l) ≡ length l
  keep_parts f [] = refl
  keep_parts f (x ∷ l) = one (f x) (keep_parts f l)
    where
      one : (b : Bool) → length (keep f l) + length (keep (λ (y : A). not (f y)) l) ≡ length l
          → length (cond b (x ∷ keep f l) (keep f l))
          + length (cond (not b) (x ∷ keep (λ (y : A). not (f y)) l) (keep (λ (y : A). not (f y)) l))
          ≡ suc (length l)
      one true e = omega arith
      one false e = omega arith

-- two ways to gather that are alike on all that is there
module _ {A B : Type 0} where
  pub gathered_among : (p : A → Bool) (f g : A → List B) → ((x : A) → p x ≡ true → f x ≡ g x) → (l : List A)
      → every p l ≡ true → gathered f l ≡ gathered g l
  gathered_among p f g h [] e = refl
  gathered_among p f g h (x ∷ l) e =
      let b = both (p x) (every p l) e in
      ap₂ (λ (r s : List B). r ++ s) (h x b.0) (gathered_among p f g h l b.1)

-- THE FIRST OF EACH

module _ {A : Type 0} (same : A → A → Bool) where
  -- two are the same, as a test of it has to say
  pub record Same : Type 0 where
    pub itself : (x : A) → same x x ≡ true
    pub turned : (x y : A) → same x y ≡ same y x
    pub onward : (x y z : A) → same x y ≡ true → same y z ≡ true → same x z ≡ true

  -- a list behind another adds those of its firsts that do not stand in the other
  firsts_behind : (xs ys : List A)
      → firsts_by same (xs ++ ys)
      ≡ firsts_by same xs ++ keep (λ (y : A). not (some (λ (x : A). same x y) xs)) (firsts_by same ys)
  firsts_behind [] ys = sym (keep_all (firsts_by same ys))
  firsts_behind (x ∷ xs) ys =
      ap (λ (r : List A). x ∷ r)
      (ap (keep other) (firsts_behind xs ys)
      ∙ keep_append other (firsts_by same xs) (keep new (firsts_by same ys))
      ∙ ap (λ (r : List A). keep other (firsts_by same xs) ++ r)
      (keep_both other new (firsts_by same ys)
      ∙ keep_same (λ (y : A). new y && other y) (λ (y : A). not (same x y || some (λ (z : A). same z y) xs))
      (firsts_by same ys) (λ y. neither (same x y) (some (λ (z : A). same z y) xs))))
    where
      other : A → Bool
      other y = not (same x y)

      new : A → Bool
      new y = not (some (λ (z : A). same z y) xs)

      neither : (a b : Bool) → (not b && not a) ≡ not (a || b)
      neither true true = refl
      neither true false = refl
      neither false true = refl
      neither false false = refl

  none_left : (p : A → Bool) (l : List A) → some p (keep (λ (x : A). not (p x)) l) ≡ false
  none_left p [] = refl
  none_left p (x ∷ l) = one (p x) refl (none_left p l)
    where
      one : (b : Bool) → p x ≡ b → some p (keep (λ (y : A). not (p y)) l) ≡ false
          → some p (cond (not b) (x ∷ keep (λ (y : A). not (p y)) l) (keep (λ (y : A). not (p y)) l)) ≡ false
      one true q e = e
      one false q e = rw q e

  -- each stands there once
  pub firsts_once : (l : List A) → distinct same (firsts_by same l) ≡ true
  firsts_once [] = refl
  firsts_once (x ∷ l) =
      join (not (some (same x) (keep (λ (y : A). not (same x y)) (firsts_by same l))))
      (distinct same (keep (λ (y : A). not (same x y)) (firsts_by same l)))
      (ap not (none_left (same x) (firsts_by same l)))
      (distinct_keep same (λ (y : A). not (same x y)) (firsts_by same l) (firsts_once l))

-- numbers
pub same_numbers : Same eqb
same_numbers = record {
  itself = λ a. eq-eqb a a refl;
  turned = eqb_swap;
  onward = λ a b c h k. eq-eqb a c (eqb-true a b h ∙ eqb-true b c k);
}

module _ {A : Type 0} {same : A → A → Bool} (so : Same same) where
  open so use {itself, turned, onward}

  -- what is the same as x is the same as whatever x is the same as
  pub same_as : (x y : A) → same x y ≡ true → (z : A) → same x z ≡ same y z
  same_as x y h z =
      same_test (same x z) (same y z) (λ e. onward y x z (turned y x ∙ h) e) (λ e. onward x y z h e)

  pub firsts_append : (xs ys : List A)
      → firsts_by same (xs ++ ys) ≡ firsts_by same xs ++ keep (λ (y : A). not (some (same y) xs)) (firsts_by same ys)
  firsts_append xs ys =
      firsts_behind same xs ys
      ∙ ap (λ (r : List A). firsts_by same xs ++ r)
      (keep_same (λ (y : A). not (some (λ (x : A). same x y) xs)) (λ (y : A). not (some (same y) xs)) (firsts_by same ys)
      (λ y. ap not (some_turned y xs)))
    where
      some_turned : (y : A) (l : List A) → some (λ (x : A). same x y) l ≡ some (same y) l
      some_turned y [] = refl
      some_turned y (x ∷ l) = ap₂ ◌||◌ (turned x y) (some_turned y l)

  -- one element more adds itself exactly when no earlier one is the same
  pub firsts_next : (xs : List A) (y : A)
      → firsts_by same (xs ++ (y ∷ [])) ≡ firsts_by same xs ++ cond (some (same y) xs) [] (y ∷ [])
  firsts_next xs y = firsts_append xs (y ∷ []) ∙ ap (λ (r : List A). firsts_by same xs ++ r) (one (some (same y) xs))
    where
      one : (b : Bool) → cond (not b) (y ∷ []) [] ≡ cond b [] (y ∷ [])
      one true = refl
      one false = refl

  -- whatever stands in the list stands among its firsts
  pub firsts_all : (x : A) (l : List A) → some (same x) (firsts_by same l) ≡ some (same x) l
  firsts_all x [] = refl
  firsts_all x (y ∷ l) = one (same x y) refl (firsts_all x l)
    where
      apart : same x y ≡ false → (z : A) → same x z ≡ true → not (same y z) ≡ true
      apart h z e =
          ap not (not_so (same y z) (λ k. never (same x y) (onward x z y e (turned z y ∙ k)) h))

      one : (b : Bool) → same x y ≡ b → some (same x) (firsts_by same l) ≡ some (same x) l
          → (b || some (same x) (keep (λ (z : A). not (same y z)) (firsts_by same l))) ≡ (b || some (same x) l)
      one true h e = refl
      one false h e = some_given (same x) (λ (z : A). not (same y z)) (apart h) (firsts_by same l) ∙ e

  -- a test that does not tell the same apart
  pub firsts_keep : (f : A → Bool) → ((x y : A) → same x y ≡ true → f x ≡ f y) → (l : List A)
      → firsts_by same (keep f l) ≡ keep f (firsts_by same l)
  firsts_keep f h [] = refl
  firsts_keep f h (x ∷ l) = one (f x) refl (firsts_keep f h l)
    where
      other : A → Bool
      other y = not (same x y)

      apart : f x ≡ false → (y : A) → f y ≡ true → not (same x y) ≡ true
      apart q y e = ap not (not_so (same x y) (λ k. never (f y) e (sym (h x y k) ∙ q)))

      one : (b : Bool) → f x ≡ b → firsts_by same (keep f l) ≡ keep f (firsts_by same l)
          → firsts_by same (cond b (x ∷ keep f l) (keep f l))
          ≡ cond b (x ∷ keep f (keep (λ (y : A). not (same x y)) (firsts_by same l)))
          (keep f (keep (λ (y : A). not (same x y)) (firsts_by same l)))
      one true q e = ap (λ (r : List A). x ∷ r) (ap (keep other) e ∙ keep_swap other f (firsts_by same l))
      one false q e = e ∙ sym (keep_given f other (apart q) (firsts_by same l))

-- GROUPS BY A KEY

module _ {X A : Type 0} (same : A → A → Bool) (key : X → A) where
  -- those with this key
  abbrev pub group_of : A → List X → List X
  group_of n l = keep (λ (x : X). same (key x) n) l

  abbrev pub groups : List X → List X
  groups l = gathered (λ (n : A). group_of n l) (firsts_by same (map key l))

module _ {X A : Type 0} {same : A → A → Bool} (so : Same same) (key : X → A) where
  open so use {itself, turned, onward}

  -- y has the key n, or has it not
  abbrev keyed : A → X → Bool
  keyed n y = same (key y) n

  abbrev others : A → X → Bool
  others n y = not (same (key y) n)

  -- the groups for keys other than k are what the groups have of others
  groups_other : (k : A) (l : List X) (ns : List A)
      → gathered (λ (n : A). group_of same key n l) (keep (λ (n : A). not (same k n)) ns)
      ≡ keep (λ (y : X). not (same (key y) k)) (gathered (λ (n : A). group_of same key n l) ns)
  groups_other k l [] = refl
  groups_other k l (n ∷ ns) = one (same k n) refl (groups_other k l ns)
    where
      group : A → List X
      group m = group_of same key m l

      -- of the group for n all are others, or none
      none : same k n ≡ true → keep (others k) (group n) ≡ []
      none h = keep_against (others k) (keyed n) (λ y e. ap not (onward (key y) n k e (turned n k ∙ h))) l

      all : same k n ≡ false → keep (others k) (group n) ≡ group n
      all h =
          keep_swap (others k) (keyed n) l
          ∙ keep_given (keyed n) (others k)
          (λ y e. ap not (not_so (same (key y) k)
          (λ u. never (same k n) (onward k (key y) n (turned k (key y) ∙ u) e) h))) l

      one : (b : Bool) → same k n ≡ b
          → gathered (λ (m : A). group_of same key m l) (keep (λ (m : A). not (same k m)) ns)
          ≡ keep (λ (y : X). not (same (key y) k)) (gathered (λ (m : A). group_of same key m l) ns)
          → gathered (λ (m : A). group_of same key m l)
          (cond (not b) (n ∷ keep (λ (m : A). not (same k m)) ns) (keep (λ (m : A). not (same k m)) ns))
          ≡ keep (λ (y : X). not (same (key y) k))
          (group_of same key n l ++ gathered (λ (m : A). group_of same key m l) ns)
      one true h e =
          e ∙ sym (keep_append (others k) (group n) (gathered group ns)
          ∙ ap (λ (r : List X). r ++ keep (others k) (gathered group ns)) (none h))
      one false h e =
          ap (λ (r : List X). group n ++ r) e
          ∙ sym (keep_append (others k) (group n) (gathered group ns)
          ∙ ap (λ (r : List X). r ++ keep (others k) (gathered group ns)) (all h))

  -- the groups of one element more, in front
  pub groups_cons : (x : X) (l : List X)
      → groups same key (x ∷ l)
      ≡ x ∷ (group_of same key (key x) l ++ keep (λ (y : X). not (same (key y) (key x))) (groups same key l))
  groups_cons x l =
      ap₂ (λ (r s : List X). r ++ s) first rest
    where
      ns : List A
      ns = keep (λ (n : A). not (same (key x) n)) (firsts_by same (map key l))

      first : group_of same key (key x) (x ∷ l) ≡ x ∷ group_of same key (key x) l
      first = rw (itself (key x))

      not_x : (n : A) → not (same (key x) n) ≡ true → group_of same key n (x ∷ l) ≡ group_of same key n l
      not_x n h = rw (not-true (same (key x) n) h)

      rest : gathered (λ (n : A). group_of same key n (x ∷ l))
          (keep (λ (n : A). not (same (key x) n)) (firsts_by same (map key l)))
          ≡ keep (λ (y : X). not (same (key y) (key x))) (groups same key l)
      rest =
          gathered_among (λ (n : A). not (same (key x) n)) (λ (n : A). group_of same key n (x ∷ l))
          (λ (n : A). group_of same key n l) not_x ns
          (all_kept (λ (n : A). not (same (key x) n)) (firsts_by same (map key l)))
          ∙ groups_other (key x) l (firsts_by same (map key l))

  -- those with a key are its group, in their order
  pub groups_of : (n : A) (l : List X) → group_of same key n (groups same key l) ≡ group_of same key n l
  groups_of n [] = refl
  groups_of n (x ∷ l) =
      ap (group_of same key n) (groups_cons x l)
      ∙ ap (λ (r : List X). cond (same (key x) n) (x ∷ r) r)
      (keep_append (keyed n) (group_of same key (key x) l) (keep (others (key x)) (groups same key l)))
      ∙ one (same (key x) n) refl (groups_of n l)
    where
      -- where x has the key: those with its key, and none of the others
      of_x : same (key x) n ≡ true → keep (keyed n) (keep (keyed (key x)) l) ≡ group_of same key n l
      of_x h = keep_given (keyed n) (keyed (key x)) (λ y e. onward (key y) n (key x) e (turned n (key x) ∙ h)) l

      not_of_x : same (key x) n ≡ true → keep (keyed n) (keep (others (key x)) (groups same key l)) ≡ []
      not_of_x h =
          keep_against (keyed n) (others (key x))
          (λ y u. not_so (same (key y) n) (λ e. never (same (key y) (key x))
          (onward (key y) n (key x) e (turned n (key x) ∙ h)) (not-true (same (key y) (key x)) u)))
          (groups same key l)

      apart : same (key x) n ≡ false → (y : X) → same (key y) (key x) ≡ true → same (key y) n ≡ false
      apart h y u =
          not_so (same (key y) n)
          (λ e. never (same (key x) n) (onward (key x) (key y) n (turned (key x) (key y) ∙ u) e) h)

      one : (b : Bool) → same (key x) n ≡ b → group_of same key n (groups same key l) ≡ group_of same key n l
          → cond b (x ∷ (keep (keyed n) (keep (keyed (key x)) l)
          ++ keep (keyed n) (keep (others (key x)) (groups same key l))))
          (keep (keyed n) (keep (keyed (key x)) l) ++ keep (keyed n) (keep (others (key x)) (groups same key l)))
          ≡ cond b (x ∷ group_of same key n l) (group_of same key n l)
      one true h e =
          ap (λ (r : List X). x ∷ r)
          (ap₂ (λ (r s : List X). r ++ s) (of_x h) (not_of_x h) ∙ append-nil (group_of same key n l))
      one false h e =
          ap₂ (λ (r s : List X). r ++ s) (keep_against (keyed n) (keyed (key x)) (apart h) l)
          (keep_given (keyed n) (others (key x))
          (λ y v. ap not (not_so (same (key y) (key x)) (λ u. never (same (key y) n) v (apart h y u))))
          (groups same key l) ∙ e)

  -- each element stands in one group
  pub groups_length : (l : List X) → length (groups same key l) ≡ length l
  groups_length [] = refl
  groups_length (x ∷ l) =
      let front = group_of same key (key x) l in
      let back = keep (others (key x)) (groups same key l) in
      let a : length (groups same key (x ∷ l)) ≡ suc (length (front ++ back)) = ap length (groups_cons x l) in
      let b : length (front ++ back) ≡ length front + length back = length-append front back in
      let d : length (group_of same key (key x) (groups same key l)) ≡ length front =
      ap length (groups_of (key x) l) in
      let e = keep_parts (keyed (key x)) (groups same key l) in
      let f = groups_length l in
      omega arith

  -- the groups stand in the order of firsts
  pub firsts_of_groups : (l : List X) → firsts_by same (map key (groups same key l)) ≡ firsts_by same (map key l)
  firsts_of_groups [] = refl
  firsts_of_groups (x ∷ l) =
      ap (λ (r : List X). firsts_by same (map key r)) (groups_cons x l)
      ∙ ap (λ (r : List A). k ∷ r)
      (sym (firsts_keep so other (λ a b h. ap not (other_same a b h))
      (map key (group_of same key k l ++ keep (others k) (groups same key l))))
      ∙ ap (firsts_by same)
      (keep_map key other (group_of same key k l ++ keep (others k) (groups same key l))
      ∙ ap (map key)
      (keep_append (λ (y : X). not (same k (key y))) (group_of same key k l) (keep (others k) (groups same key l))
      ∙ ap₂ (λ (r s : List X). r ++ s) none all)
      ∙ sym (keep_map key other (groups same key l)))
      ∙ firsts_keep so other (λ a b h. ap not (other_same a b h)) (map key (groups same key l))
      ∙ ap (keep other) (firsts_of_groups l))
    where
      k : A
      k = key x

      other : A → Bool
      other n = not (same (key x) n)

      other_same : (a b : A) → same a b ≡ true → same (key x) a ≡ same (key x) b
      other_same a b h = turned (key x) a ∙ same_as so a b h (key x) ∙ turned b (key x)

      none : keep (λ (y : X). not (same (key x) (key y))) (keep (keyed (key x)) l) ≡ []
      none =
          keep_against (λ (y : X). not (same (key x) (key y))) (keyed (key x))
          (λ y u. ap not (turned (key x) (key y) ∙ u)) l

      all : keep (λ (y : X). not (same (key x) (key y))) (keep (others (key x)) (groups same key l))
          ≡ keep (λ (y : X). not (same (key x) (key y))) (groups same key l)
      all =
          keep_given (λ (y : X). not (same (key x) (key y))) (others (key x))
          (λ y u. ap not (turned (key y) (key x)) ∙ u) (groups same key l)
