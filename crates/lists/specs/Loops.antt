-- Loops that look at the first n of an array until one decides: the answer is that of what is left, from place i on.
-- The records' types tell the test, the array and the places, so that a proof cites the invariant and no more.
use Rattle.std.specs.Prelude.{◌≡◌, refl, Bool, true, false, not, cond, ◌&&◌, ◌||◌, List, ◌∷◌, map, ℕ, ◌+◌, ◌≤◌, ◌<◌, ltb, length, get_or, take}
use Rattle.std.proofs.Common.{sym, ap, ◌∙◌, arith, ltb-true, ltb-false}
use Rattle.std.proofs.Math.Bool.{and-true}
use Rattle.std.proofs.lemmas.Bool.{false≢true, not-true, not-false}
use Rattle.std.proofs.Math.Seq.{slice}
use Rattle.lists.specs.Bools.{and_left, and_right}
use Rattle.lists.specs.Lists.{every, some, unskipped}
use Rattle.lists.specs.Every.{every_fails, every_goes, every_end, every_of, some_of, some_here, some_later}
use Rattle.lists.specs.Every.{some_end, slice_next}
use Rattle.lists.specs.Keeping.{take_map}
use Rattle.lists.specs.Skipping.{left_from, left_next, left_over}

-- a loop to n that goes on is below n
pub goes_on : (j n : ℕ) (b : Bool) → (ltb j n && b) ≡ true → j < n
goes_on j n b h = ltb-true j n (and_left (ltb j n) b h)

-- and one that has ended, though it might go on, is at n
pub run_out : (j n : ℕ) (b : Bool) → j ≤ n → b ≡ true → (ltb j n && b) ≡ false → j ≡ n
run_out j n true h g k = let m : n ≤ j = ltb-false j n (sym (and-true (ltb j n)) ∙ k) in omega arith
run_out j n false h g k = absurd (false≢true g)

-- all pass
pub record All {A : Type 0} (f : A → Bool) (l : List A) (i n : ℕ) : Type 0 where
  pub left : every f (take n l) ≡ every f (slice i n l)

pub all_start : {A : Type 0} {f : A → Bool} {l : List A} {n : ℕ} → All f l 0 n
all_start = record { left = refl }

module _ {A : Type 0} {f : A → Bool} {l : List A} {i n : ℕ} (v : All f l i n) where
  pub all_over : i ≡ n → true ≡ every f (take n l)
  all_over e = sym (v.left ∙ every_end f i n l e)

  -- the element at place i, whose test came out as b
  module _ (h : i < n) (k : n ≤ length l) (d : A) {b : Bool} (t : b ≡ f (get_or l i d)) where
    pub all_stops : not b ≡ true → false ≡ every f (take n l)
    all_stops e = sym (v.left ∙ every_fails f i n l d h k (sym t ∙ not-true b e))

    pub all_goes_on : not b ≡ false → All f l (i + 1) n
    all_goes_on e = record { left = v.left ∙ every_goes f i n l d h k (sym t ∙ not-false b e) }

-- all pass, in a loop that keeps in `yet` whether those looked at did
pub record AllYet {A : Type 0} (f : A → Bool) (l : List A) (yet : Bool) (i n : ℕ) : Type 0 where
  pub left : every f (take n l) ≡ (yet && every f (slice i n l))

pub yet_start : {A : Type 0} {f : A → Bool} {l : List A} {n : ℕ} → AllYet f l true 0 n
yet_start = record { left = refl }

module _ {A : Type 0} {f : A → Bool} {l : List A} {yet : Bool} {i n : ℕ} (v : AllYet f l yet i n) where
  pub yet_more : (ltb i n && yet) ≡ true → i < n
  yet_more = goes_on i n yet

  -- the element at place i, whose test came out as now
  pub yet_on : n ≤ length l → (d : A) (now : Bool) → (ltb i n && yet) ≡ true → now ≡ f (get_or l i d)
      → AllYet f l now (i + 1) n
  yet_on k d now h t = record {
    left = v.left ∙ rw (and_right (ltb i n) yet h, t) (ap (every f) (slice_next i n l d (yet_more h) k));
  }

  pub yet_over : i ≤ n → (ltb i n && yet) ≡ false → yet ≡ true → every f (take n l) ≡ true
  yet_over p h e = v.left ∙ rw e (every_end f i n l (run_out i n yet p e h))

  pub yet_failed : yet ≡ false → every f (take n l) ≡ false
  yet_failed e = v.left ∙ rw e

-- all that the first n of an array show pass
pub all_shown : {A B : Type 0} (view : A → B) (f : B → Bool) (n : ℕ) (l : List A)
    → every (λ (x : A). f (view x)) (take n l) ≡ every f (take n (map view l))
all_shown view f n l = sym (ap (every f) (take_map view n l) ∙ every_of view f (take n l))

-- all pass but those that are skipped
pub record AllBut {A : Type 0} (f : A → Bool) (skip : List Bool) (l : List A) (i n : ℕ) : Type 0 where
  pub left : every f (unskipped skip (take n l)) ≡ every f (left_from skip l i n)

pub but_start : {A : Type 0} {f : A → Bool} {skip : List Bool} {l : List A} {n : ℕ} → AllBut f skip l 0 n
but_start = record { left = refl }

module _ {A : Type 0} {f : A → Bool} {skip : List Bool} {l : List A} {i n : ℕ} (v : AllBut f skip l i n) where
  pub but_over : i ≡ n → true ≡ every f (unskipped skip (take n l))
  but_over e = sym (v.left ∙ ap (every f) (left_over skip l i n e))

  -- the element at place i, of which b tells that it is skipped or passes
  module _ (h : i < n) (k : n ≤ length l) (j : i < length skip) (d : A) (s : Bool) {b : Bool}
      (t : b ≡ (get_or skip i s || f (get_or l i d))) where
    looked : every f (left_from skip l i n) ≡ (b && every f (left_from skip l (i + 1) n))
    looked =
        ap (every f) (left_next skip l i n d s h k j)
        ∙ one (get_or skip i s) (get_or l i d) (left_from skip l (i + 1) n)
        ∙ ap (λ (a : Bool). a && every f (left_from skip l (i + 1) n)) (sym t)
      where
        one : (a : Bool) (x : A) (r : List A) → every f (cond a r (x ∷ r)) ≡ ((a || f x) && every f r)
        one true x r = refl
        one false x r = refl

    pub but_stops : not b ≡ true → false ≡ every f (unskipped skip (take n l))
    but_stops e = sym (v.left ∙ looked ∙ rw (not-true b e))

    pub but_goes_on : not b ≡ false → AllBut f skip l (i + 1) n
    but_goes_on e = record { left = v.left ∙ looked ∙ rw (not-false b e) }

-- some passes
pub record Any {A : Type 0} (f : A → Bool) (l : List A) (i n : ℕ) : Type 0 where
  pub left : some f (take n l) ≡ some f (slice i n l)

pub any_start : {A : Type 0} {f : A → Bool} {l : List A} {n : ℕ} → Any f l 0 n
any_start = record { left = refl }

module _ {A : Type 0} {f : A → Bool} {l : List A} {i n : ℕ} (v : Any f l i n) where
  pub any_over : i ≡ n → false ≡ some f (take n l)
  any_over e = sym (v.left ∙ some_end f i n l e)

  module _ (h : i < n) (k : n ≤ length l) (d : A) {b : Bool} (t : b ≡ f (get_or l i d)) where
    pub any_found : b ≡ true → true ≡ some f (take n l)
    any_found e = sym (v.left ∙ some_here f i n l d h k (sym t ∙ e))

    pub any_goes_on : b ≡ false → Any f l (i + 1) n
    any_goes_on e = record { left = v.left ∙ some_later f i n l d h k (sym t ∙ e) }

-- some that the first n of an array show passes
pub any_shown : {A B : Type 0} (view : A → B) (f : B → Bool) (n : ℕ) (l : List A)
    → some (λ (x : A). f (view x)) (take n l) ≡ some f (take n (map view l))
any_shown view f n l = sym (ap (some f) (take_map view n l) ∙ some_of view f (take n l))
