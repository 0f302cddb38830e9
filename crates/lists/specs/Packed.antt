-- Packed tables, for any row, view, zero row and size. A table is a struct of an array and a count: it stands for the
-- list that its first rows show, and keeps a list as rows with zero rows behind them. A crate with such a struct gives
-- its `Table`, and cites these laws at it.
use Rattle.std.specs.Prelude.{◌≡◌, refl, Bool, true, false, not, ◌&&◌, ℕ, ◌+◌, ◌-◌, ◌≤◌, ◌<◌, eqb, get_or, take, set}
use Rattle.std.proofs.Math.Path.{sym, ap, ap₂}
use Rattle.std.proofs.Common.{◌∙◌, arith, length-take, length-drop, length-take-le, eqb-true, eq-eqb}
use mathlib.Core.List.{List, [], ◌∷◌, ◌++◌, map, map-append, append-nil}
use Rattle.std.proofs.Math.ListN.{length, drop, replicate}
use Rattle.std.proofs.lemmas.List.{length-map}
use Rattle.std.proofs.lemmas.Bool.{not-true, not-false}
use Rattle.lists.specs.Lists.{every, keep}
use Rattle.lists.specs.Bools.{both, join}
use Rattle.lists.specs.Every.{rest_fails, rest_goes, rest_end}
use Rattle.lists.specs.Keeping.{keep_next, length_keep, take_map}
use Rattle.lists.specs.Tables.{padded, padded_length, padded_take, padded_drop, padded_eq, zeros_eq}
use Rattle.lists.specs.Tables.{every_replicate, push, one_longer, views_back}

-- what rows show, and the rows that keep it
pub record View (A B : Type 0) : Type 0 where
  pub shows : List A → List B
  pub rows : List B → List A
  pub again : (l : List B) → shows (rows l) ≡ l
  pub long : (l : List A) → length (shows l) ≡ length l
  pub front : (n : ℕ) (l : List A) → take n (shows l) ≡ shows (take n l)
  pub joined : (l m : List B) → rows (l ++ m) ≡ rows l ++ rows m

-- each row shows itself
abbrev pub plain : {A : Type 0} → View A A
plain = record {
  shows = λ l. l;
  rows = λ l. l;
  again = λ l. refl;
  long = λ l. refl;
  front = λ n l. refl;
  joined = λ l m. refl;
}

-- each row shows something else, by itself
abbrev pub seen : {A B : Type 0} (view : A → B) (back : B → A) → ((b : B) → view (back b) ≡ b) → View A B
seen view back h = record {
  shows = map view;
  rows = map back;
  again = views_back view back h;
  long = λ l. length-map l view;
  front = take_map view;
  joined = map-append back;
}

pub record Table (T A B : Type 0) : Type 0 where
  pub array : T → List A
  pub count : T → ℕ
  pub make : List A → ℕ → T
  pub array_made : (l : List A) (n : ℕ) → array (make l n) ≡ l
  pub count_made : (l : List A) (n : ℕ) → count (make l n) ≡ n
  pub whole : (t : T) → make (array t) (count t) ≡ t
  pub size : ℕ
  pub zero : A
  pub view : View A B

module _ {T A B : Type 0} (k : Table T A B) where
  open k use {array, count, make, array_made, count_made, whole, size, zero, view}
  open view use {shows, rows, again, long, front, joined}

  abbrev pub rows_of : List A → T
  rows_of l = make (padded size zero l) (length l)

  -- the list that a table stands for, and the table that keeps a list
  abbrev pub live : T → List B
  live t = take (count t) (shows (array t))

  abbrev pub stored : List B → T
  stored l = rows_of (rows l)

  -- one row more, at the place after the last
  abbrev pub appended : T → A → T
  appended t a = make (set (array t) (count t) a) (count t + 1)

  -- of rows: their number, their array, and one more
  pub rows_count : (l : List A) (t : T) → t ≡ rows_of l → count t ≡ length l
  rows_count l t e = ap count e ∙ count_made _ _

  rows_array : (l : List A) (t : T) → t ≡ rows_of l → array t ≡ padded size zero l
  rows_array l t e = ap array e ∙ array_made _ _

  pub rows_full : (l : List A) (t : T) → t ≡ rows_of l → length l ≤ size → length (array t) ≡ size
  rows_full l t e h = ap length (rows_array l t e) ∙ padded_length size zero l h

  pub append_row : (l : List A) (a : A) (s t : T) → length l < size → t ≡ rows_of l → s ≡ appended t a
      → s ≡ rows_of (l ++ (a ∷ []))
  append_row l a s t h e f =
      f ∙ ap₂ (λ (es : List A) (n : ℕ). make (set es n a) (n + 1)) (rows_array l t e) (rows_count l t e)
      ∙ ap₂ make (push size zero l a h) (one_longer size zero l a)

  -- whatever list is kept shows again
  rows_length : (l : List B) → length (rows l) ≡ length l
  rows_length l = sym (long (rows l)) ∙ ap length (again l)

  pub live_stored : (l : List B) → live (stored l) ≡ l
  live_stored l =
      ap₂ (λ (n : ℕ) (es : List A). take n (shows es)) (count_made _ _) (array_made _ _)
      ∙ front (length (rows l)) (padded size zero (rows l))
      ∙ ap shows (padded_take size zero (rows l))
      ∙ again l

  pub stored_form : (l : List B) (t : T) → t ≡ stored l → t ≡ stored (live t)
  stored_form l t e = e ∙ ap stored (sym (live_stored l)) ∙ ap (λ (s : T). stored (live s)) (sym e)

  pub stored_count : (l : List B) (t : T) → t ≡ stored l → count t ≡ length l
  stored_count l t e = rows_count (rows l) t e ∙ rows_length l

  -- an array bounds its list, which is as long as the count says where that is within the array
  module _ (t : T) (n : length (array t) ≡ size) where
    pub live_few : length (live t) ≤ size
    live_few = omega (arith, length-take (count t) (shows (array t)), long (array t))

    pub live_count : count t ≤ size → length (live t) ≡ count t
    live_count h = length-take-le (count t) (shows (array t)) (rw (long (array t), n) h)

  -- a table that keeps its list: its rows are the list's
  module _ (t : T) (form : t ≡ stored (live t)) where
    pub rows_live : take (count t) (array t) ≡ rows (live t)
    rows_live =
        ap₂ (λ (n : ℕ) (es : List A). take n es) (rows_count (rows (live t)) t form) (rows_array (rows (live t)) t form)
        ∙ padded_take size zero (rows (live t))

    -- the rows changed in place
    pub changed : (g : List A → List A) (l : List B) (r : T) → g (rows (live t)) ≡ rows l → length l ≡ length (live t)
        → array r ≡ g (take (count t) (array t)) ++ drop (count t) (array t) → count r ≡ count t → r ≡ stored l
    unfolding padded
    changed g l r h same e c =
        let m : length (rows (live t)) ≡ length (rows l) = rows_length (live t) ∙ sym (rows_length l ∙ same) in
        let b : drop (count t) (array t) ≡ replicate (size - length (rows (live t))) zero =
        ap₂ (λ (n : ℕ) (es : List A). drop n es) (rows_count (rows (live t)) t form) (rows_array (rows (live t)) t form)
        ∙ padded_drop size zero (rows (live t)) in
        sym (whole r)
        ∙ ap₂ make
        (e ∙ ap₂ (λ (u v : List A). u ++ v) (ap g rows_live ∙ h) (b ∙ ap (λ (n : ℕ). replicate (size - n) zero) m))
        (c ∙ rows_count (rows (live t)) t form ∙ m)

  -- the test of it: no row in use past the size, zero rows behind those in use
  module _ (is_zero : A → Bool) where
    abbrev pub rest : T → Bool
    rest t = eqb (length (array t)) size && every is_zero (drop (count t) (array t))

    pub passed_form : ((a : A) → is_zero a ≡ true → a ≡ zero) → (t : T) → count t ≤ size → rest t ≡ true
        → rows (shows (take (count t) (array t))) ≡ take (count t) (array t) → t ≡ stored (live t)
    passed_form zero_eq t h r fine =
        let b = both (eqb (length (array t)) size) _ r in
        let n : length (array t) ≡ size = eqb-true (length (array t)) size b.0 in
        let m : length (drop (count t) (array t)) ≡ size - count t = omega (arith, length-drop (count t) (array t)) in
        let z = zeros_eq size zero is_zero zero_eq _ b.1 ∙ ap (λ (j : ℕ). replicate j zero) m in
        let v : rows (live t) ≡ take (count t) (array t) = ap rows (front (count t) (array t)) ∙ fine in
        sym
        (ap₂ make (ap (padded size zero) v ∙ padded_eq size zero (array t) (count t) n h z)
        (ap length v ∙ length-take-le (count t) (array t) (omega arith))
        ∙ whole t)

    pub rest_passes : is_zero zero ≡ true → (l : List A) → length l ≤ size → rest (rows_of l) ≡ true
    rest_passes z l h =
        join (eqb (length (array (rows_of l))) size) _ (eq-eqb _ _ (rows_full l (rows_of l) refl h))
        (ap₂ (λ (n : ℕ) (es : List A). every is_zero (drop n es)) (count_made _ _) (array_made _ _)
        ∙ ap (every is_zero) (padded_drop size zero l)
        ∙ every_replicate is_zero zero (size - length l) z)

  -- a loop that looks at the places behind the rows in use: the answer is that of the places from i on
  pub record Behind (is_zero : A → Bool) (t : T) (i : ℕ) : Type 0 where
    pub wide : length (array t) ≡ size
    pub left : every is_zero (drop (count t) (array t)) ≡ every is_zero (drop i (array t))

  pub behind_start : {is_zero : A → Bool} {t : T} → length (array t) ≡ size → Behind is_zero t (count t)
  behind_start n = record { wide = n; left = refl }

  module _ {is_zero : A → Bool} {t : T} {i : ℕ} (v : Behind is_zero t i) where
    told : (b : Bool) → every is_zero (drop i (array t)) ≡ b → b ≡ rest is_zero t
    told b e = sym (rw (eq-eqb _ size v.wide) (v.left ∙ e))

    pub behind_over : size ≤ i → true ≡ rest is_zero t
    behind_over h = told true (rest_end is_zero (array t) i (rw v.wide h))

    -- the place i, whose test came out as b
    module _ (h : i < size) (d : A) {b : Bool} (is : b ≡ is_zero (get_or (array t) i d)) where
      pub behind_stops : not b ≡ true → false ≡ rest is_zero t
      behind_stops e = told false (rest_fails is_zero (array t) i d (rw v.wide h) (sym is ∙ not-true b e))

      pub behind_goes_on : not b ≡ false → Behind is_zero t (i + 1)
      behind_goes_on e = record {
        wide = v.wide;
        left = v.left ∙ rest_goes is_zero (array t) i d (rw v.wide h) (sym is ∙ not-false b e);
      }

  -- a loop that copies the rows that pass a test into a fresh table, over the first i rows of an array
  module _ (f : A → Bool) (l : List A) (i : ℕ) (here : i < length l) (few : i < size) (r : T)
      (so_far : r ≡ rows_of (keep f (take i l))) where
    few_kept : length (keep f (take i l)) < size
    few_kept = omega (arith, length_keep f (take i l), length-take i l)

    pub room : count r < size
    room = omega (arith, rows_count (keep f (take i l)) r so_far, few_kept)

    pub full : length (array r) ≡ size
    full = rows_full (keep f (take i l)) r so_far (omega (arith, few_kept))

    pub kept : (d : A) (s : T) → f (get_or l i d) ≡ true → s ≡ appended r (get_or l i d)
        → s ≡ rows_of (keep f (take (i + 1) l))
    kept d s t e =
        append_row (keep f (take i l)) (get_or l i d) s r few_kept so_far e
        ∙ ap rows_of (sym (keep_next f i l d true here t))

    pub passed : (d : A) (s : T) → f (get_or l i d) ≡ false → s ≡ r → s ≡ rows_of (keep f (take (i + 1) l))
    passed d s t e = e ∙ so_far ∙ ap rows_of (sym (keep_next f i l d false here t ∙ append-nil (keep f (take i l))))

  -- the same as a loop's invariant: with what is stored so far, that there is room for one row more
  pub record Swept (f : A → Bool) (l : List A) (i : ℕ) (r : T) : Type 0 where
    pub so_far : r ≡ rows_of (keep f (take i l))
    pub few : count r ≤ i
    pub all : length (array r) ≡ size

  module _ {f : A → Bool} {l : List A} where
    swept : (i : ℕ) (r : T) → i ≤ size → r ≡ rows_of (keep f (take i l)) → Swept f l i r
    swept i r h e =
        let m : length (keep f (take i l)) ≤ i = omega (arith, length_keep f (take i l), length-take i l) in
        let n = rows_count (keep f (take i l)) r e in
        record { so_far = e; few = omega arith; all = rows_full _ r e (omega arith) }

    pub swept_start : {r : T} → r ≡ rows_of [] → Swept f l 0 r
    swept_start {r} e = swept 0 r (omega arith) e

    module _ {i : ℕ} {r : T} (v : Swept f l i r) (here : i < length l) (few : i < size) where
      pub swept_kept : (d : A) {s : T} → f (get_or l i d) ≡ true → s ≡ appended r (get_or l i d) → Swept f l (i + 1) s
      swept_kept d {s} t e = swept (i + 1) s (omega arith) (kept f l i here few r v.so_far d s t e)

      pub swept_passed : (d : A) {s : T} → f (get_or l i d) ≡ false → s ≡ r → Swept f l (i + 1) s
      swept_passed d {s} t e = swept (i + 1) s (omega arith) (passed f l i here few r v.so_far d s t e)
