-- The test of the name area, as a loop makes it.
use Rattle.std.proofs.Math.Path.{◌≡◌, refl, ap}
use Rattle.std.proofs.Common.{sym, ap₂, ◌∙◌, add-one, arith, take-suc, get_or-take, get_or-drop, drop-cons}
use Rattle.std.specs.Prelude.{Option, Some, None, Bool, ◌&&◌, ◌||◌, List, [], ◌∷◌, ◌++◌, ℕ, suc, ◌+◌, ◌-◌, ◌≤◌, ◌<◌, length, get_or, take, drop}
use Rattle.std.proofs.Math.Bool.{true, false, and_assoc, and-true}
use Rattle.std.proofs.Math.Dec.{eqb, ltb}
use Rattle.std.proofs.Math.Seq.{slice, slice-cons, slice_empty}
use borrow.Author.Tests.{eqb-true, eq-eqb, ne_eqb, ltb-true, lt-ltb}
use Rattle.std.specs.Bool.{then_some}
use Rattle.std.specs.List.{fold}
use Rattle.lists.specs.Lists.{every, some, same_bytes}
use Rattle.lists.specs.Bools.{both, join, same_test, not_so}
use Rattle.lists.specs.Every.{every_append, every_one, every_gives, some_of}
use Rattle.lists.specs.Bytes.{same_bytes_eq}
use Rattle.lists.specs.Loops.{Any, any_found, any_goes_on, any_over}
use Rattle.lists.specs.Pick.{pick, chain_and}
use Rattle.kinds.specs.Limits.{name_area}
use Rattle.rules.specs.Names.{Resource, same_name}
use Rattle.laws.specs.SameNames.{name_eq, eq_name, same_itself}
use Rattle.namearea.specs.There.{front_at, all_below, below_out}
use Rattle.namearea.specs.Firsts.{is_in}
use Rattle.namearea.specs.Spelling.{spelt, size_of, name_at, whole, spelt_length, read_first}
use Rattle.namearea.specs.Scanning.{names_of, fits_at, new_at, scanned, fits_parts, fit_spelt, fit_whole, fit_size}

-- The names at two offsets.

-- names, compared as they are spelt
spelt_same : (x y : Resource) → whole x ≡ true → whole y ≡ true → same_bytes (spelt x) (spelt y) ≡ same_name x y
spelt_same x y h k =
    same_test (same_bytes (spelt x) (spelt y)) (same_name x y)
    (λ e. let p : spelt x ≡ spelt y = same_bytes_eq (spelt x) (spelt y) e in
    eq_name x y (sym (read_first x [] h) ∙ ap (λ (l : List ℕ). name_at (l ++ []) 0) p ∙ read_first y [] k))
    (λ e. ap (λ (z : Resource). same_bytes (spelt x) (spelt z)) (sym (name_eq x y e)) ∙ same_itself (spelt x))

-- bytes are not those in which a name is spelt where their length or the last of them tells it
pub not_spelt : (bytes : List ℕ) (o : ℕ) (name : List ℕ) → fits_at bytes o ≡ true
    → (get_or bytes (o + 8) 0 + 8 ≡ length name - 1
    → get_or bytes (o + (length name - 1)) 0 ≡ get_or name (length name - 1) 0 → ⊥)
    → same_bytes name (spelt (name_at bytes o)) ≡ false
not_spelt bytes o name h d =
    not_so (same_bytes name (spelt (name_at bytes o)))
    (λ e. let q : name ≡ spelt (name_at bytes o) = same_bytes_eq name (spelt (name_at bytes o)) e in
    let size : ℕ = get_or bytes (o + 8) 0 + 9 in
    let i : ℕ = length name - 1 in
    let l : length name ≡ size =
    ap length q ∙ spelt_length (name_at bytes o) (fit_whole bytes o h) ∙ fit_size bytes o h in
    d (omega arith)
    (sym (get_or-drop o bytes i 0) ∙ sym (get_or-take size (drop o bytes) i 0 (omega arith))
    ∙ ap (λ (r : List ℕ). get_or r i 0) (fit_spelt bytes o h ∙ sym q)))

-- a name is among those that offsets show where it is spelt as one of them
pub spelt_among : (bytes : List ℕ) (n : Resource) (os : List ℕ) → whole n ≡ true → every (fits_at bytes) os ≡ true
    → some (λ (o : ℕ). same_bytes (spelt n) (spelt (name_at bytes o))) os ≡ is_in n (names_of bytes os)
spelt_among bytes n [] h k = refl
spelt_among bytes n (o ∷ os) h k =
    let b = both (fits_at bytes o) (every (fits_at bytes) os) k in
    ap₂ (λ (s t : Bool). s || t) (spelt_same n (name_at bytes o) h (fit_whole bytes o b.0))
    (spelt_among bytes n os h b.1)

module _ (bytes : List ℕ) (a b : ℕ) (h : fits_at bytes a ≡ true) (k : fits_at bytes b ≡ true) where
  -- they are one where their bytes are
  pub same_there : same_bytes (take (get_or bytes (a + 8) 0 + 9) (drop a bytes))
      (take (get_or bytes (b + 8) 0 + 9) (drop b bytes)) ≡ same_name (name_at bytes a) (name_at bytes b)
  same_there =
      ap₂ (λ (x y : List ℕ). same_bytes x y) (fit_spelt bytes a h) (fit_spelt bytes b k)
      ∙ spelt_same (name_at bytes a) (name_at bytes b) (fit_whole bytes a h) (fit_whole bytes b k)

  byte_at : (o i : ℕ) → fits_at bytes o ≡ true → i < size_of (name_at bytes o)
      → get_or bytes (o + i) 0 ≡ get_or (spelt (name_at bytes o)) i 0
  byte_at o i f l =
      sym (get_or-drop o bytes i 0)
      ∙ sym (get_or-take (get_or bytes (o + 8) 0 + 9) (drop o bytes) i 0 (omega (arith, fit_size bytes o f)))
      ∙ ap (λ (r : List ℕ). get_or r i 0) (fit_spelt bytes o f)

  -- they are two where a byte differs
  byte_differs : (i : ℕ) → i < get_or bytes (a + 8) 0 + 9 → (get_or bytes (b + i) 0 ≡ get_or bytes (a + i) 0 → ⊥)
      → same_name (name_at bytes a) (name_at bytes b) ≡ false
  byte_differs i l d =
      not_so (same_name (name_at bytes a) (name_at bytes b))
      (λ e. let z : name_at bytes a ≡ name_at bytes b = name_eq (name_at bytes a) (name_at bytes b) e in
      d (byte_at b i k (omega (arith, fit_size bytes a h, ap size_of z))
      ∙ ap (λ (n : Resource). get_or (spelt n) i 0) (sym z)
      ∙ sym (byte_at a i h (omega (arith, fit_size bytes a h)))))

-- none of the offsets before place i shows the name at `at`
pub record Sought (ats : List ℕ) (n : ℕ) (bytes : List ℕ) (at i : ℕ) : Type 0 where
  pub within : i ≤ n
  pub few : n ≤ length ats
  pub room : length bytes ≤ name_area
  pub fit : fits_at bytes at ≡ true
  pub fits : every (fits_at bytes) (take n ats) ≡ true
  pub left : Any (λ (o : ℕ). same_name (name_at bytes at) (name_at bytes o)) ats i n

module _ {ats : List ℕ} {n : ℕ} {bytes : List ℕ} {at i : ℕ} (s : Sought ats n bytes at i) where
  shown : some (λ (o : ℕ). same_name (name_at bytes at) (name_at bytes o)) (take n ats)
      ≡ is_in (name_at bytes at) (names_of bytes (take n ats))
  shown = sym (some_of (name_at bytes) (same_name (name_at bytes at)) (take n ats))

  -- behind the last
  pub sought_over : i ≡ n → false ≡ is_in (name_at bytes at) (names_of bytes (take n ats))
  sought_over e = any_over s.left e ∙ shown

  -- the next, which may be the name
  module _ (here : i < n) where
    -- it lies within the bytes
    pub sought_fit : fits_at bytes (get_or ats i 0) ≡ true
    sought_fit = front_at (fits_at bytes) ats n i 0 s.fits here s.few

    module _ {b : Bool} (t : b ≡ same_name (name_at bytes at) (name_at bytes (get_or ats i 0))) where
      -- it is the name
      pub sought_found : b ≡ true → true ≡ is_in (name_at bytes at) (names_of bytes (take n ats))
      sought_found e = any_found s.left here s.few 0 t e ∙ shown

      -- it is another
      pub sought_goes : b ≡ false → Sought ats n bytes at (i + 1)
      sought_goes e = record {
        within = omega arith;
        few = s.few;
        room = s.room;
        fit = s.fit;
        fits = s.fits;
        left = any_goes_on s.left here s.few 0 t e;
      }

    -- a byte tells that it is another
    pub sought_differs : (j : ℕ) → j < get_or bytes (at + 8) 0 + 9
        → (get_or bytes (get_or ats i 0 + j) 0 ≡ get_or bytes (at + j) 0 → ⊥) → Sought ats n bytes at (i + 1)
    sought_differs j l d = sought_goes refl (byte_differs bytes at (get_or ats i 0) s.fit sought_fit j l d)

-- One entry.

-- where the names end, after one entry more
unfoldable pub next_end : List ℕ → List ℕ → ℕ → ℕ → Option ℕ
next_end bytes before at o =
    pick (some (eqb o) before) (Some at)
    (pick (new_at bytes before at o) (Some (at + (get_or bytes (at + 8) 0 + 9))) None)

-- the rest of the test from there
abbrev pub scan_from : Option ℕ → List ℕ → List ℕ → List ℕ → Bool
scan_from (Some at) bytes before os = scanned bytes before at os
scan_from None bytes before os = false

-- the test of some entries is that of the first, and then of the rest
pub scan_step : (bytes before : List ℕ) (at o : ℕ) (os : List ℕ)
    → scanned bytes before at (o ∷ os) ≡ scan_from (next_end bytes before at o) bytes (before ++ (o ∷ [])) os
unfolding scanned next_end pick
scan_step bytes before at o os = one (some (eqb o) before) (new_at bytes before at o)
  where
    t : List ℕ
    t = before ++ (o ∷ [])

    e : ℕ
    e = at + (get_or bytes (at + 8) 0 + 9)

    one : (a b : Bool) → pick a (scanned bytes t at os) (pick b (scanned bytes t e os) false)
        ≡ scan_from (pick a (Some at) (pick b (Some e) None)) bytes t os
    one true b = refl
    one false true = refl
    one false false = refl

-- the entries so far show names that lie within the bytes, and stand below `at`
pub record Walked (bytes before : List ℕ) (at : ℕ) : Type 0 where
  pub room : at ≤ length bytes
  pub fit : every (fits_at bytes) before ≡ true
  pub low : all_below at before ≡ true

module _ {bytes before : List ℕ} {at : ℕ} (w : Walked bytes before at) (o : ℕ) where
  -- an offset that an earlier entry has
  pub next_seen : some (eqb o) before ≡ true → Some at ≡ next_end bytes before at o
  unfolding next_end pick
  next_seen h = rw h

  -- an offset that no earlier entry has, and that is not at the end
  pub next_other : some (eqb o) before ≡ false → (o ≡ at → ⊥) → None ≡ next_end bytes before at o
  unfolding next_end new_at pick
  next_other h d = rw (h, ne_eqb o at d)

  -- an offset that is not at the end
  pub next_apart : (o ≡ at → ⊥) → then_some (some (eqb o) before) at ≡ next_end bytes before at o
  next_apart d = one (some (eqb o) before) refl
    where
      one : (b : Bool) → some (eqb o) before ≡ b → then_some b at ≡ next_end bytes before at o
      one true h = next_seen h
      one false h = next_other h d

  module _ (e : o ≡ at) where
    unseen : some (eqb o) before ≡ false
    unseen = ap (λ (x : ℕ). some (eqb x) before) e ∙ below_out at before w.low

    -- an offset at the end, where no name lies
    pub next_out : fits_at bytes at ≡ false → None ≡ next_end bytes before at o
    unfolding next_end new_at pick
    next_out f = rw (unseen, eq-eqb o at e, f)

    -- or one that an earlier entry shows
    pub next_named : fits_at bytes at ≡ true → is_in (name_at bytes at) (names_of bytes before) ≡ true
        → None ≡ next_end bytes before at o
    unfolding next_end new_at pick
    next_named f n = rw (unseen, eq-eqb o at e, f, n)

    -- or a new one
    pub next_new : fits_at bytes at ≡ true → is_in (name_at bytes at) (names_of bytes before) ≡ false
        → Some (at + (get_or bytes (at + 8) 0 + 9)) ≡ next_end bytes before at o
    unfolding next_end new_at pick
    next_new f n = rw (unseen, eq-eqb o at e, f, n)

  walked_more : (e : ℕ) → at ≤ e → e ≤ length bytes → fits_at bytes o ≡ true → o < e
      → Walked bytes (before ++ (o ∷ [])) e
  walked_more e g r f l = record {
    room = r;
    fit = rw (every_append (fits_at bytes) before (o ∷ []), w.fit, f);
    low = rw (every_append (λ (x : ℕ). ltb x e) before (o ∷ []), lt-ltb o e l)
        (join (all_below e before) true
        (every_gives (λ (x : ℕ). ltb x at) (λ (x : ℕ). ltb x e)
        (λ x h. let z = ltb-true x at h in lt-ltb x e (omega arith)) before w.low) refl);
  }

  -- where it goes on, the same holds with the entry
  pub next_walked : (e : ℕ) → Some e ≡ next_end bytes before at o → Walked bytes (before ++ (o ∷ [])) e
  unfolding next_end new_at pick
  next_walked e h = one (some (eqb o) before) (new_at bytes before at o) refl refl h
    where
      one : (a b : Bool) → some (eqb o) before ≡ a → new_at bytes before at o ≡ b
          → Some e ≡ pick a (Some at) (pick b (Some (at + (get_or bytes (at + 8) 0 + 9))) None)
          → Walked bytes (before ++ (o ∷ [])) e
      one true b x y z =
          let g : e ≡ at = cc in
          let l = ltb-true o at (every_one eqb eqb-true (λ (n : ℕ). ltb n at) before o w.low x) in
          walked_more e (omega arith) (omega (arith, w.room))
          (every_one eqb eqb-true (fits_at bytes) before o w.fit x) (omega arith)
      one false true x y z =
          let a = chain_and (eqb o at) _ y in
          let f = (chain_and (fits_at bytes at) _ a.1).0 in
          let i : o ≡ at = eqb-true o at a.0 in
          let g : e ≡ at + (get_or bytes (at + 8) 0 + 9) = cc in
          let p = fits_parts bytes at f in
          walked_more e (omega arith) (omega arith) (ap (fits_at bytes) i ∙ f) (omega arith)
      one false false x y z = let n : ◌≡◌ {A = ℕ} 0 1 = cc in absurd (omega arith)

-- One turn of the loop over the first n offsets.

-- the entries before i are passed, and the test is that of the rest
pub record Turn (bytes os : List ℕ) (n i at : ℕ) : Type 0 where
  pub within : i ≤ n
  pub few : n ≤ length os
  pub walked : Walked bytes (take i os) at
  pub left : scanned bytes [] 0 (take n os) ≡ scanned bytes (take i os) at (slice i n os)

-- at the start
pub turn_first : {bytes os : List ℕ} {n : ℕ} → n ≤ length os → Turn bytes os n 0 0
turn_first h = record {
  within = omega arith;
  few = h;
  walked = record { room = omega arith; fit = refl; low = refl };
  left = refl;
}

module _ {bytes os : List ℕ} {n i at : ℕ} (t : Turn bytes os n i at) where
  -- with what the next entry gives
  module _ (h : i < n) (r : Option ℕ) (g : r ≡ next_end bytes (take i os) at (get_or os i 0)) where
    taken : take (i + 1) os ≡ take i os ++ (get_or os i 0 ∷ [])
    taken = rw (add-one) (take-suc os i 0 (omega (arith, t.few)))

    goes : scanned bytes [] 0 (take n os) ≡ scan_from r bytes (take (i + 1) os) (slice (i + 1) n os)
    goes =
        t.left ∙ ap (scanned bytes (take i os) at) (slice-cons i n os 0 h t.few)
        ∙ scan_step bytes (take i os) at (get_or os i 0) (slice (suc i) n os)
        ∙ rw (taken, add-one, g)

    -- an entry that fails
    pub turn_ends : r ≡ None → false ≡ scanned bytes [] 0 (take n os)
    turn_ends e = sym (rw e at goes)

    -- an entry that passes
    pub turn_goes : (e : ℕ) → r ≡ Some e → Turn bytes os n (i + 1) e
    turn_goes e f = record {
      within = omega arith;
      few = t.few;
      walked = rw taken (next_walked t.walked (get_or os i 0) e (sym f ∙ g));
      left = rw f at goes;
    }

  -- behind the last entry
  pub turn_over : i ≡ n → scanned bytes [] 0 (take n os) ≡ every (eqb 0) (drop at bytes)
  unfolding scanned
  turn_over e =
      t.left ∙ ap (λ (j : ℕ). scanned bytes (take j os) at (slice j n os)) e
      ∙ ap (scanned bytes (take n os) at) (slice_empty n os)

-- The bytes behind the names: what is known of those before, and the test of each of the rest.
pub fold_every : (f : ℕ → Bool) (b : Bool) (l : List ℕ) → fold (λ (a : Bool) (x : ℕ). a && f x) b l ≡ (b && every f l)
fold_every f b [] = sym (and-true b)
fold_every f b (x ∷ l) = fold_every f (b && f x) l ∙ and_assoc b (f x) (every f l)

-- one more is looked at
pub zero_more : (f : ℕ → Bool) (l : List ℕ) (i : ℕ) (b : Bool) → i < length l
    → (b && every f (drop i l)) ≡ ((b && f (get_or l i 0)) && every f (drop (i + 1) l))
zero_more f l i b h =
    rw (add-one, drop-cons l i 0 h) (sym (and_assoc b (f (get_or l i 0)) (every f (drop (suc i) l))))
