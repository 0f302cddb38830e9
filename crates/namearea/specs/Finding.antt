-- Where a name stands among those in use: what the offsets tell of it, entry by entry.
use Rattle.std.specs.Prelude.{◌≡◌, refl, Bool, true, false, ◌&&◌, ◌||◌, ℕ, suc, ◌+◌, ◌≤◌, ◌<◌, take}
use Rattle.std.proofs.Math.Path.{sym, ap, ap₂}
use Rattle.std.proofs.Common.{◌∙◌, eqb-true, take_at, drop_at, drop-drop, add-one, arith, get_or-take, take-suc, take-take}
use Rattle.std.proofs.Math.Bool.{and-true, and-false, or-true}
use mathlib.Core.List.{List, [], ◌∷◌, ◌++◌, map-append}
use Rattle.std.proofs.Math.ListN.{length, get_or, drop, length-drop}
use Rattle.std.proofs.lemmas.List.{length-map}
use Rattle.std.proofs.Math.Seq.{length-take-le, split_at}
use Rattle.lists.specs.Lists.{same_bytes}
use Rattle.lists.specs.Bools.{not_so, never}
use Rattle.lists.specs.Bytes.{same_lengths}
use Rattle.lists.specs.Every.{some_append}
use Rattle.lists.specs.Filling.{map_at}
use Rattle.kinds.specs.declared.names.Name.{Name}
use Rattle.rules.specs.Names.{Resource, same_name, firsts}
use Rattle.laws.specs.SameNames.{name_eq, eq_name, name_sym}
use Rattle.names.specs.Named.{resource_of}
use Rattle.names.proofs.Shown.{shown_within}
use Rattle.namearea.specs.There.{front_at}
use Rattle.namearea.specs.Firsts.{is_in}
use Rattle.namearea.specs.Spelling.{spelt, size_of, needed, offset_in, name_at}
use Rattle.namearea.specs.Offsets.{offset_longer, offset_inside, offset_out, offset_next, end_seen, end_new}
use Rattle.namearea.specs.Scanning.{names_of, fits_at, fits_parts, fit_whole, fit_size}
use Rattle.namearea.specs.Pointing.{InUse, shown_by, name_of}

-- The name at an offset, and one whose parts are given
module _ (bytes : List ℕ) (at : ℕ) (major minor : List ℕ) (size : ℕ) where
  -- a length byte that is not its length tells that it is another
  pub shows_longer : fits_at bytes at ≡ true → size ≤ length minor → (get_or bytes (at + 8) 0 ≡ size → ⊥)
      → false ≡ same_name (name_at bytes at) (name_of major minor size)
  unfolding name_at
  shows_longer h k d =
      let p = fits_parts bytes at h in
      let m = get_or bytes (at + 8) 0 in
      let a : length (take m (drop (at + 9) bytes)) ≡ m =
      length-take-le m (drop (at + 9) bytes) (omega (arith, length-drop (at + 9) bytes)) in
      let b : length (take size minor) ≡ size = length-take-le size minor k in
      sym (ap (λ (t : Bool). same_bytes (take 8 (drop at bytes)) major && t)
      (same_lengths (take m (drop (at + 9) bytes)) (take size minor) (λ e. d (sym a ∙ e ∙ b)))
      ∙ and-false (same_bytes (take 8 (drop at bytes)) major))

  -- the parts are compared in the bytes in which the name is spelt
  pub shows_parts : fits_at bytes at ≡ true → (there : List ℕ) → there ≡ spelt (name_at bytes at)
      → same_name (name_at bytes at) (name_of major minor size)
      ≡ (same_bytes (take 8 there) major && same_bytes (drop 9 there) (take size minor))
  shows_parts h there e =
      let n = name_at bytes at in
      let long : length n.major ≡ 8 = eqb-true (length n.major) 8 (fit_whole bytes at h) in
      let back : List ℕ = length n.minor ∷ n.minor in
      let a : take 8 there ≡ n.major = ap (take 8) e ∙ take_at n.major back 8 long in
      let b : drop 9 there ≡ n.minor =
      ap (drop 9) e ∙ sym (drop-drop 1 8 (n.major ++ back)) ∙ ap (drop 1) (drop_at n.major back 8 long) in
      sym (ap₂ (λ (x y : List ℕ). same_bytes x major && same_bytes y (take size minor)) a b)

  -- of one length: the comparison of the minor parts, then that of the major parts
  module _ (k : ℕ) (b : Bool) (e : get_or bytes (at + 8) 0 ≡ size) (f : k ≡ size)
      (q : b ≡ same_bytes (take k (drop (at + 9) bytes)) (take size minor)) where
    minors : b ≡ same_bytes (name_at bytes at).minor (take size minor)
    unfolding name_at
    minors = q ∙ ap (λ (n : ℕ). same_bytes (take n (drop (at + 9) bytes)) (take size minor)) (f ∙ sym e)

    -- minor parts that differ tell that it is another
    pub shows_other : b ≡ false → false ≡ same_name (name_at bytes at) (name_of major minor size)
    shows_other h =
        sym (and-false (same_bytes (name_at bytes at).major major))
        ∙ ap (λ (t : Bool). same_bytes (name_at bytes at).major major && t) (sym h ∙ minors)

    -- of one minor part, the major parts tell
    pub shows_major : (j : ℕ) (a : Bool) → j ≡ 8 → a ≡ same_bytes (take j (drop at bytes)) major → b ≡ true
        → a ≡ same_name (name_at bytes at) (name_of major minor size)
    unfolding name_at
    shows_major j a g p h =
        sym (and-true a)
        ∙ ap₂ (λ (s t : Bool). s && t) (p ∙ ap (λ (n : ℕ). same_bytes (take n (drop at bytes)) major) g)
        (sym h ∙ minors)

-- the name that a name's struct shows
named : (m : Name) → m.length ≤ length m.minor → name_of m.major m.minor m.length ≡ resource_of m
named m h = λ t. record { major = m.major; minor = sym (shown_within m.length m.minor h) t }

-- along the offsets: those before entry i show some names, and these end at `at`
pub record Passed (ats : List ℕ) (n : ℕ) (bytes : List ℕ) (at i : ℕ) : Type 0 where
  pub used : InUse ats n bytes
  pub within : i ≤ n
  pub low : at ≤ length bytes
  pub ends : at ≡ needed (firsts (shown_by ats i bytes))

-- nothing is passed yet
pub pass_start : {ats : List ℕ} {n : ℕ} {bytes : List ℕ} → InUse ats n bytes → Passed ats n bytes 0 0
unfolding needed
pass_start u = record { used = u; within = omega arith; low = omega arith; ends = refl }

module _ {ats : List ℕ} {n : ℕ} {bytes : List ℕ} {at i : ℕ} (s : Passed ats n bytes at i) (here : i < n) where
  abbrev all : List Resource
  all = shown_by ats n bytes

  abbrev past : List Resource
  past = shown_by ats i bytes

  abbrev o : ℕ
  o = get_or ats i 0

  abbrev m : Resource
  m = name_at bytes o

  long : i < length (take n ats)
  long = omega (arith, length-take-le n ats s.used.few)

  there : get_or (take n ats) i 0 ≡ o
  there = get_or-take n ats i 0 here

  next : shown_by ats (i + 1) bytes ≡ past ++ (m ∷ [])
  next =
      ap (names_of bytes) (ap (λ (k : ℕ). take k ats) (add-one i) ∙ take-suc ats i 0 (omega (arith, s.used.few)))
      ∙ map-append (name_at bytes) (take i ats) (o ∷ [])

  rest : List Resource
  rest = names_of bytes (drop (suc i) (take n ats))

  split : all ≡ past ++ (m ∷ rest)
  unfolding rest
  split =
      ap (names_of bytes) (split_at (take n ats) i 0 long)
      ∙ map-append (name_at bytes) (take i (take n ats)) (get_or (take n ats) i 0 ∷ drop (suc i) (take n ats))
      ∙ ap₂ (λ (l : List ℕ) (k : ℕ). names_of bytes l ++ (name_at bytes k ∷ rest))
      (take-take i n ats (omega arith)) there

  points : o ≡ offset_in (firsts all) m
  points =
      sym there ∙ ap (λ (l : List ℕ). get_or l i 0) s.used.kept.points
      ∙ map_at (offset_in (firsts all)) all i (name_at bytes 0) 0
      (omega (arith, long, length-map (take n ats) (name_at bytes)))
      ∙ ap (offset_in (firsts all))
      (map_at (name_at bytes) (take n ats) i 0 (name_at bytes 0) long ∙ ap (name_at bytes) there)

  -- an offset at the end of the names before shows a new one
  new : o ≡ at → is_in m past ≡ false
  new e = not_so (is_in m past) (λ h. omega (arith, e, s.ends, points, moved h, offset_inside past m h))
    where
      moved : is_in m past ≡ true → offset_in (firsts all) m ≡ offset_in (firsts past) m
      moved h = ap (λ (l : List Resource). offset_in (firsts l) m) split ∙ offset_longer past (m ∷ rest) m h

  -- any other one that was there
  seen : (o ≡ at → ⊥) → is_in m past ≡ true
  seen d = one (is_in m past) refl
    where
      one : (b : Bool) → is_in m past ≡ b → b ≡ true
      one true h = refl
      one false h =
          absurd (d (points ∙ ap (λ (l : List Resource). offset_in (firsts l) m) split ∙ offset_next past rest m h
          ∙ sym s.ends))

  in_next : (x : Resource) → is_in x (shown_by ats (i + 1) bytes) ≡ (is_in x past || (same_name x m || false))
  in_next x = ap (is_in x) next ∙ some_append (same_name x) past (m ∷ [])

  module _ (d : get_or ats i 0 ≡ at → ⊥) where
    -- the entry is passed, and the end stays
    pub pass_seen : Passed ats n bytes at (i + 1)
    pass_seen = record {
      used = s.used;
      within = omega arith;
      low = s.low;
      ends = s.ends ∙ sym (ap (λ (l : List Resource). needed (firsts l)) next ∙ end_seen past m (seen d));
    }

    -- a name that was not there is not the one
    pub seen_out : (x : Resource) → is_in x (shown_by ats i bytes) ≡ false
        → is_in x (shown_by ats (i + 1) bytes) ≡ false
    seen_out x h =
        in_next x
        ∙ ap₂ (λ (a b : Bool). a || (b || false)) h
        (not_so (same_name x m) (λ e. never (is_in m past) (seen d)
        (ap (λ (y : Resource). is_in y past) (sym (name_eq x m e)) ∙ h)))

  module _ (e : get_or ats i 0 ≡ at) where
    -- the new name lies within the bytes
    pub new_fits : fits_at bytes at ≡ true
    new_fits =
        ap (fits_at bytes) (sym e) ∙ front_at (fits_at bytes) ats n i 0 s.used.fit here s.used.few

    -- and ends before they do
    pub new_within : (at + 9 ≤ length bytes) × ((at + 9) + get_or bytes (at + 8) 0 ≤ length bytes)
    new_within = fits_parts bytes at new_fits

    -- the entry is passed, and the end comes behind the name
    pub pass_new : Passed ats n bytes (at + (get_or bytes (at + 8) 0 + 9)) (i + 1)
    pass_new =
        let t = fit_size bytes at new_fits in
        let z = end_new past m (new e) in
        let w : size_of m ≡ size_of (name_at bytes at) = ap (λ (k : ℕ). size_of (name_at bytes k)) e in
        record {
          used = s.used;
          within = omega arith;
          low = omega (arith, new_within);
          ends = omega (arith, s.ends, ap (λ (l : List Resource). needed (firsts l)) next);
        }

    -- a name that was not there, and is not the new one, is not there
    pub new_out : (x : Resource) → is_in x (shown_by ats i bytes) ≡ false → false ≡ same_name (name_at bytes at) x
        → is_in x (shown_by ats (i + 1) bytes) ≡ false
    new_out x h k =
        in_next x
        ∙ ap₂ (λ (a b : Bool). a || (b || false)) h
        (name_sym x m ∙ ap (λ (j : ℕ). same_name (name_at bytes j) x) e ∙ sym k)

    -- the sought name is the new one: it stands here
    pub found : (x : Name) → x.length ≤ length x.minor
        → true ≡ same_name (name_at bytes at) (name_of x.major x.minor x.length)
        → (at ≡ offset_in (firsts (shown_by ats n bytes)) (resource_of x))
        × (true ≡ is_in (resource_of x) (shown_by ats n bytes))
    found x f k =
        let y = resource_of x in
        let z : m ≡ y = ap (name_at bytes) e ∙ name_eq (name_at bytes at) _ (sym k) ∙ named x f in (
          sym e ∙ points ∙ ap (offset_in (firsts all)) z,
          sym (ap (is_in y) split ∙ some_append (same_name y) past (m ∷ rest)
              ∙ ap (λ (b : Bool). is_in y past || (b || is_in y rest)) (eq_name y m (sym z))
              ∙ or-true (is_in y past)),
        )

-- behind the last entry
module _ {ats : List ℕ} {n : ℕ} {bytes : List ℕ} {at i : ℕ} (s : Passed ats n bytes at i) (over : i ≡ n) where
  -- the names end here
  pub all_passed : at ≡ needed (firsts (shown_by ats n bytes))
  all_passed = s.ends ∙ ap (λ (j : ℕ). needed (firsts (shown_by ats j bytes))) over

  -- a name that was not there would stand here
  pub not_found : (x : Name) → x.length ≤ length x.minor
      → is_in (name_of x.major x.minor x.length) (shown_by ats i bytes) ≡ false
      → (at ≡ offset_in (firsts (shown_by ats n bytes)) (resource_of x))
      × (false ≡ is_in (resource_of x) (shown_by ats n bytes))
  not_found x f k =
      let z : is_in (resource_of x) (shown_by ats n bytes) ≡ false =
      ap₂ (λ (j : ℕ) (r : Resource). is_in r (shown_by ats j bytes)) (sym over) (sym (named x f)) ∙ k in
      (all_passed ∙ sym (offset_out (shown_by ats n bytes) (resource_of x) z), sym z)
