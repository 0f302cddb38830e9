-- Packing anew: the names that some offsets still show go to a fresh area, in the order of first entries, and each
-- offset becomes what it is there.
use Rattle.std.specs.Prelude.{◌≡◌, refl, Bool, true, false, Some, None, ◌||◌, List, [], ◌∷◌, ◌++◌, ℕ, ◌+◌, ◌-◌, ◌≤◌, ◌<◌, eqb, length, get_or, take, drop, set, replicate}
use Rattle.std.proofs.Common.{sym, ap, ap₂, ◌∙◌, add-one, arith, length-set, take-append-drop, take_all, take-suc, take-suc-set, get_or-take, length-take-le, append-nil, length-drop, drop_of_length-le}
use Rattle.std.proofs.lemmas.List.{map-append, length-map}
use Rattle.lists.specs.Lists.{every, some}
use Rattle.lists.specs.Bools.{both}
use Rattle.lists.specs.Filling.{map_at}
use Rattle.lists.specs.Setting.{every_at_lem}
use Rattle.lists.specs.Tables.{padded, padded_length}
use Rattle.rules.specs.Names.{Resource, same_name, firsts}
use Rattle.namearea.specs.There.{every_front, numbers_in, FirstOf, first_found, first_there, first_none}
use Rattle.namearea.specs.Firsts.{is_in, firsts_seen}
use Rattle.namearea.specs.Spelling.{spelt, spelling, needed, offset_in, name_at, whole, spelling_length}
use Rattle.namearea.specs.Spelling.{spelt_length, spelling_one}
use Rattle.namearea.specs.Offsets.{offset_longer, offset_next, points_more, end_seen, end_new}
use Rattle.namearea.specs.Scanning.{area_for, points_for, names_of, fits_at, fits_parts, fit_whole, fit_size}
use Rattle.namearea.specs.Scanning.{fits_whole}
use Rattle.namearea.specs.Room.{every_first}
use Rattle.namearea.specs.Additions.{added, needed_added, appended}

-- the offsets lie within the bytes, and two show one name only where they are one; there is room for the names
pub record Clear (size : ℕ) (old os : List ℕ) : Type 0 where
  pub fits : every (fits_at old) os ≡ true
  pub apart : (a b : ℕ) → some (eqb a) os ≡ true → some (eqb b) os ≡ true
      → same_name (name_at old a) (name_at old b) ≡ eqb a b
  pub room : needed (firsts (names_of old os)) ≤ size

-- the names of the first i stand in the fresh area, up to `at`, and their offsets are known
pub record Laid (size : ℕ) (old os : List ℕ) (i : ℕ) (to new : List ℕ) (at : ℕ) : Type 0 where
  pub points : take i to ≡ points_for (names_of old (take i os))
  pub area : new ≡ area_for size (names_of old (take i os))
  pub ends : at ≡ needed (firsts (names_of old (take i os)))
  pub long : length to ≡ length os

-- a name that no earlier offset shows, as offsets that differ show names that differ
unseen : (old : List ℕ) (known : ℕ → Bool) (o : ℕ) → known o ≡ true
    → ((a b : ℕ) → known a ≡ true → known b ≡ true → same_name (name_at old a) (name_at old b) ≡ eqb a b)
    → (os : List ℕ) → every known os ≡ true → is_in (name_at old o) (names_of old os) ≡ some (eqb o) os
unseen old known o k f [] e = refl
unseen old known o k f (x ∷ os) e =
    let b = both (known x) (every known os) e in ap₂ ◌||◌ (f o x k b.0) (unseen old known o k f os b.1)

-- bytes put at the front of the rest of an area
pub put_mid : (at : ℕ) (new part last : List ℕ)
    → last ≡ part ++ drop (length part) (take (length new - at) (drop at new))
    → take at new ++ (last ++ drop (length new - at) (drop at new))
    ≡ take at new ++ (part ++ drop (length part) (drop at new))
put_mid at new part last e =
    let h : length (drop at new) ≤ length new - at = omega (arith, length-drop at new) in
    let t : take (length new - at) (drop at new) ≡ drop at new = take_all (length new - at) (drop at new) h in
    ap (λ (b : List ℕ). take at new ++ b)
    (ap (λ (b : List ℕ). last ++ b) (drop_of_length-le (drop at new) h) ∙ append-nil last ∙ e
    ∙ ap (λ (b : List ℕ). part ++ drop (length part) b) t)

-- One offset more.
module _ {size : ℕ} {old os : List ℕ} {i : ℕ} {to new : List ℕ} {at : ℕ} (s : Laid size old os i to new at)
    (c : Clear size old os) (here : i < length os) where
  abbrev o : ℕ
  o = get_or os i 0

  abbrev n : Resource
  n = name_at old o

  abbrev ns : List Resource
  ns = names_of old (take i os)

  abbrev known : ℕ → Bool
  known x = some (eqb x) os

  next_names : names_of old (take (i + 1) os) ≡ ns ++ (n ∷ [])
  next_names = rw (add-one, take-suc os i 0 here) (map-append (name_at old) (take i os) (o ∷ []))

  seen_is : is_in n ns ≡ some (eqb o) (take i os)
  seen_is =
      unseen old known o (every_at_lem known os i 0 (numbers_in os) here) c.apart (take i os)
      (every_front known i os (numbers_in os))

  wholes : every whole (firsts ns) ≡ true
  wholes = every_first whole ns (fits_whole old (take i os) (every_front (fits_at old) i os c.fits))

  -- what is there needs no more than all
  part_room : (k : ℕ) → needed (firsts (names_of old (take k os))) ≤ size
  part_room k =
      let a = names_of old (take k os) in
      let b = names_of old (drop k os) in
      let e : a ++ b ≡ names_of old os =
      sym (map-append (name_at old) (take k os) (drop k os)) ∙ ap (names_of old) (take-append-drop k os) in
      omega (arith, c.room, needed_added a b, ap (λ (l : List Resource). needed (firsts l)) e)

  -- the fresh area is all there
  pub laid_long : length new ≡ size
  laid_long =
      ap length s.area
      ∙ padded_length size 0 (spelling (firsts ns)) (omega (arith, spelling_length (firsts ns) wholes, part_room i))

  -- the offset's name lies within the bytes
  fit : fits_at old (get_or os i 0) ≡ true
  fit = every_at_lem (fits_at old) os i 0 c.fits here

  -- it ends before the bytes do
  pub laid_fits : (get_or os i 0 + 9 ≤ length old) × ((get_or os i 0 + 9) + get_or old (get_or os i 0 + 8) 0 ≤ length old)
  laid_fits = fits_parts old o fit

  laid_next : (v : ℕ) (then : List ℕ) (end : ℕ) → v ≡ offset_in (firsts (ns ++ (n ∷ []))) n
      → then ≡ area_for size (ns ++ (n ∷ [])) → end ≡ needed (firsts (ns ++ (n ∷ [])))
      → Laid size old os (i + 1) (set to i v) then end
  laid_next v then end p q r = record {
    points =
        rw (add-one) (take-suc-set to i v (omega (arith, s.long)))
        ∙ ap₂ (λ (l : List ℕ) (x : ℕ). l ++ (x ∷ [])) s.points p
        ∙ sym (points_more ns n) ∙ ap points_for (sym next_names);
    area = q ∙ ap (area_for size) (sym next_names);
    ends = r ∙ ap (λ (l : List Resource). needed (firsts l)) (sym next_names);
    long = length-set to i v ∙ s.long;
  }

  -- an offset that was there gets what it got before
  pub laid_seen : {j : ℕ} → FirstOf os i (get_or os i 0) (Some j)
      → Laid size old os (i + 1) (set to i (get_or to j 0)) new at
  laid_seen {j} f =
      let p = first_found f in
      let l : j < length (take i os) = p.0 in
      let h : j < i = omega (arith, l, length-take-le i os (omega arith)) in
      let x : get_or (take i os) j 0 ≡ o = p.1 in
      let k : is_in n ns ≡ true = seen_is ∙ first_there f in
      let v : get_or to j 0 ≡ offset_in (firsts ns) n =
      sym (get_or-take i to j 0 h) ∙ ap (λ (r : List ℕ). get_or r j 0) s.points
      ∙ map_at (offset_in (firsts ns)) ns j (name_at old 0) 0 (omega (arith, length-map (take i os) (name_at old)))
      ∙ ap (offset_in (firsts ns)) (map_at (name_at old) (take i os) j 0 (name_at old 0) l ∙ ap (name_at old) x) in
      laid_next (get_or to j 0) new at (v ∙ sym (offset_longer ns (n ∷ []) n k))
      (s.area ∙ ap (λ (r : List Resource). padded size 0 (spelling r)) (sym (firsts_seen ns n k)))
      (s.ends ∙ sym (end_seen ns n k))

  -- an offset that was not there: its name goes to the end
  module _ (f : FirstOf os i (get_or os i 0) None) where
    out : is_in n ns ≡ false
    out = seen_is ∙ first_none f

    end : at + (get_or old (o + 8) 0 + 9) ≡ needed (firsts (ns ++ (n ∷ [])))
    end = ap₂ (λ (a b : ℕ). a + b) s.ends (sym (fit_size old o fit)) ∙ sym (end_new ns n out)

    -- there is room for it
    pub laid_room : at + (get_or old (get_or os i 0 + 8) 0 + 9) ≤ size
    laid_room = omega (arith, end, part_room (i + 1), ap (λ (l : List Resource). needed (firsts l)) next_names)

    -- with its bytes there
    pub laid_new : (m : ℕ) (part : List ℕ) → part ≡ spelt (name_at old (get_or os i 0)) → m ≡ length part
        → Laid size old os (i + 1) (set to i at) (take at new ++ (part ++ drop m (drop at new))) (at + length part)
    laid_new m part e f =
        let whole-part = spelling (added ns (n ∷ [])) in
        let alone : added ns (n ∷ []) ≡ n ∷ [] = rw out in
        let p : part ≡ whole-part = e ∙ sym (spelling_one n) ∙ ap spelling (sym alone) in
        let l : length part ≡ get_or old (o + 8) 0 + 9 =
        ap length e ∙ spelt_length n (fit_whole old o fit) ∙ fit_size old o fit in
        laid_next at (take at new ++ (part ++ drop m (drop at new))) (at + length part)
        (s.ends ∙ sym (offset_next ns [] n out))
        (ap (λ (k : ℕ). take at new ++ (part ++ drop k (drop at new))) f
        ∙ ap (λ (r : List ℕ). take at new ++ (r ++ drop (length r) (drop at new))) p
        ∙ ap₂ (λ (a : ℕ) (b : List ℕ). take a b ++ (whole-part ++ drop (length whole-part) (drop a b))) s.ends s.area
        ∙ appended size ns (n ∷ []) wholes)
        (ap (λ (k : ℕ). at + k) l ∙ end)

-- nothing yet
pub laid_none : {size : ℕ} {old os to new : List ℕ} → length to ≡ length os → new ≡ replicate size 0
    → Laid size old os 0 to new 0
unfolding spelling needed padded
laid_none {size} h e =
    let z : size ≡ size - 0 = omega arith in
    record { points = refl; area = e ∙ ap (λ (k : ℕ). replicate k 0) z; ends = refl; long = h }

-- all
pub laid_all : {size : ℕ} {old os : List ℕ} {i : ℕ} {to new : List ℕ} {at : ℕ} → Laid size old os i to new at
    → i ≡ length os → (to ≡ points_for (names_of old os)) × (new ≡ area_for size (names_of old os))
laid_all {size} {old} {os} {i} {to} s e =
    let t : take i os ≡ os = take_all i os (omega arith) in (
      sym (take_all i to (omega (arith, s.long))) ∙ s.points ∙ ap (λ (l : List ℕ). points_for (names_of old l)) t,
      s.area ∙ ap (λ (l : List ℕ). area_for size (names_of old l)) t,
    )
