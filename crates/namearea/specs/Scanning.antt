-- The test of the name area, entry by entry, and that what passes it is what is stored of the names it shows.
use Rattle.std.specs.Prelude.{◌≡◌, refl, Bool, true, false, not, List, [], ◌∷◌, ◌++◌, map, ℕ, ◌+◌, ◌-◌, ◌≤◌, eqb, leb, length, take, drop, replicate}
use Rattle.std.proofs.Common.{sym, ap, ap₂, subst, ◌∙◌, append-nil, arith, length-drop, take-append-drop, take-add, length-take-le}
use Rattle.std.proofs.lemmas.Bool.{false≢true}
use Rattle.std.proofs.lemmas.List.{map-append}
use Rattle.std.proofs.lemmas.Simd.{map-map}
use Rattle.std.proofs.Math.ListN.{get_or}
use Rattle.std.proofs.Math.Seq.{append_snoc}
use borrow.Author.Tests.{eqb-true, leb-true, not-true}
use Rattle.lists.specs.Lists.{every, some}
use Rattle.lists.specs.Bools.{join}
use Rattle.lists.specs.Pick.{pick, chain_and}
use Rattle.lists.specs.Every.{every_append, every_gives, every_of}
use Rattle.lists.specs.Tables.{padded, zeros_eq}
use Rattle.rules.specs.Names.{Resource, same_name, firsts}
use Rattle.laws.specs.SameNames.{eq_name}
use Rattle.namearea.specs.There.{changed_in, one_stays}
use Rattle.namearea.specs.Firsts.{is_in, firsts_seen, firsts_new}
use Rattle.namearea.specs.Spelling.{spelt, size_of, spelling, needed, offset_in, name_at, whole, spelling_length}
use Rattle.namearea.specs.Spelling.{spelling_append, spelling_one, spelt_there}
use Rattle.namearea.specs.Offsets.{offset_longer, offset_next, points_more}

-- What is stored of names.

-- in an area of so many bytes: each different name once, in the order of first entries, then zeros
abbrev pub area_for : ℕ → List Resource → List ℕ
area_for size ns = padded size 0 (spelling (firsts ns))

-- where each name stands
abbrev pub points_for : List Resource → List ℕ
points_for ns = map (offset_in (firsts ns)) ns

-- The test: each entry points to where an earlier one does, or to the end of the names so far, where a new name
-- stands; behind the last name all is zero.

-- the names that offsets show
abbrev pub names_of : List ℕ → List ℕ → List Resource
names_of bytes os = map (name_at bytes) os

-- a name lies at the offset, within the bytes
unfoldable pub fits_at : List ℕ → ℕ → Bool
fits_at bytes o = pick (leb (o + 9) (length bytes)) (leb ((o + 9) + get_or bytes (o + 8) 0) (length bytes)) false

-- behind these, the next name stands at its place, and is none of theirs
unfoldable pub new_at : List ℕ → List ℕ → ℕ → ℕ → Bool
new_at bytes before at o =
    pick (eqb o at) (pick (fits_at bytes at) (not (is_in (name_at bytes at) (names_of bytes before))) false) false

-- the entries from here on pass, where those before are known and their names end at `at`
unfoldable pub scanned : List ℕ → List ℕ → ℕ → List ℕ → Bool
scanned bytes before at [] = every (eqb 0) (drop at bytes)
scanned bytes before at (o ∷ os) =
    pick (some (eqb o) before) (scanned bytes (before ++ (o ∷ [])) at os)
    (pick (new_at bytes before at o) (scanned bytes (before ++ (o ∷ [])) (at + (get_or bytes (at + 8) 0 + 9)) os) false)

-- A name that lies within the bytes.
module _ (bytes : List ℕ) (o : ℕ) (h : fits_at bytes o ≡ true) where
  -- it ends before the bytes do
  pub fits_parts : (o + 9 ≤ length bytes) × ((o + 9) + get_or bytes (o + 8) 0 ≤ length bytes)
  unfolding fits_at
  fits_parts =
      let p = chain_and (leb (o + 9) (length bytes)) _ h in
      (leb-true (o + 9) (length bytes) p.0, leb-true ((o + 9) + get_or bytes (o + 8) 0) (length bytes) p.1)

  -- it is spelt there
  pub fit_spelt : take (get_or bytes (o + 8) 0 + 9) (drop o bytes) ≡ spelt (name_at bytes o)
  fit_spelt = (spelt_there bytes o fits_parts.0 fits_parts.1).0

  -- it has a major part of 8 bytes
  pub fit_whole : whole (name_at bytes o) ≡ true
  fit_whole = (spelt_there bytes o fits_parts.0 fits_parts.1).1

  -- its length byte tells its size
  pub fit_size : size_of (name_at bytes o) ≡ get_or bytes (o + 8) 0 + 9
  fit_size = (spelt_there bytes o fits_parts.0 fits_parts.1).2

-- names that lie within the bytes have major parts of 8 bytes
pub fits_whole : (bytes os : List ℕ) → every (fits_at bytes) os ≡ true → every whole (names_of bytes os) ≡ true
fits_whole bytes os h =
    every_of (name_at bytes) whole os
    ∙ every_gives (fits_at bytes) (λ (o : ℕ). whole (name_at bytes o)) (fit_whole bytes) os h

-- What passes is stored.

-- the bytes and the offsets are what is stored of the names that are shown
pub record Kept (bytes os : List ℕ) : Type 0 where
  pub area : bytes ≡ area_for (length bytes) (names_of bytes os)
  pub points : os ≡ points_for (names_of bytes os)

-- an offset that is there shows a name that is there
pub name_there : (bytes os : List ℕ) (o : ℕ) → some (eqb o) os ≡ true → is_in (name_at bytes o) (names_of bytes os) ≡ true
name_there bytes os o h = changed_in eqb eqb-true same_name (λ n. eq_name n n refl) (name_at bytes) os o h

-- where each offset is its name's, one that is there is too
pub point_there : (fs : List Resource) (bytes os : List ℕ) (o : ℕ) → os ≡ map (offset_in fs) (names_of bytes os)
    → some (eqb o) os ≡ true → offset_in fs (name_at bytes o) ≡ o
point_there fs bytes os o e h =
    one_stays (λ (x : ℕ). offset_in fs (name_at bytes x)) os o (e ∙ map-map (offset_in fs) (name_at bytes) os) h

-- the bytes up to `at`, and the offsets so far, are what is stored of the names that they show
record State (bytes before : List ℕ) (at : ℕ) : Type 0 where
  room : at ≤ length bytes
  spells : take at bytes ≡ spelling (firsts (names_of bytes before))
  wholes : every whole (firsts (names_of bytes before)) ≡ true
  points : before ≡ points_for (names_of bytes before)

module _ (bytes before : List ℕ) (at o : ℕ) (s : State bytes before at) where
  abbrev ns : List Resource
  ns = names_of bytes before

  more : names_of bytes (before ++ (o ∷ [])) ≡ ns ++ (name_at bytes o ∷ [])
  more = map-append (name_at bytes) before (o ∷ [])

  pointed : offset_in (firsts (ns ++ (name_at bytes o ∷ []))) (name_at bytes o) ≡ o
      → before ++ (o ∷ []) ≡ points_for (names_of bytes (before ++ (o ∷ [])))
  pointed q =
      ap₂ (λ (l : List ℕ) (x : ℕ). l ++ (x ∷ [])) s.points (sym q)
      ∙ sym (points_more ns (name_at bytes o)) ∙ ap points_for (sym more)

  -- an entry for a name that is there
  again : some (eqb o) before ≡ true → State bytes (before ++ (o ∷ [])) at
  again h =
      let n = name_at bytes o in
      let k : is_in n ns ≡ true = name_there bytes before o h in
      let e : firsts (names_of bytes (before ++ (o ∷ []))) ≡ firsts ns = ap firsts more ∙ firsts_seen ns n k in
      record {
        room = s.room;
        spells = s.spells ∙ ap spelling (sym e);
        wholes = ap (every whole) e ∙ s.wholes;
        points = pointed (offset_longer ns (n ∷ []) n k ∙ point_there (firsts ns) bytes before o s.points h);
      }

  -- what the test of a new name says
  new_parts : new_at bytes before at o ≡ true
      → (o ≡ at) × (fits_at bytes at ≡ true) × (is_in (name_at bytes at) ns ≡ false)
  unfolding new_at
  new_parts h =
      let a = chain_and (eqb o at) _ h in
      let b = chain_and (fits_at bytes at) _ a.1 in
      (eqb-true o at a.0, b.0, not-true (is_in (name_at bytes at) ns) b.1)

  -- an entry for a new name
  another : new_at bytes before at o ≡ true → State bytes (before ++ (o ∷ [])) (at + (get_or bytes (at + 8) 0 + 9))
  another h =
      let p = new_parts h in
      let n = name_at bytes o in
      let same : n ≡ name_at bytes at = ap (name_at bytes) p.0 in
      let out : is_in n ns ≡ false = ap (λ (x : Resource). is_in x ns) same ∙ p.2 in
      let e : firsts (names_of bytes (before ++ (o ∷ []))) ≡ firsts ns ++ (n ∷ []) =
      ap firsts more ∙ firsts_new ns n out in
      let l : needed (firsts ns) ≡ at =
      sym (spelling_length (firsts ns) s.wholes) ∙ ap length (sym s.spells)
      ∙ length-take-le at bytes s.room in
      let w : whole n ≡ true = ap whole same ∙ fit_whole bytes at p.1 in
      record {
        room = omega (arith, fits_parts bytes at p.1);
        spells =
            take-add at (get_or bytes (at + 8) 0 + 9) bytes
            ∙ ap₂ (λ (a b : List ℕ). a ++ b) s.spells
            (fit_spelt bytes at p.1 ∙ ap spelt (sym same) ∙ sym (spelling_one n))
            ∙ sym (ap spelling e ∙ spelling_append (firsts ns) (n ∷ []));
        wholes =
            ap (every whole) e ∙ every_append whole (firsts ns) (n ∷ [])
            ∙ join (every whole (firsts ns)) _ s.wholes (join (whole n) true w refl);
        points = pointed (offset_next ns [] n out ∙ l ∙ sym p.0);
      }

-- behind the last name all is zero
done : (bytes before : List ℕ) (at : ℕ) → State bytes before at → every (eqb 0) (drop at bytes) ≡ true
    → Kept bytes before
unfolding padded
done bytes before at s h =
    let front = spelling (firsts (names_of bytes before)) in
    let z : drop at bytes ≡ replicate (length (drop at bytes)) 0 =
    zeros_eq 0 0 (eqb 0) (λ a e. sym (eqb-true 0 a e)) (drop at bytes) h in
    let m : length front ≡ at = ap length (sym s.spells) ∙ length-take-le at bytes s.room in
    let k : length (drop at bytes) ≡ length bytes - length front =
    length-drop at bytes ∙ ap (λ (j : ℕ). length bytes - j) (sym m) in
    record {
      area =
          sym (take-append-drop at bytes)
          ∙ ap₂ (λ (a b : List ℕ). a ++ b) s.spells (z ∙ ap (λ (j : ℕ). replicate j 0) k);
      points = s.points;
    }

from : (bytes before : List ℕ) (at : ℕ) (os : List ℕ) → State bytes before at → scanned bytes before at os ≡ true
    → Kept bytes (before ++ os)
unfolding scanned pick
from bytes before at [] s h = subst (Kept bytes) (sym (append-nil before)) (done bytes before at s h)
from bytes before at (o ∷ os) s h =
    subst (Kept bytes) (append_snoc before o os)
    (one (some (eqb o) before) (new_at bytes before at o) refl refl h (λ e. from bytes (before ++ (o ∷ [])) e os))
  where
    t : List ℕ
    t = before ++ (o ∷ [])

    one : (a b : Bool) → some (eqb o) before ≡ a → new_at bytes before at o ≡ b
        → pick a (scanned bytes t at os) (pick b (scanned bytes t (at + (get_or bytes (at + 8) 0 + 9)) os) false) ≡ true
        → ((e : ℕ) → State bytes t e → scanned bytes t e os ≡ true → Kept bytes (t ++ os)) → Kept bytes (t ++ os)
    one true b x y k f = f at (again bytes before at o s x) k
    one false true x y k f = f (at + (get_or bytes (at + 8) 0 + 9)) (another bytes before at o s y) k
    one false false x y k f = absurd (false≢true k)

-- what passes the test is stored
pub scanned_kept : (bytes os : List ℕ) → scanned bytes [] 0 os ≡ true → Kept bytes os
unfolding spelling
scanned_kept bytes os h =
    from bytes [] 0 os (record { room = omega arith; spells = refl; wholes = refl; points = refl }) h
