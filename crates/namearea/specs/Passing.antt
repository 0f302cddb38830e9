-- What is stored passes the test, and shows the names again.
use Rattle.std.specs.Prelude.{◌≡◌, Bool, true, ℕ, ◌+◌, ◌-◌, ◌≤◌, eqb, ltb, drop, replicate}
use Rattle.std.proofs.Math.Path.{refl, sym, ap, ap₂}
use Rattle.std.proofs.Common.{◌∙◌, arith, drop_at, eq-eqb, le-leb, lt-ltb}
use Rattle.std.proofs.Math.Bool.{false}
use mathlib.Core.List.{List, [], ◌∷◌, ◌++◌, map, map-append, append-nil}
use Rattle.std.proofs.Math.ListN.{length, get_or}
use Rattle.std.proofs.Math.Seq.{append_snoc}
use Rattle.lists.specs.Lists.{every, some}
use Rattle.lists.specs.Bools.{both}
use Rattle.lists.specs.Pick.{pick}
use Rattle.lists.specs.Every.{every_append, every_gives, every_of}
use Rattle.lists.specs.Tables.{padded, padded_length, every_replicate}
use Rattle.rules.specs.Names.{Resource, same_name, firsts}
use Rattle.laws.specs.SameNames.{name_eq}
use Rattle.laws.specs.NamesAfter.{in_itself}
use Rattle.namearea.specs.There.{changed_in, all_below, below_out}
use Rattle.namearea.specs.Firsts.{is_in, firsts_in}
use Rattle.namearea.specs.Spelling.{spelling, needed, offset_in, name_at, whole, spelling_length}
use Rattle.namearea.specs.Spelling.{offset_within, read_back, length_back}
use Rattle.namearea.specs.Offsets.{offset_longer, offset_inside, offset_next, end_seen, end_new}
use Rattle.namearea.specs.Scanning.{area_for, points_for, names_of, fits_at, new_at, scanned}

-- a name that is there has its number among the numbers of all
pub there_map : (f : Resource → ℕ) (ps : List Resource) (n : Resource) → is_in n ps ≡ true
    → some (eqb (f n)) (map f ps) ≡ true
there_map f ps n h = changed_in same_name name_eq eqb (λ o. eq-eqb o o refl) f ps n h

module _ (size : ℕ) (all : List Resource) (wholes : every whole (firsts all) ≡ true)
    (room : needed (firsts all) ≤ size) where
  abbrev fs : List Resource
  fs = firsts all

  abbrev bytes : List ℕ
  bytes = area_for size all

  abbrev at : Resource → ℕ
  at n = offset_in fs n

  abbrev ends : List Resource → ℕ
  ends ps = needed (firsts ps)

  long : length bytes ≡ size
  long = padded_length size 0 (spelling fs) (omega (arith, spelling_length fs wholes))

  -- a name of the list is read where it stands
  pub reads : (n : Resource) → is_in n all ≡ true → name_at bytes (at n) ≡ n
  unfolding padded
  reads n h = read_back fs _ n wholes (firsts_in n all ∙ h)

  reads_length : (n : Resource) → is_in n all ≡ true → get_or bytes (at n + 8) 0 ≡ length n.minor
  unfolding padded
  reads_length n h = length_back fs _ n wholes (firsts_in n all ∙ h)

  -- all of these are in the list
  abbrev within_all : List Resource → Bool
  within_all ps = every (λ (n : Resource). is_in n all) ps

  names_back : (ps : List Resource) → within_all ps ≡ true → names_of bytes (map at ps) ≡ ps
  names_back [] h = refl
  names_back (a ∷ ps) h =
      let p = both (is_in a all) (within_all ps) h in
      ap₂ (λ (n : Resource) (l : List Resource). n ∷ l) (reads a p.0) (names_back ps p.1)

  -- those of the front stand before its end
  front_below : (ps bs : List Resource) → ps ++ bs ≡ all → all_below (ends ps) (map at ps) ≡ true
  front_below ps bs e =
      every_of at (λ (o : ℕ). ltb o (ends ps)) ps
      ∙ every_gives (λ (n : Resource). is_in n ps) (λ (n : Resource). ltb (at n) (ends ps))
      (λ n h. lt-ltb (at n) (ends ps) (omega (
        arith,
        offset_inside ps n h,
        ap (λ (l : List Resource). offset_in (firsts l) n) (sym e) ∙ offset_longer ps bs n h,
      )))
      ps (in_itself ps)

  -- the test of a new name
  module _ (ps bs : List Resource) (n : Resource) (e : ps ++ (n ∷ bs) ≡ all) (h : within_all ps ≡ true)
      (k : is_in n all ≡ true) (o : is_in n ps ≡ false) where
    place : at n ≡ ends ps
    place = ap (λ (l : List Resource). offset_in (firsts l) n) (sym e) ∙ offset_next ps bs n o

    new_length : get_or bytes (ends ps + 8) 0 ≡ length n.minor
    new_length = ap (λ (j : ℕ). get_or bytes (j + 8) 0) (sym place) ∙ reads_length n k

    new_fits : fits_at bytes (ends ps) ≡ true
    unfolding fits_at pick
    new_fits =
        let w = offset_within fs n (firsts_in n all ∙ k) in
        let a : ends ps + 9 ≤ length bytes = omega (arith, long, place) in
        let b : (ends ps + 9) + get_or bytes (ends ps + 8) 0 ≤ length bytes = omega (arith, long, place, new_length) in
        rw (le-leb (ends ps + 9) (length bytes) a)
        (le-leb ((ends ps + 9) + get_or bytes (ends ps + 8) 0) (length bytes) b)

    new_passes : new_at bytes (map at ps) (ends ps) (at n) ≡ true
    unfolding new_at pick
    new_passes =
        let y : is_in (name_at bytes (ends ps)) (names_of bytes (map at ps)) ≡ false =
        ap₂ (λ (m : Resource) (r : List Resource). is_in m r) (ap (name_at bytes) (sym place) ∙ reads n k)
        (names_back ps h) ∙ o in
        rw (eq-eqb (at n) (ends ps) place, new_fits, y)

    new_unseen : some (eqb (at n)) (map at ps) ≡ false
    new_unseen =
        ap (λ (j : ℕ). some (eqb j) (map at ps)) place
        ∙ below_out (ends ps) (map at ps) (front_below ps (n ∷ bs) e)

    new_end : ends ps + (get_or bytes (ends ps + 8) 0 + 9) ≡ ends (ps ++ (n ∷ []))
    new_end = ap (λ (i : ℕ). ends ps + (i + 9)) new_length ∙ sym (end_new ps n o)

  -- behind the last name all is zero
  rest_zero : (ps : List Resource) → ps ++ [] ≡ all → every (eqb 0) (drop (ends ps) bytes) ≡ true
  unfolding padded
  rest_zero ps e =
      let left = size - length (spelling fs) in
      let z : ends ps ≡ length (spelling fs) = ap ends (sym (append-nil ps) ∙ e) ∙ sym (spelling_length fs wholes) in
      ap (λ (j : ℕ). every (eqb 0) (drop j bytes)) z
      ∙ ap (every (eqb 0)) (drop_at (spelling fs) (replicate left 0) (length (spelling fs)) refl)
      ∙ every_replicate (eqb 0) 0 left refl

  from : (ps bs : List Resource) → ps ++ bs ≡ all → within_all ps ≡ true → within_all bs ≡ true
      → scanned bytes (map at ps) (ends ps) (map at bs) ≡ true
  unfolding scanned pick
  from ps [] e h k = rest_zero ps e
  from ps (n ∷ bs) e h k =
      let b = both (is_in n all) (within_all bs) k in
      one (is_in n ps) refl b.0
      (from (ps ++ (n ∷ [])) bs (append_snoc ps n bs ∙ e)
      (rw (every_append (λ (m : Resource). is_in m all) ps (n ∷ []), h, b.0)) b.1)
    where
      front : map at (ps ++ (n ∷ [])) ≡ map at ps ++ (at n ∷ [])
      front = map-append at ps (n ∷ [])

      one : (x : Bool) → is_in n ps ≡ x → is_in n all ≡ true
          → scanned bytes (map at (ps ++ (n ∷ []))) (ends (ps ++ (n ∷ []))) (map at bs) ≡ true
          → scanned bytes (map at ps) (ends ps) (at n ∷ map at bs) ≡ true
      one true o z ih =
          rw (there_map at ps n o)
          (ap₂ (λ (l : List ℕ) (j : ℕ). scanned bytes l j (map at bs)) (sym front) (sym (end_seen ps n o)) ∙ ih)
      one false o z ih =
          rw (new_unseen ps bs n e h z o, new_passes ps bs n e h z o)
          (ap₂ (λ (l : List ℕ) (i : ℕ). scanned bytes l i (map at bs)) (sym front) (new_end ps bs n e h z o) ∙ ih)

  -- what is stored of names passes the test
  pub stored_passes : scanned bytes [] 0 (points_for all) ≡ true
  unfolding needed
  stored_passes = from [] all refl refl (in_itself all)
