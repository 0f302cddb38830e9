-- Wrong answers that the contracts of `namearea` rule out.
use mathlib.Core.Path.{◌≡◌, refl, sym}
use mathlib.Core.Bool.{Bool, true, false, not, cond, ◌&&◌, ◌||◌}
use mathlib.Core.List.{List, [], ◌∷◌, ◌++◌, map}
use Prim.Native.Nat.{ℕ, ◌+◌}
use native.Mathlib.Omega.{arith}
use lib.Dec.{eqb, leb, ltb}
use lib.ListN.{length, take, drop, get_or, replicate}
use borrow.Author.Tests.{eqb-true, leb-true}
use denote.Ref.{Bor, MutBor, at_last}
use Rattle.lists.specs.Pick.{pick}
use Rattle.lists.specs.Lists.{every, some, same_bytes}
use Rattle.lists.specs.Every.{every_one}
use Rattle.lists.specs.Tables.{padded}
use Rattle.kinds.specs.Limits.{longest_list, longest_minor, name_area}
use Rattle.kinds.specs.declared.names.NameList.{NameList}
use Rattle.rules.specs.Names.{Resource, Ask, same_name, firsts, legal, lawful, is_system, names_of as resources}
use Rattle.rules.specs.Table.{named, exc}
use Rattle.rules.specs.SystemCases.{sysdsn}
use Rattle.history.specs.Samples.{x, y}
use Rattle.names.specs.Named.{names_in}
use Rattle.namearea.specs.Firsts.{is_in}
use Rattle.namearea.specs.Spelling.{spelt, size_of, spelling, needed, offset_in, name_at}
use Rattle.namearea.specs.Scanning.{area_for, points_for, names_of as names_at, fits_at, new_at, scanned, scanned_kept}
use Rattle.namearea.specs.Packing.{Clear}
use Rattle.namearea.specs.Pointing.{InUse, zero_pointed, with_list, points_to, overlaid, new_names}
use Rattle.namearea.specs.Areas.{area_of}
use Rattle.namearea.specs.declared.points.Points.{Points}
use Rattle.namearea.proofs.scanning.scan.Reads as scan
use Rattle.namearea.proofs.packing.repack.Reads as repack
use Rattle.namearea.proofs.points.points_of.Reads as points_of
use Rattle.namearea.proofs.append.append.Reads as append
use Rattle.namearea.proofs.lawful.names_lawful.Reads as names_lawful
use Rattle.namearea.proofs.area.NameArea.empty.Reads as empty
use Rattle.impostors.specs.Fitting.{◌⊗◌, fits-NameList, fits-Points, fits_end, fits_lent, fits_mut_lent, fits_mut_offsets, fits_offsets}
use Rattle.impostors.specs.Fitting.{fits_usize}
use Rattle.impostors.specs.Opened.{tables_open}
use Rattle.impostors.specs.Samples.{names_of, z}
use Rattle.impostors.specs.Wrong.{RuledOut, wrong_at, RuledOutWith, wrong_with, told_apart}
use Rattle.impostors.specs.Parts.{lent, mut_lent}

-- x, y and z take 10 bytes each, and so does v, whose minor part is 7
abbrev v : Resource
v = named 86 (7 ∷ [])

-- x at 0, and y at 10
abbrev xy : List ℕ
xy = spelt x ++ spelt y

-- SCAN

-- offsets, how many of them count, and the bytes; here all of them count
abbrev Scans : Type 0
Scans = Bor (List ℕ) × (ℕ × (Bor (List ℕ) × Unit {0}))

abbrev fits-Scans : Scans → Bool
fits-Scans = fits_offsets ⊗ fits_usize ⊗ fits_lent ⊗ fits_end

abbrev scans : List ℕ → List ℕ → Scans
scans os bytes = (lent os, (length os, (lent bytes, tt)))

abbrev offsets : Scans → List ℕ
offsets a = take a.1.0 a.0.now

abbrev bytes : Scans → List ℕ
bytes a = a.1.1.0.now

-- what the test asks: whether an offset was there before, whether a new name is at its place, and whether the bytes
-- behind the last name are good
pub record Asks : Type 0 where
  pub seen : List ℕ → ℕ → ℕ → Bool
  pub new : List ℕ → List ℕ → ℕ → ℕ → Bool
  pub behind : List ℕ → Bool

abbrev scan_by : Asks → List ℕ → List ℕ → ℕ → List ℕ → Bool
scan_by k l before at [] = k.behind (drop at l)
scan_by k l before at (o ∷ os) =
    pick (k.seen before at o) (scan_by k l (before ++ (o ∷ [])) at os)
    (pick (k.new l before at o) (scan_by k l (before ++ (o ∷ [])) (o + (get_or l (o + 8) 0 + 9)) os) false)

abbrev scanned_by : Asks → Scans → Bool
scanned_by k a = scan_by k (bytes a) [] 0 (offsets a)

abbrev among : List ℕ → ℕ → ℕ → Bool
among before at o = some (eqb o) before

abbrev zeros : List ℕ → Bool
zeros l = every (eqb 0) l

-- an offset below the end of the names so far passes, and so one into the middle of x
pub scan_into_the_middle_of_a_name : RuledOut (λ k. fits-Scans) scan.Pre scan.Post
    (λ k a. scanned_by (record { seen = λ before at o. ltb o at; new = new_at; behind = zeros }) a)
unfolding tables_open
scan_into_the_middle_of_a_name =
    wrong_at ([], ([], tt)) (scans (0 ∷ 3 ∷ []) (spelt x)) refl (omega arith, omega arith) (λ b. b) refl refl

-- whether a name at the end is new is not asked: x stands there twice
pub scan_two_copies : RuledOut (λ k. fits-Scans) scan.Pre scan.Post
    (λ k a. scanned_by (record {
      seen = among;
      new = λ l before at o. eqb o at && fits_at l o;
      behind = zeros;
    }) a)
unfolding tables_open
scan_two_copies =
    wrong_at ([], ([], tt)) (scans (0 ∷ 10 ∷ []) (spelt x ++ spelt x)) refl (omega arith, omega arith)
    (λ b. b) refl refl

-- what is behind the last name is not looked at
pub scan_a_byte_behind : RuledOut (λ k. fits-Scans) scan.Pre scan.Post
    (λ k a. scanned_by (record { seen = among; new = new_at; behind = λ l. true }) a)
unfolding tables_open
scan_a_byte_behind =
    wrong_at ([], ([], tt)) (scans (0 ∷ []) (spelt x ++ (7 ∷ []))) refl (omega arith, omega arith) (λ b. b) refl refl

-- of that only the first byte is looked at: the second is 7
pub scan_by_one_byte_behind : RuledOut (λ k. fits-Scans) scan.Pre scan.Post
    (λ k a. scanned_by (record { seen = among; new = new_at; behind = λ l. eqb (get_or l 0 0) 0 }) a)
unfolding tables_open
scan_by_one_byte_behind =
    wrong_at ([], ([], tt)) (scans (0 ∷ []) (spelt x ++ (0 ∷ 7 ∷ []))) refl (omega arith, omega arith)
    (λ b. b) refl refl

-- a new name may stand past the end of the others: y stands two bytes behind x
pub scan_a_gap : RuledOut (λ k. fits-Scans) scan.Pre scan.Post
    (λ k a. scanned_by (record {
      seen = among;
      new = λ l before at o. leb at o && (fits_at l o && not (is_in (name_at l o) (names_at l before)));
      behind = zeros;
    }) a)
unfolding tables_open
scan_a_gap =
    wrong_at ([], ([], tt)) (scans (0 ∷ 12 ∷ []) (spelt x ++ (0 ∷ 0 ∷ spelt y))) refl (omega arith, omega arith)
    (λ b. b) refl refl

-- whether the bytes of a new name are there is not asked: the last one of x is cut off
pub scan_a_name_cut_off : RuledOut (λ k. fits-Scans) scan.Pre scan.Post
    (λ k a. scanned_by (record {
      seen = among;
      new = λ l before at o. eqb o at && not (is_in (name_at l o) (names_at l before));
      behind = zeros;
    }) a)
unfolding tables_open
scan_a_name_cut_off =
    wrong_at ([], ([], tt)) (scans (0 ∷ []) (take 9 (spelt x))) refl (omega arith, omega arith) (λ b. b) refl refl

-- each entry has to point to a name of its own: two point to x
pub scan_no_name_twice : RuledOut (λ k. fits-Scans) scan.Pre scan.Post
    (λ k a. scanned_by (record { seen = λ before at o. false; new = new_at; behind = zeros }) a)
unfolding tables_open
scan_no_name_twice =
    wrong_at ([], ([], tt)) (scans (0 ∷ 0 ∷ []) (spelt x)) refl (omega arith, omega arith) not refl refl

-- each offset shows a name that starts at 0 or where another one ends, and nothing is behind them
abbrev in_any_order : List ℕ → List ℕ → Bool
in_any_order l os =
    every (fits_at l) os
    && (every (λ (o : ℕ). eqb o 0 || some (λ (p : ℕ). eqb (p + (get_or l (p + 8) 0 + 9)) o) os) os
    && zeros (drop (needed (firsts (names_at l os))) l))

-- names may stand in any order: the first entry points to y, behind x
pub scan_in_any_order : RuledOut (λ k. fits-Scans) scan.Pre scan.Post (λ k a. in_any_order (bytes a) (offsets a))
unfolding tables_open
scan_in_any_order =
    wrong_at ([], ([], tt)) (scans (10 ∷ 0 ∷ []) xy) refl (omega arith, omega arith) (λ b. b) refl refl

-- offsets past the count are looked at too: the second, which does not count, shows no name
pub scan_past_the_count : RuledOut (λ k. fits-Scans) scan.Pre scan.Post
    (λ k a. scanned (bytes a) [] 0 a.0.now)
unfolding tables_open
scan_past_the_count =
    wrong_at ([], ([], tt)) (lent (0 ∷ 5 ∷ []), (1, (lent (spelt x), tt))) refl (omega arith, omega arith)
    not refl refl

-- REPACK

-- offsets, the old area, where the new offsets go, and the new area
abbrev Packs : Type 0
Packs = Bor (List ℕ) × (Bor (List ℕ) × (MutBor (List ℕ) × (MutBor (List ℕ) × Unit {0})))

abbrev fits-Packs : Packs → Bool
fits-Packs = fits_offsets ⊗ fits_lent ⊗ fits_mut_offsets ⊗ fits_mut_lent ⊗ fits_end

abbrev packs : List ℕ → List ℕ → Packs
packs os old = (lent os, (lent old, (mut_lent (replicate (length os) 0), (mut_lent (replicate 16384 0), tt))))

-- it leaves these offsets and that area, which it makes of the old offsets and the old area
abbrev leaving : (List ℕ → List ℕ → List ℕ) → (List ℕ → List ℕ → List ℕ) → Packs → Unit {0} × Packs
leaving to new a = (
  tt,
  (
    a.0,
    (
      a.1.0,
      (
        at_last a.1.1.0 (to a.0.now a.1.0.now),
        (at_last a.1.1.1.0 (new a.0.now a.1.0.now), tt),
      ),
    ),
  ),
)

-- the right ones
abbrev right_offsets : List ℕ → List ℕ → List ℕ
right_offsets os old = points_for (names_at old os)

abbrev right_area : List ℕ → List ℕ → List ℕ
right_area os old = area_for 16384 (names_at old os)

abbrev alike : Bool → Bool → Bool
alike a b = cond a b (not b)

alike_eq : (a b : Bool) → alike a b ≡ true → a ≡ b
alike_eq true b h = sym h
alike_eq false true h = h
alike_eq false false h = refl

-- names that lie within the bytes, and differ where their offsets do
clear : (os old : List ℕ) → every (fits_at old) os ≡ true
    → every (λ (a : ℕ). every (λ (b : ℕ). alike (same_name (name_at old a) (name_at old b)) (eqb a b)) os) os ≡ true
    → leb (needed (firsts (names_at old os))) 16384 ≡ true → Clear 16384 old os
clear os old f h n = record {
  fits = f;
  apart = λ a b s t. alike_eq (same_name (name_at old a) (name_at old b)) (eqb a b)
      (every_one eqb eqb-true (λ (c : ℕ). alike (same_name (name_at old a) (name_at old c)) (eqb a c)) os b
      (every_one eqb eqb-true
      (λ (d : ℕ). every (λ (c : ℕ). alike (same_name (name_at old d) (name_at old c)) (eqb d c)) os) os a h s) t);
  room = leb-true (needed (firsts (names_at old os))) 16384 n;
}

-- a test tells the offsets apart, or the areas
module _ {K : Type 0} {A R E S W : K → Type 0} {T : (k : K) → A k → Bool} {Q : (k : K) → A k → Type 0}
    {f : (k : K) → A k → R k × E k} {see : (k : K) → E k → S k} {d : (k : K) → A k → S k} {area : (k : K) → E k → W k}
    {w : (k : K) → A k → W k}
  where
    wrong_offsets : (k : K) (a : A k) → T k a ≡ true → Q k a → (test : S k → Bool) → test (see k (f k a).1) ≡ true
        → test (d k a) ≡ false
        → RuledOutWith T Q (λ k a r e. (see k e ≡ d k a) × (area k e ≡ w k a)) f
    wrong_offsets k a t q test h n = record {
      lifetimes = k;
      given = a;
      fitting = t;
      asked = q;
      broken = λ p. told_apart p.0 test h n;
    }

    wrong_bytes : (k : K) (a : A k) → T k a ≡ true → Q k a → (test : W k → Bool) → test (area k (f k a).1) ≡ true
        → test (w k a) ≡ false
        → RuledOutWith T Q (λ k a r e. (see k e ≡ d k a) × (area k e ≡ w k a)) f
    wrong_bytes k a t q test h n = record {
      lifetimes = k;
      given = a;
      fitting = t;
      asked = q;
      broken = λ p. told_apart p.1 test h n;
    }

-- offsets from the lowest to the highest
abbrev into : ℕ → List ℕ → List ℕ
into o [] = o ∷ []
into o (p ∷ os) = cond (ltb o p) (o ∷ p ∷ os) (p ∷ into o os)

abbrev rising : List ℕ → List ℕ
rising [] = []
rising (o ∷ os) = into o (rising os)

-- names stay in the order of the old area: the first entry is now one for y, which stood behind x
pub repack_in_the_old_order : RuledOutWith (λ k. fits-Packs) repack.Pre repack.Post
    (λ k a. leaving (λ os old. map (offset_in (firsts (names_at old (rising os)))) (names_at old os))
    (λ os old. area_for 16384 (names_at old (rising os))) a)
unfolding tables_open
repack_in_the_old_order =
    wrong_offsets ([], ([], ([], ([], tt)))) (packs (10 ∷ 0 ∷ []) xy) refl
    (clear (10 ∷ 0 ∷ []) xy refl refl refl, omega arith, refl, refl)
    (λ l. eqb (get_or l 0 0) 10) refl refl

-- the old area is taken over as it is: y stays, to which no entry points
pub repack_keeps_a_name_without_entries : RuledOutWith (λ k. fits-Packs) repack.Pre repack.Post
    (λ k a. leaving (λ os old. os) (λ os old. padded 16384 0 old) a)
unfolding tables_open
repack_keeps_a_name_without_entries =
    wrong_bytes ([], ([], ([], ([], tt)))) (packs (0 ∷ []) xy) refl
    (clear (0 ∷ []) xy refl refl refl, omega arith, refl, refl)
    (λ l. eqb (get_or l 10 0) 89) refl refl

-- each entry gets a name of its own: two point to x
pub repack_two_copies : RuledOutWith (λ k. fits-Packs) repack.Pre repack.Post
    (λ k a. leaving right_offsets (λ os old. padded 16384 0 (spelling (names_at old os))) a)
unfolding tables_open
repack_two_copies =
    wrong_bytes ([], ([], ([], ([], tt)))) (packs (0 ∷ 0 ∷ []) xy) refl
    (clear (0 ∷ 0 ∷ []) xy refl refl refl, omega arith, refl, refl)
    (λ l. eqb (get_or l 10 0) 88) refl refl

-- the offsets stay though the names move: y goes to 0
pub repack_offsets_stay : RuledOutWith (λ k. fits-Packs) repack.Pre repack.Post
    (λ k a. leaving (λ os old. os) right_area a)
unfolding tables_open
repack_offsets_stay =
    wrong_offsets ([], ([], ([], ([], tt)))) (packs (10 ∷ []) xy) refl
    (clear (10 ∷ []) xy refl refl refl, omega arith, refl, refl)
    (λ l. eqb (get_or l 0 0) 10) refl refl

-- each entry gets the offset of the next one's name, the last that of the first
pub repack_offset_of_the_next_name : RuledOutWith (λ k. fits-Packs) repack.Pre repack.Post
    (λ k a. leaving (λ os old. drop 1 (right_offsets os old) ++ take 1 (right_offsets os old)) right_area a)
unfolding tables_open
repack_offset_of_the_next_name =
    wrong_offsets ([], ([], ([], ([], tt)))) (packs (10 ∷ 0 ∷ []) xy) refl
    (clear (10 ∷ 0 ∷ []) xy refl refl refl, omega arith, refl, refl)
    (λ l. eqb (get_or l 0 0) 10) refl refl

-- the names go over the old area, and what is behind them stays: y goes to 0, and its old bytes are still at 10
pub repack_bytes_left_behind : RuledOutWith (λ k. fits-Packs) repack.Pre repack.Post
    (λ k a. leaving right_offsets
    (λ os old. overlaid 0 (padded 16384 0 old) (spelling (firsts (names_at old os)))) a)
unfolding tables_open
repack_bytes_left_behind =
    wrong_bytes ([], ([], ([], ([], tt)))) (packs (10 ∷ []) xy) refl
    (clear (10 ∷ []) xy refl refl refl, omega arith, refl, refl)
    (λ l. eqb (get_or l 10 0) 89) refl refl

-- POINTS

-- offsets, how many of them count, the bytes and a list of names; here the area holds x and y
abbrev Finds : Type 0
Finds = Bor (List ℕ) × (ℕ × (Bor (List ℕ) × (NameList × Unit {0})))

abbrev fits-Finds : Finds → Bool
fits-Finds = fits_offsets ⊗ fits_usize ⊗ fits_lent ⊗ fits-NameList ⊗ fits_end

abbrev finds : List Ask → Finds
finds l = (lent (0 ∷ 10 ∷ []), (2, (lent xy, (names_of l, tt))))

in_use : InUse (0 ∷ 10 ∷ []) 2 xy
unfolding tables_open
in_use = record {
  few = omega arith;
  room = omega arith;
  kept = scanned_kept xy (0 ∷ 10 ∷ []) refl;
  fit = refl;
}

-- the offset of each name is told by the names in use, those of the list and the name
abbrev Tells : Type 0
Tells = List Resource → List Resource → Resource → ℕ

abbrev tell : Tells → List Resource → NameList → Points
tell f ns l = record {
  list = record {
    count = l.count;
    names = padded longest_list zero_pointed (map
        (λ (w : Ask). record {
          exclusive = w.exclusive;
          name = record { 0 = f ns (resources (names_in l)) w.name };
        })
        (names_in l).asks);
  };
  from = needed (firsts ns);
  end = needed (with_list ns l);
}

abbrev shown : Finds → List Resource
shown a = names_at a.1.1.0.now (take a.1.0 a.0.now)

abbrev told_by : Tells → Finds → Points
told_by f a = tell f (shown a) a.1.1.1.0

-- the offset of the name behind n others
abbrev offset : ℕ → Points → ℕ
offset n p = (get_or p.list.names n zero_pointed).name.0

-- every name comes to the end: x, which is there
pub points_of_one_there_at_the_end : RuledOut (λ k. fits-Finds) points_of.Pre points_of.Post
    (λ k a. told_by (λ ns ms n. needed (firsts ns) + offset_in ms n) a)
unfolding tables_open
points_of_one_there_at_the_end =
    wrong_at ([], ([], tt)) (finds (exc x ∷ [])) refl (in_use, refl) (λ p. eqb (offset 0 p) 20) refl refl

-- a new name gets 0
pub points_of_a_new_one_at_0 : RuledOut (λ k. fits-Finds) points_of.Pre points_of.Post
    (λ k a. told_by (λ ns ms n. cond (is_in n ns) (offset_in (firsts ns) n) 0) a)
unfolding tables_open
points_of_a_new_one_at_0 =
    wrong_at ([], ([], tt)) (finds (exc z ∷ [])) refl (in_use, refl) (λ p. eqb (offset 0 p) 0) refl refl

-- all new names get the end of those in use: z and v
pub points_of_two_new_ones_at_one_place : RuledOut (λ k. fits-Finds) points_of.Pre points_of.Post
    (λ k a. told_by (λ ns ms n. offset_in (firsts ns) n) a)
unfolding tables_open
points_of_two_new_ones_at_one_place =
    wrong_at ([], ([], tt)) (finds (exc z ∷ exc v ∷ [])) refl (in_use, refl) (λ p. eqb (offset 1 p) 20) refl refl

-- where the first name stands that is like this one
abbrev first_like : (Resource → Resource → Bool) → List Resource → Resource → ℕ
first_like same [] n = 0
first_like same (m ∷ ms) n = cond (same m n) 0 (size_of m + first_like same ms n)

-- names are compared by their lengths alone: z is as long as x
pub points_of_by_lengths : RuledOut (λ k. fits-Finds) points_of.Pre points_of.Post
    (λ k a. told_by (λ ns ms n. first_like (λ (p q : Resource). eqb (size_of p) (size_of q)) (firsts (ns ++ ms)) n) a)
unfolding tables_open
points_of_by_lengths =
    wrong_at ([], ([], tt)) (finds (exc z ∷ [])) refl (in_use, refl) (λ p. eqb (offset 0 p) 0) refl refl

-- or by their minor parts: y has that of x
pub points_of_by_minor_parts : RuledOut (λ k. fits-Finds) points_of.Pre points_of.Post
    (λ k a. told_by (λ ns ms n.
    first_like (λ (p q : Resource). same_bytes p.minor q.minor) (firsts (ns ++ ms)) n) a)
unfolding tables_open
points_of_by_minor_parts =
    wrong_at ([], ([], tt)) (finds (exc y ∷ [])) refl (in_use, refl) (λ p. eqb (offset 0 p) 0) refl refl

-- the end does not count the new names
pub points_of_end_without_the_new : RuledOut (λ k. fits-Finds) points_of.Pre points_of.Post
    (λ k a. record {
      list = (points_to (shown a) a.1.1.1.0).list;
      from = needed (firsts (shown a));
      end = needed (firsts (shown a));
    })
unfolding tables_open
points_of_end_without_the_new =
    wrong_at ([], ([], tt)) (finds (exc z ∷ [])) refl (in_use, refl) (λ p. eqb p.end 20) refl refl

-- APPEND

-- an area, a list of names and their offsets; here the area holds x
abbrev Appends : Type 0
Appends = MutBor (List ℕ) × (NameList × (Points × Unit {0}))

abbrev fits-Appends : Appends → Bool
fits-Appends = fits_mut_lent ⊗ fits-NameList ⊗ fits-Points ⊗ fits_end

abbrev appends : List Ask → Appends
appends l = (mut_lent (area_for name_area (x ∷ [])), (names_of l, (points_to (x ∷ []) (names_of l), tt)))

-- it leaves that area, which it makes of the old one, the list and the offsets
abbrev leaves : (List ℕ → NameList → Points → List ℕ) → Appends → Unit {0} × Appends
leaves f a = (tt, (at_last a.0 (f a.0.now a.1.0 a.1.1.0), (a.1.0, (a.1.1.0, tt))))

-- all names of the list are written: x is there already
pub append_names_that_are_there : RuledOutWith (λ k. fits-Appends) append.Pre append.Post
    (λ k a. leaves (λ old l p. overlaid p.from old (spelling (resources (names_in l)))) a)
unfolding tables_open
append_names_that_are_there =
    wrong_with ([], tt) (appends (exc x ∷ exc y ∷ [])) refl ((refl, omega arith), (refl, leb-true _ _ refl))
    (λ l. eqb (get_or l 10 0) 88) refl refl

-- they are written at the front, over x
pub append_at_the_front : RuledOutWith (λ k. fits-Appends) append.Pre append.Post
    (λ k a. leaves (λ old l p. overlaid 0 old (spelling (new_names p l))) a)
unfolding tables_open
append_at_the_front =
    wrong_with ([], tt) (appends (exc y ∷ [])) refl ((refl, omega arith), (refl, leb-true _ _ refl))
    (λ l. eqb (get_or l 0 0) 89) refl refl

-- without length bytes
abbrev unmeasured : List Resource → List ℕ
unmeasured [] = []
unmeasured (n ∷ ns) = n.major ++ (n.minor ++ unmeasured ns)

-- the length byte is left out: 7, the minor part of v, is written in its place
pub append_without_length_bytes : RuledOutWith (λ k. fits-Appends) append.Pre append.Post
    (λ k a. leaves (λ old l p. overlaid p.from old (unmeasured (new_names p l))) a)
unfolding tables_open
append_without_length_bytes =
    wrong_with ([], tt) (appends (exc v ∷ [])) refl ((refl, omega arith), (refl, leb-true _ _ refl))
    (λ l. eqb (get_or l 18 0) 7) refl refl

-- only the first new name is written, y and not z
pub append_the_first_alone : RuledOutWith (λ k. fits-Appends) append.Pre append.Post
    (λ k a. leaves (λ old l p. overlaid p.from old (spelling (take 1 (new_names p l)))) a)
unfolding tables_open
append_the_first_alone =
    wrong_with ([], tt) (appends (exc y ∷ exc z ∷ [])) refl ((refl, omega arith), (refl, leb-true _ _ refl))
    (λ l. eqb (get_or l 20 0) 0) refl refl

-- LAWFUL NAMES

-- another test of each name
abbrev names_by : (Resource → Bool) → Scans → Bool
names_by f a = every f (names_at (bytes a) (offsets a))

-- a minor part may be empty
pub names_lawful_no_minor_part : RuledOut (λ k. fits-Scans) names_lawful.Pre names_lawful.Post
    (λ k a. names_by (λ n. leb (length n.minor) longest_minor && not (is_system n)) a)
unfolding tables_open
names_lawful_no_minor_part =
    wrong_at ([], ([], tt)) (scans (0 ∷ []) (spelt (named 88 []))) refl (omega arith, omega arith, refl)
    (λ b. b) refl refl

-- or as long as it likes: 45 bytes
pub names_lawful_45_bytes : RuledOut (λ k. fits-Scans) names_lawful.Pre names_lawful.Post
    (λ k a. names_by (λ n. leb 1 (length n.minor) && not (is_system n)) a)
unfolding tables_open
names_lawful_45_bytes =
    wrong_at ([], ([], tt)) (scans (0 ∷ []) (spelt (named 88 (replicate 45 1)))) refl (omega arith, omega arith, refl)
    (λ b. b) refl refl

-- 44 bytes are too many
pub names_lawful_not_44_bytes : RuledOut (λ k. fits-Scans) names_lawful.Pre names_lawful.Post
    (λ k a. names_by (λ n. lawful n && ltb (length n.minor) longest_minor) a)
unfolding tables_open
names_lawful_not_44_bytes =
    wrong_at ([], ([], tt)) (scans (0 ∷ []) (spelt (named 88 (replicate 44 1)))) refl (omega arith, omega arith, refl)
    not refl refl

-- a system name passes
pub names_lawful_a_system_name : RuledOut (λ k. fits-Scans) names_lawful.Pre names_lawful.Post
    (λ k a. names_by legal a)
unfolding tables_open
names_lawful_a_system_name =
    wrong_at ([], ([], tt)) (scans (0 ∷ []) (spelt sysdsn)) refl (omega arith, omega arith, refl) (λ b. b) refl refl

-- only the first offset is looked at: x, and then a system name
pub names_lawful_by_the_first_alone : RuledOut (λ k. fits-Scans) names_lawful.Pre names_lawful.Post
    (λ k a. every lawful (names_at (bytes a) (take 1 (offsets a))))
unfolding tables_open
names_lawful_by_the_first_alone =
    wrong_at ([], ([], tt)) (scans (0 ∷ 10 ∷ []) (spelt x ++ spelt sysdsn)) refl (omega arith, omega arith, refl)
    (λ b. b) refl refl

-- offsets past the count are looked at too: that of a system name does not count
pub names_lawful_past_the_count : RuledOut (λ k. fits-Scans) names_lawful.Pre names_lawful.Post
    (λ k a. every lawful (names_at (bytes a) a.0.now))
unfolding tables_open
names_lawful_past_the_count =
    wrong_at ([], ([], tt)) (lent (0 ∷ 10 ∷ []), (1, (lent (spelt x ++ spelt sysdsn), tt))) refl
    (omega arith, omega arith, refl)
    not refl refl

-- THE EMPTY AREA

-- the first byte is 1
pub empty_a_byte_in_front : RuledOut (λ k. fits_end) empty.Pre empty.Post
    (λ k a. record { bytes = 1 ∷ replicate 16383 0 })
unfolding tables_open
empty_a_byte_in_front = wrong_at tt tt refl tt (λ r. eqb (get_or r.bytes 0 0) 1) refl refl

-- the last byte is 1
pub empty_a_byte_at_the_end : RuledOut (λ k. fits_end) empty.Pre empty.Post
    (λ k a. record { bytes = replicate 16383 0 ++ (1 ∷ []) })
unfolding tables_open
empty_a_byte_at_the_end = wrong_at tt tt refl tt (λ r. eqb (get_or r.bytes 16383 0) 1) refl refl

-- x is there from the start
pub empty_with_a_name : RuledOut (λ k. fits_end) empty.Pre empty.Post (λ k a. area_of (x ∷ []))
unfolding tables_open
empty_with_a_name = wrong_at tt tt refl tt (λ r. eqb (get_or r.bytes 8 0) 1) refl refl
