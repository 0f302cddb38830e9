-- The names beside a request, as the loops over their array find them.
use mathlib.Core.Path.{◌≡◌, refl, sym, ap, ◌∙◌}
use mathlib.Core.Bool.{Bool, true}
use mathlib.Core.List.{map, map-map}
use Prim.Native.Nat.{ℕ, ◌≤◌, ◌<◌}
use native.Mathlib.Omega.{arith}
use lib.Dec.{eqb}
use lib.ListN.{length, get_or, take, length-map, get_or-map}
use lib.Seq.{get_or-take, length-take-le}
use Rattle.lists.specs.Lists.{every, some, distinct}
use Rattle.lists.specs.Loops.{all_shown, any_shown}
use Rattle.lists.specs.Once.{distinct_map}
use Rattle.lists.specs.Keeping.{take_map}
use Rattle.lists.specs.Setting.{every_at_lem}
use Rattle.lists.specs.Bools.{both}
use Rattle.lists.specs.Pick.{chain_and}
use Rattle.kinds.specs.Limits.{longest_list, longest_minor, major_bytes}
use Rattle.kinds.specs.Ranges.{count_good}
use Rattle.kinds.specs.Within.{within}
use Rattle.kinds.specs.declared.names.Wanted.{Wanted}
use Rattle.kinds.specs.declared.names.NameList.{NameList}
use Rattle.rules.specs.Names.{Resource, Names, same_name, legal, name_of, names_of, names_good}
use Rattle.names.specs.Named.{ask_of, wanted_name, same_wanted, names_in}
use Rattle.names.proofs.Shown.{shown_length}

pub listed : (l : NameList) → names_of (names_in l) ≡ take l.count (map wanted_name l.names)
listed l =
    sym (take_map name_of l.count (map ask_of l.names)) ∙ ap (take l.count) (map-map name_of ask_of l.names)

-- a test of each name within the count, as a loop over the array makes it
pub every_listed : (f : Resource → Bool) (l : NameList)
    → every (λ (w : Wanted). f (wanted_name w)) (take l.count l.names) ≡ every f (names_of (names_in l))
every_listed f l = all_shown wanted_name f l.count l.names ∙ ap (every f) (sym (listed l))

pub some_listed : (f : Resource → Bool) (l : NameList)
    → some (λ (w : Wanted). f (wanted_name w)) (take l.count l.names) ≡ some f (names_of (names_in l))
some_listed f l = any_shown wanted_name f l.count l.names ∙ ap (some f) (sym (listed l))

-- no name is twice among those within the count
pub distinct_listed : (l : NameList)
    → distinct same_wanted (take l.count l.names) ≡ distinct same_name (names_of (names_in l))
distinct_listed l =
    sym (distinct_map wanted_name same_wanted same_name (λ v w. refl) (take l.count l.names))
    ∙ ap (distinct same_name) (sym (take_map wanted_name l.count l.names) ∙ sym (listed l))

-- a good count
pub count_few : (n : ℕ) → count_good n ≡ true → n ≤ longest_list
count_few n h = (within 1 longest_list n h).1

-- what is known of a good list
pub good_count : (l : Names) → names_good l ≡ true → l.count ≤ longest_list
unfolding names_good
good_count l h = count_few l.count (chain_and (count_good l.count) _ h).0

pub good_legal : (l : Names) → names_good l ≡ true → every legal (names_of l) ≡ true
unfolding names_good
good_legal l h = (chain_and (every legal (names_of l)) _ (chain_and (count_good l.count) _ h).1).0

-- a legal name's minor part is within its array
pub legal_short : (n : Resource) → legal n ≡ true → length n.minor ≤ longest_minor
unfolding legal
legal_short n h = (within 1 longest_minor _ (both (eqb (length n.major) major_bytes) _ h).1).1

pub name_short : (l : NameList) (i : ℕ) (d : Wanted) → i < l.count → l.count ≤ length l.names
    → every legal (names_of (names_in l)) ≡ true → (get_or l.names i d).name.length ≤ longest_minor
name_short l i d h k e =
    let ns = map wanted_name l.names in
    let w = get_or l.names i d in
    let few : l.count ≤ length ns = rw (length-map l.names wanted_name) k in
    let s : legal (get_or (take l.count ns) i (wanted_name d)) ≡ true =
    every_at_lem legal (take l.count ns) i (wanted_name d) (ap (every legal) (sym (listed l)) ∙ e)
    (rw (length-take-le l.count ns few) h) in
    let g : get_or (take l.count ns) i (wanted_name d) ≡ wanted_name w =
    get_or-take l.count ns i (wanted_name d) h ∙ get_or-map wanted_name l.names i d in
    let m : length (wanted_name w).minor ≤ longest_minor = legal_short (wanted_name w) (ap legal (sym g) ∙ s) in
    omega (arith, shown_length w.name.length w.name.minor)
