-- The offsets of a list's names, name by name, and the names that stand for these by their offsets.
use Rattle.std.specs.Prelude.{◌≡◌, refl, Bool, true, false, not, Option, ◌||◌, ℕ, suc, ◌+◌, ◌*◌, ◌≤◌, ◌<◌, length, get_or, take, drop, set}
use Rattle.std.proofs.Common.{sym, ap, subst, ◌∙◌, add-one, arith, length-set, take-suc, take-take, get_or-take}
use Rattle.std.proofs.Math.Path.{ap₂}
use Rattle.std.proofs.Math.Bool.{or-false}
use mathlib.Core.List.{List, [], ◌∷◌, ◌++◌, map, map-map, append-nil, append_assoc}
use Rattle.std.proofs.lemmas.List.{length-map}
use Rattle.std.proofs.Math.Seq.{split_at, length-take-le}
use Rattle.std.proofs.lemmas.Bool.{not-true}
use Rattle.std.specs.Bool.{then_some}
use Rattle.lists.specs.Lists.{every, distinct}
use Rattle.lists.specs.Bools.{both}
use Rattle.lists.specs.Every.{some_append}
use Rattle.lists.specs.Filling.{map_at, fill_next}
use Rattle.lists.specs.Keeping.{take_map}
use Rattle.lists.specs.Once.{distinct_before}
use Rattle.lists.specs.Pick.{chain_and}
use Rattle.lists.specs.Tables.{padded, padded_take, padded_length}
use Rattle.kinds.specs.Limits.{longest_list, longest_minor, name_area}
use Rattle.kinds.specs.Ranges.{count_good}
use Rattle.kinds.specs.declared.names.NameList.{NameList}
use Rattle.kinds.specs.declared.names.Pointed.{Pointed}
use Rattle.kinds.specs.declared.names.Wanted.{Wanted}
use Rattle.rules.specs.Names as rules
use Rattle.rules.specs.Names.{Resource, Names, same_name, legal, firsts, names_good}
use Rattle.laws.specs.SameNames.{name_sym}
use Rattle.laws.specs.Renaming.{re_asked}
use Rattle.names.specs.Named.{ask_of, wanted_name, names_in}
use Rattle.names.specs.Pointers.{pointer, pointed_ask, pointed_in}
use Rattle.names.proofs.Listed.{listed, good_legal, name_short}
use Rattle.names.proofs.Shown.{shown_length}
use Rattle.namearea.specs.Firsts.{is_in}
use Rattle.namearea.specs.Spelling.{size_of, needed, offset_in}
use Rattle.namearea.specs.Pointing.{place_in, place_of, stand_of, pointed_to, zero_pointed, with_list, points_to}
use Rattle.namearea.specs.Offsets.{offset_longer, offset_inside, offset_next, end_seen, end_new}
use Rattle.namearea.specs.declared.points.Points.{Points}

-- the names of a good list differ
pub good_once : (l : Names) → names_good l ≡ true → distinct same_name (rules.names_of l) ≡ true
unfolding names_good
good_once l h = (chain_and (every legal (rules.names_of l)) _ (chain_and (count_good l.count) _ h).1).1

-- the offset that a place of the list's array gets
abbrev pub pointed_from : List Resource → Wanted → Pointed
pointed_from fs w = pointed_to fs (ask_of w)

-- the names at the front of the list's array
abbrev pub front : NameList → ℕ → List Resource
front l i = take i (map wanted_name l.names)

-- no name of a list without pairs stands before itself
not_before : (p : List Resource) (x : Resource) → every (λ (y : Resource). not (same_name y x)) p ≡ true
    → is_in x p ≡ false
not_before [] x h = refl
not_before (y ∷ p) x h =
    let b = both (not (same_name y x)) (every (λ (z : Resource). not (same_name z x)) p) h in
    ap₂ (λ (s t : Bool). s || t) (name_sym x y ∙ not-true (same_name y x) b.0) (not_before p x b.1)

-- the names before place i have their offsets, and with them the names end at `end`
pub record Pointing (ns : List Resource) (l : NameList) (names : List Pointed) (from end i : ℕ) : Type 0 where
  pub within : i ≤ l.count
  pub few : l.count ≤ longest_list
  pub many : l.count ≤ length l.names
  pub full : length names ≡ longest_list
  pub starts : from ≡ needed (firsts ns)
  pub low : from ≤ name_area
  pub ends : end ≡ needed (firsts (ns ++ front l i))
  pub near : end ≤ name_area + 53 * i
  pub so_far : names ≡ padded longest_list zero_pointed (map (pointed_from (with_list ns l)) (take i l.names))

-- no name has its offset yet
pub pointing_none : {ns : List Resource} {l : NameList} {from : ℕ} → l.count ≤ longest_list
    → l.count ≤ length l.names → from ≡ needed (firsts ns) → from ≤ name_area
    → Pointing ns l (padded longest_list zero_pointed []) from from 0
pointing_none {ns} h k e r = record {
  within = omega arith;
  few = h;
  many = k;
  full = padded_length longest_list zero_pointed [] (omega arith);
  starts = e;
  low = r;
  ends = e ∙ ap (λ (a : List Resource). needed (firsts a)) (sym (append-nil ns));
  near = omega arith;
  so_far = refl;
}

-- one name more, with what the search gives of it
module _ {ns : List Resource} {l : NameList} {names : List Pointed} {from end i : ℕ}
    (s : Pointing ns l names from end i) (here : i < l.count) (good : names_good (names_in l) ≡ true) (d : Wanted) where
  abbrev w : Wanted
  w = get_or l.names i d

  abbrev x : Resource
  x = wanted_name w

  abbrev vs : List Resource
  vs = map wanted_name l.names

  -- its minor part is not too long
  pub short : (get_or l.names i d).name.length ≤ longest_minor
  short = name_short l i d here s.many (good_legal (names_in l) good)

  many : l.count ≤ length vs
  many = omega (arith, s.many, length-map l.names wanted_name)

  at_i : get_or vs i x ≡ x
  at_i = map_at wanted_name l.names i d x (omega (arith, s.many))

  next : front l (i + 1) ≡ front l i ++ (x ∷ [])
  next =
      ap (front l) (add-one i) ∙ take-suc vs i x (omega (arith, many))
      ∙ ap (λ (y : Resource). front l i ++ (y ∷ [])) at_i

  rest : List Resource
  rest = drop (suc i) (front l l.count)

  split : rules.names_of (names_in l) ≡ front l i ++ (x ∷ rest)
  unfolding rest
  split =
      listed l ∙ split_at (front l l.count) i x (omega (arith, length-take-le l.count vs many))
      ∙ ap₂ (λ (k : List Resource) (y : Resource). k ++ (y ∷ rest)) (take-take i l.count vs (omega arith))
      (get_or-take l.count vs i x here ∙ at_i)

  apart : is_in x (front l i) ≡ false
  apart =
      not_before (front l i) x
      (distinct_before same_name (front l i) x rest (ap (distinct same_name) (sym split) ∙ good_once (names_in l) good))

  -- it is there before exactly when it is in use
  in_both : (b : Bool) → is_in x ns ≡ b → is_in x (ns ++ front l i) ≡ b
  in_both b h = some_append (same_name x) ns (front l i) ∙ ap₂ (λ (u v : Bool). u || v) h apart ∙ or-false b

  joined : ns ++ front l (i + 1) ≡ (ns ++ front l i) ++ (x ∷ [])
  joined = ap (λ (k : List Resource). ns ++ k) next ∙ sym (append_assoc ns (front l i) (x ∷ []))

  whole_list : ns ++ rules.names_of (names_in l) ≡ (ns ++ front l i) ++ (x ∷ rest)
  whole_list = ap (λ (k : List Resource). ns ++ k) split ∙ sym (append_assoc ns (front l i) (x ∷ rest))

  size_is : size_of x ≡ w.name.length + 9
  size_is = ap (λ (k : ℕ). k + 9) (shown_length w.name.length w.name.minor)

  -- what comes of one that is there, and of one that is not
  record Stood (at then : ℕ) : Type 0 where
    offset : at ≡ offset_in (with_list ns l) x
    ends : then ≡ needed (firsts (ns ++ front l (i + 1)))
    near : (at ≤ name_area + 53 * i) × (then ≤ name_area + 53 * (i + 1))

  module _ (p : Option ℕ) (place : p ≡ place_of ns x) where
    abbrev stand : Option ℕ → ℕ × ℕ
    stand q = stand_of q end w.name.length

    stood : (b : Bool) → is_in x ns ≡ b
        → Stood (stand (then_some b (place_in ns x))).0 (stand (then_some b (place_in ns x))).1
    stood true h = record {
      offset = sym (offset_longer ns (rules.names_of (names_in l)) x h);
      ends =
          s.ends
          ∙ sym (ap (λ (k : List Resource). needed (firsts k)) joined ∙ end_seen (ns ++ front l i) x (in_both true h));
      near = (omega (arith, s.starts, s.low, offset_inside ns x h), omega (arith, s.near));
    }
    stood false h = record {
      offset =
          s.ends
          ∙ sym (ap (λ (k : List Resource). offset_in (firsts k) x) whole_list
          ∙ offset_next (ns ++ front l i) rest x (in_both false h));
      ends =
          ap₂ (λ (a b : ℕ). a + b) s.ends (sym size_is)
          ∙ sym (ap (λ (k : List Resource). needed (firsts k)) joined ∙ end_new (ns ++ front l i) x (in_both false h));
      near = (omega (arith, s.near), omega (arith, s.near, short));
    }

    module _ (r : ℕ × ℕ) (is : r ≡ stand_of p end (get_or l.names i d).name.length) where
      settled : Stood r.0 r.1
      settled = subst (λ (t : ℕ × ℕ). Stood t.0 t.1) (sym (is ∙ ap stand place)) (stood (is_in x ns) refl)

      -- its offset is low enough for two bytes
      pub stand_low : r.0 ≤ name_area + 53 * i
      stand_low = settled.near.0

      -- it has its offset
      pub pointing_next : (v : Pointed) → v.exclusive ≡ (get_or l.names i d).exclusive → v.name.0 ≡ r.0
          → Pointing ns l (set names i v) from r.1 (i + 1)
      pointing_next v f g = record {
        within = omega arith;
        few = s.few;
        many = s.many;
        full = length-set names i v ∙ s.full;
        starts = s.starts;
        low = s.low;
        ends = settled.ends;
        near = settled.near.1;
        so_far =
            fill_next (pointed_from (with_list ns l)) longest_list zero_pointed l.names i d names v
            (omega (arith, s.many)) (omega (arith, s.few)) s.so_far
            (λ t. record { exclusive = f t; name = record { 0 = (g ∙ settled.offset) t } });
      }

-- all of them
pub pointing_all : {ns : List Resource} {l : NameList} {names : List Pointed} {from end i : ℕ}
    → Pointing ns l names from end i → i ≡ l.count
    → ◌≡◌ {A = Points} (record { list = record { count = l.count; names = names }; from = from; end = end })
    (points_to ns l)
unfolding points_to
pointing_all {ns} {l} {names} {from} {end} s e =
    let F = with_list ns l in
    let a : names ≡ padded longest_list zero_pointed (map (pointed_to F) (names_in l).asks) =
    s.so_far ∙ ap (λ (j : ℕ). padded longest_list zero_pointed (map (pointed_from F) (take j l.names))) e
    ∙ ap (padded longest_list zero_pointed)
    (sym (map-map (pointed_to F) ask_of (take l.count l.names))
    ∙ ap (map (pointed_to F)) (sym (take_map ask_of l.count l.names))) in
    let b : end ≡ needed F =
    s.ends ∙ ap (λ (j : ℕ). needed (firsts (ns ++ front l j))) e
    ∙ ap (λ (m : List Resource). needed (firsts (ns ++ m))) (sym (listed l)) in
    λ t. record { list = record { count = l.count; names = a t }; from = s.starts t; end = b t }

-- the names by their offsets are the list's, each name by where it stands
pub pointed_list : (ns : List Resource) (l : NameList) → l.count ≤ length l.names
    → ◌≡◌ {A = Names} (pointed_in (points_to ns l).list) (record {
      count = l.count;
      asks = map (re_asked (λ (n : Resource). pointer (offset_in (with_list ns l) n))) (names_in l).asks;
    })
unfolding points_to
pointed_list ns l few =
    let F = with_list ns l in
    let asks = (names_in l).asks in
    let n : l.count ≡ length (map (pointed_to F) asks) =
    sym (length-map asks (pointed_to F)
    ∙ length-take-le l.count (map ask_of l.names) (omega (arith, length-map l.names ask_of))) in
    let e : take l.count (map pointed_ask (padded longest_list zero_pointed (map (pointed_to F) asks)))
    ≡ map (re_asked (λ (m : Resource). pointer (offset_in F m))) asks =
    take_map pointed_ask l.count (padded longest_list zero_pointed (map (pointed_to F) asks))
    ∙ ap (map pointed_ask)
    (ap (λ (j : ℕ). take j (padded longest_list zero_pointed (map (pointed_to F) asks))) n
    ∙ padded_take longest_list zero_pointed (map (pointed_to F) asks))
    ∙ map-map pointed_ask (pointed_to F) asks in
    λ t. record { count = l.count; asks = e t }
