-- The new names' bytes, written behind those in use, name by name; and which names are new.
use Rattle.std.specs.Prelude.{◌≡◌, refl, Bool, true, not, cond, ℕ, suc, ◌+◌, ◌≤◌, ◌<◌, ltb, get_or, take, drop, set}
use Rattle.std.proofs.Math.Path.{sym, ap}
use Rattle.std.proofs.Common.{ap₂, ◌∙◌, add-one, arith, length-append, length-drop, take-append-drop, drop_of_length-le, take_at, drop_at, drop-drop, drop-cons, get_or-take, length-take-le}
use Rattle.std.proofs.Math.Bool.{false}
use mathlib.Core.List.{List, [], ◌∷◌, ◌++◌, map, append_assoc}
use Rattle.std.proofs.Math.ListN.{length, length-take}
use Rattle.std.proofs.lemmas.List.{length-map, set_split}
use Rattle.std.proofs.lemmas.Bool.{not-true}
use Rattle.std.proofs.Math.Seq.{append_snoc}
use Rattle.lists.specs.Lists.{keep, every, some, distinct}
use Rattle.lists.specs.Bools.{both}
use Rattle.lists.specs.Every.{none_every}
use Rattle.lists.specs.Filling.{map_at}
use Rattle.lists.specs.Keeping.{keep_among, keep_all, every_kept}
use Rattle.lists.specs.Setting.{every_at_lem}
use Rattle.lists.specs.Tables.{padded}
use Rattle.kinds.specs.Limits.{longest_minor, name_area}
use Rattle.kinds.specs.declared.names.NameList.{NameList}
use Rattle.kinds.specs.declared.names.Pointed.{Pointed}
use Rattle.kinds.specs.declared.names.Wanted.{Wanted}
use Rattle.rules.specs.Names.{Resource, Ask, same_name, name_of, names_of, legal, firsts, names_good}
use Rattle.laws.specs.Grouping.{firsts_append}
use Rattle.laws.specs.Standings.{same_names}
use Rattle.names.specs.Named.{ask_of, wanted_name, names_in}
use Rattle.names.proofs.Listed.{legal_short, good_legal}
use Rattle.names.proofs.Shown.{shown_length}
use Rattle.namearea.specs.Firsts.{is_in}
use Rattle.namearea.specs.Spelling.{spelt, size_of, spelling, needed, whole, spelt_length, spelling_length}
use Rattle.namearea.specs.Spelling.{needed_append}
use Rattle.namearea.specs.Room.{legal_whole}
use Rattle.namearea.specs.Pointing.{pointed_to, with_list, points_to, overlaid, new_from, new_names}
use Rattle.namearea.specs.Offsets.{offset_tells}
use Rattle.namearea.specs.Placing.{good_once}

-- Bytes over bytes.

overlaid_none : (at : ℕ) (bytes : List ℕ) → overlaid at bytes [] ≡ bytes
overlaid_none at bytes = take-append-drop at bytes

pub overlaid_length : (at : ℕ) (bytes part : List ℕ) → at + length part ≤ length bytes
    → length (overlaid at bytes part) ≡ length bytes
overlaid_length at bytes part h =
    let a = length-append (take at bytes) (part ++ drop (length part) (drop at bytes)) in
    let b = length-append part (drop (length part) (drop at bytes)) in
    let d = length-drop (length part) (drop at bytes) in
    omega (arith, length-take-le at bytes (omega arith), length-drop at bytes)

-- a part that is put there
pub overlaid_put : (at m : ℕ) (bytes new part : List ℕ) → new ≡ part → m ≡ length part
    → take at bytes ++ (new ++ drop m (drop at bytes)) ≡ overlaid at bytes part
overlaid_put at m bytes new part e f =
    ap₂ (λ (k : ℕ) (r : List ℕ). take at bytes ++ (r ++ drop k (drop at bytes))) f e

-- one part behind the other
overlaid_more : (at : ℕ) (bytes s t : List ℕ) → at ≤ length bytes
    → overlaid (at + length s) (overlaid at bytes s) t ≡ overlaid at bytes (s ++ t)
overlaid_more at bytes s t h =
    let front = take at bytes ++ s in
    let back = drop (length s) (drop at bytes) in
    let n : length front ≡ at + length s =
    length-append (take at bytes) s ∙ ap (λ (k : ℕ). k + length s) (length-take-le at bytes h) in
    let e : overlaid at bytes s ≡ front ++ back = sym (append_assoc (take at bytes) s back) in
    let k : ℕ = at + length s in
    let a : take k (overlaid at bytes s) ≡ front = ap (take k) e ∙ take_at front back k n in
    let b : drop k (overlaid at bytes s) ≡ back = ap (drop k) e ∙ drop_at front back k n in
    let d : drop (length t) back ≡ drop (length (s ++ t)) (drop at bytes) =
    drop-drop (length t) (length s) (drop at bytes)
    ∙ ap (λ (j : ℕ). drop j (drop at bytes)) (sym (length-append s t)) in
    ap₂ (λ (u v : List ℕ). u ++ (t ++ v)) a (ap (drop (length t)) b ∙ d)
    ∙ append_assoc (take at bytes) s (t ++ drop (length (s ++ t)) (drop at bytes))
    ∙ ap (λ (u : List ℕ). take at bytes ++ u) (sym (append_assoc s t (drop (length (s ++ t)) (drop at bytes))))

-- one byte
overlaid_one : (at : ℕ) (bytes : List ℕ) (b : ℕ) → at < length bytes → set bytes at b ≡ overlaid at bytes (b ∷ [])
overlaid_one at bytes b h =
    let z : suc at ≡ at + 1 = omega arith in
    set_split bytes at b h
    ∙ ap (λ (l : List ℕ). take at bytes ++ (b ∷ l)) (ap (λ (k : ℕ). drop k bytes) z ∙ sym (drop-drop 1 at bytes))

-- a name's three parts
pub overlaid_spelt : (at : ℕ) (bytes one two : List ℕ) (n : Resource) (b : ℕ) (minor : List ℕ) → length n.major ≡ 8
    → at + (length n.minor + 9) ≤ length bytes → b ≡ length n.minor → minor ≡ n.minor
    → one ≡ overlaid at bytes n.major → two ≡ overlaid (at + 9) (set one (at + 8) b) minor
    → two ≡ overlaid at bytes (spelt n)
overlaid_spelt at bytes one two n b minor e h f g p q =
    let major = n.major in
    let long : length one ≡ length bytes = ap length p ∙ overlaid_length at bytes major (omega arith) in
    let j : at + 8 ≡ at + length major = omega arith in
    let k : at + 9 ≡ at + length (major ++ (b ∷ [])) = omega (arith, length-append major (b ∷ [])) in
    let a : set one (at + 8) b ≡ overlaid at bytes (major ++ (b ∷ [])) =
    overlaid_one (at + 8) one b (omega arith)
    ∙ ap₂ (λ (i : ℕ) (l : List ℕ). overlaid i l (b ∷ [])) j p
    ∙ overlaid_more at bytes major (b ∷ []) (omega arith) in
    q ∙ ap₂ (λ (i : ℕ) (l : List ℕ). overlaid i l minor) k a
    ∙ overlaid_more at bytes (major ++ (b ∷ [])) minor (omega arith)
    ∙ ap (overlaid at bytes) (append_snoc major b minor ∙ ap₂ (λ (i : ℕ) (l : List ℕ). major ++ (i ∷ l)) f g)

-- the names that are new, from place i of the list on
abbrev pub new_rest : ℕ → List Pointed → NameList → ℕ → List Resource
new_rest from ps l i = new_from from (drop i ps) (drop i (names_in l).asks)

-- the new names before place i are written, and those from there on come to `at`
pub record Writing (from : ℕ) (ps : List Pointed) (l : NameList) (old bytes : List ℕ) (at i : ℕ) : Type 0 where
  pub within : i ≤ l.count
  pub few : l.count ≤ length l.names
  pub many : l.count ≤ length ps
  pub long : length bytes ≡ name_area
  pub room : at + length (spelling (new_rest from ps l i)) ≤ name_area
  pub left : overlaid at bytes (spelling (new_rest from ps l i))
      ≡ overlaid from old (spelling (new_from from ps (names_in l).asks))

-- nothing is written yet
pub writing_none : {from : ℕ} {ps : List Pointed} {l : NameList} {bytes : List ℕ} → l.count ≤ length l.names
    → l.count ≤ length ps → length bytes ≡ name_area
    → from + length (spelling (new_from from ps (names_in l).asks)) ≤ name_area → Writing from ps l bytes bytes from 0
writing_none h k e r = record { within = omega arith; few = h; many = k; long = e; room = r; left = refl }

module _ {from : ℕ} {ps : List Pointed} {l : NameList} {old bytes : List ℕ} {at i : ℕ}
    (s : Writing from ps l old bytes at i) where
  abbrev asks : List Ask
  asks = (names_in l).asks

  abbrev rest : ℕ → List Resource
  rest j = new_rest from ps l j

  -- all is written
  pub writing_all : l.count ≤ i → bytes ≡ overlaid from old (spelling (new_from from ps (names_in l).asks))
  unfolding spelling
  writing_all h =
      let n : length asks ≤ i = omega (arith, length-take l.count (map ask_of l.names)) in
      let e : rest i ≡ [] = ap (new_from from (drop i ps)) (drop_of_length-le asks n) in
      sym (ap (λ (r : List Resource). overlaid at bytes (spelling r)) e ∙ overlaid_none at bytes) ∙ s.left

  module _ (here : i < l.count) (d : Wanted) (z : Pointed) where
    abbrev w : Wanted
    w = get_or l.names i d

    abbrev x : Resource
    x = wanted_name w

    many : length asks ≡ l.count
    many = length-take-le l.count (map ask_of l.names) (omega (arith, s.few, length-map l.names ask_of))

    asked : get_or asks i (ask_of d) ≡ ask_of w
    asked =
        get_or-take l.count (map ask_of l.names) i (ask_of d) here
        ∙ map_at ask_of l.names i d (ask_of d) (omega (arith, s.few))

    step : (b : Bool) → ltb (get_or ps i z).name.0 from ≡ b → rest i ≡ cond b (rest (i + 1)) (x ∷ rest (i + 1))
    step b h =
        ap₂ (λ (u : List Pointed) (v : List Ask). new_from from u v) (drop-cons ps i z (omega (arith, s.many)))
        (drop-cons asks i (ask_of d) (omega (arith, many)) ∙ ap (λ (a : Ask). a ∷ drop (suc i) asks) asked)
        ∙ ap₂ (λ (t : Bool) (j : ℕ). cond t (rest j) (x ∷ rest j)) h (sym (add-one i))

    -- a name that is in use is not written
    pub writing_old : ltb (get_or ps i z).name.0 from ≡ true → Writing from ps l old bytes at (i + 1)
    writing_old h =
        let e : rest i ≡ rest (i + 1) = step true h in
        record {
          within = omega arith;
          few = s.few;
          many = s.many;
          long = s.long;
          room = omega (arith, s.room, ap (λ (r : List Resource). length (spelling r)) e);
          left = ap (λ (r : List Resource). overlaid at bytes (spelling r)) (sym e) ∙ s.left;
        }

    module _ (good : every legal (names_of (names_in l)) ≡ true) where
      legal_here : legal x ≡ true
      legal_here =
          ap legal (sym (map_at name_of asks i (ask_of d) x (omega (arith, many)) ∙ ap name_of asked))
          ∙ every_at_lem legal (map name_of asks) i x good (omega (arith, many, length-map asks name_of))

      -- its minor part is not too long
      pub short : (get_or l.names i d).name.length ≤ longest_minor
      short = omega (arith, legal_short x legal_here, shown_length w.name.length w.name.minor)

      size_here : length (spelt x) ≡ size_of x
      size_here = spelt_length x (legal_whole x legal_here)

      -- one that is new: there is room for it, and the rest is written behind it
      module _ (new : ltb (get_or ps i z).name.0 from ≡ false) where
        rest_new : spelling (rest i) ≡ spelt x ++ spelling (rest (i + 1))
        unfolding spelling
        rest_new = ap spelling (step false new)

        parts : length (spelling (rest i)) ≡ size_of x + length (spelling (rest (i + 1)))
        parts =
            ap length rest_new ∙ length-append (spelt x) (spelling (rest (i + 1)))
            ∙ ap (λ (n : ℕ). n + length (spelling (rest (i + 1)))) size_here

        -- there is room for it
        pub room_here : at + size_of (wanted_name (get_or l.names i d)) ≤ name_area
        room_here = omega (arith, s.room, parts)

        -- written, it leaves the names behind it
        pub writing_new : (next : ℕ) (then : List ℕ) → next ≡ at + size_of (wanted_name (get_or l.names i d))
            → then ≡ overlaid at bytes (spelt (wanted_name (get_or l.names i d)))
            → Writing from ps l old then next (i + 1)
        writing_new next then e f = record {
          within = omega arith;
          few = s.few;
          many = s.many;
          long =
              ap length f ∙ overlaid_length at bytes (spelt x) (omega (arith, size_here, room_here, s.long))
              ∙ s.long;
          room = omega (arith, parts, s.room);
          left =
              ap₂ (λ (k : ℕ) (b : List ℕ). overlaid k b (spelling (rest (i + 1))))
              (e ∙ ap (λ (k : ℕ). at + k) (sym size_here)) f
              ∙ overlaid_more at bytes (spelt x) (spelling (rest (i + 1))) (omega (arith, s.room, s.long))
              ∙ ap (overlaid at bytes) (sym rest_new) ∙ s.left;
        }

-- the new names are exactly those that are not in use
pub new_names_lem : (ns : List Resource) (l : NameList)
    → new_names (points_to ns l) l ≡ keep (λ (n : Resource). not (is_in n ns)) (names_of (names_in l))
unfolding points_to new_names padded
new_names_lem ns l = along (names_in l).asks _
  where
    more : List Resource
    more = names_of (names_in l)

    along : (asks : List Ask) (r : List Pointed)
        → new_from (needed (firsts ns)) (map (pointed_to (with_list ns l)) asks ++ r) asks
        ≡ keep (λ (n : Resource). not (is_in n ns)) (map name_of asks)
    along [] r = refl
    along (a ∷ asks) r =
        ap (λ (b : Bool). cond b (new_from (needed (firsts ns)) (map (pointed_to (with_list ns l)) asks ++ r) asks)
        (a.name ∷ new_from (needed (firsts ns)) (map (pointed_to (with_list ns l)) asks ++ r) asks))
        (offset_tells ns more a.name)
        ∙ one (is_in a.name ns) (along asks r)
      where
        one : (b : Bool) {u v : List Resource} → u ≡ v → cond b u (a.name ∷ u) ≡ cond (not b) (a.name ∷ v) v
        one true e = e
        one false e = ap (λ (t : List Resource). a.name ∷ t) e

-- Where a list's names differ, the new ones come behind those in use, and take what lies between the two ends.

firsts_differ : (ns : List Resource) → distinct same_name ns ≡ true → firsts ns ≡ ns
firsts_differ [] h = refl
firsts_differ (n ∷ ns) h =
    let b = both (not (some (same_name n) ns)) (distinct same_name ns) h in
    ap (λ (l : List Resource). n ∷ keep (λ (m : Resource). not (same_name n m)) l) (firsts_differ ns b.1)
    ∙ ap (λ (l : List Resource). n ∷ l)
    (keep_among (λ (m : Resource). not (same_name n m)) (λ (m : Resource). not (same_name n m)) (λ (m : Resource). true)
    (λ m e. e) ns (none_every (same_name n) ns (not-true (some (same_name n) ns) b.0))
    ∙ keep_all ns)

-- all names are those in use, then the new ones
pub with_new : (ns : List Resource) (l : NameList) → distinct same_name (names_of (names_in l)) ≡ true
    → with_list ns l ≡ firsts ns ++ new_names (points_to ns l) l
with_new ns l h =
    firsts_append same_names ns (names_of (names_in l))
    ∙ ap (λ (r : List Resource). firsts ns ++ keep (λ (n : Resource). not (is_in n ns)) r)
    (firsts_differ (names_of (names_in l)) h)
    ∙ ap (λ (r : List Resource). firsts ns ++ r) (sym (new_names_lem ns l))

-- the new names end where all names do
pub new_end : (ns : List Resource) (l : NameList) → names_good (names_in l) ≡ true
    → (points_to ns l).from + length (spelling (new_names (points_to ns l) l)) ≡ (points_to ns l).end
unfolding points_to
new_end ns l h =
    let whole-new : every whole (new_names (points_to ns l) l) ≡ true =
    ap (every whole) (new_names_lem ns l)
    ∙ every_kept (λ (n : Resource). not (is_in n ns)) legal whole (λ n u v. legal_whole n v) (names_of (names_in l))
    (good_legal (names_in l) h) in
    ap (λ (k : ℕ). needed (firsts ns) + k) (spelling_length (new_names (points_to ns l) l) whole-new)
    ∙ sym (ap needed (with_new ns l (good_once (names_in l) h))
    ∙ needed_append (firsts ns) (new_names (points_to ns l) l))
