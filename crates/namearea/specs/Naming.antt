-- Names and pointers: the queue holds a pointer for each name; what it shows is read from the area. Both ways, entry
-- by entry, and that neither way two names become one.
use Rattle.std.specs.Prelude.{◌≡◌, refl, Bool, true, List, [], ◌∷◌, ◌++◌, map, ◌⊎◌, ℕ, ◌≤◌, eqb}
use Rattle.std.proofs.Common.{sym, ap, ap₂, ◌∙◌, inl, inr, eq-eqb}
use Rattle.std.proofs.lemmas.Bool.{false≢true}
use Rattle.lists.specs.Lists.{every, some}
use Rattle.lists.specs.Bools.{both, join, either}
use Rattle.lists.specs.Every.{every_of}
use Rattle.rules.specs.Names.{Resource, same_name, lawful, firsts}
use Rattle.rules.specs.Control.{Entry}
use Rattle.names.specs.Pointers.{pointer, offset_of, same_pointer, lawful_pointer}
use Rattle.laws.specs.SameNames.{name_eq, eq_name}
use Rattle.laws.specs.Renaming.{re_named, Apart, all_known}
use Rattle.laws.specs.NamesAfter.{entry_names, in_itself}
use Rattle.namearea.specs.There.{or_late}
use Rattle.namearea.specs.Firsts.{is_in, firsts_in}
use Rattle.namearea.specs.Spelling.{offset_in, name_at, needed, whole}
use Rattle.namearea.specs.Scanning.{area_for, names_of, Kept}
use Rattle.namearea.specs.Passing.{reads}
use Rattle.namearea.specs.Settled.{offset_apart, kept_apart}
use Rattle.namearea.specs.Offsets.{offset_longer}

-- what a pointer shows
abbrev pub shown_in : List ℕ → Resource → Resource
shown_in bytes n = name_at bytes (offset_of n)

-- where a name stands among these
abbrev pub point_to : List Resource → Resource → Resource
point_to ns n = pointer (offset_in (firsts ns) n)

-- where entries point
abbrev pub offsets_of : List Entry → List ℕ
offsets_of q = map (λ (e : Entry). offset_of e.name) q

-- the entry's name is a pointer
abbrev is_pointer : Entry → Bool
is_pointer e = same_name e.name (pointer (offset_of e.name))

-- every name of these entries is
abbrev pub all_pointers : List Entry → Bool
all_pointers q = every is_pointer q

-- pointers are lawful names
pub pointers_lawful : (q : List Entry) → all_pointers q ≡ true → every (λ (e : Entry). lawful e.name) q ≡ true
pointers_lawful [] h = refl
pointers_lawful (e ∷ q) h =
    let b = both (is_pointer e) (all_pointers q) h in
    join (lawful e.name) _ (ap lawful (name_eq e.name _ b.0) ∙ lawful_pointer (offset_of e.name))
    (pointers_lawful q b.1)

-- entries with other names, and the names that they then have
pub names_changed : (f : Resource → Resource) (q : List Entry) → entry_names (map (re_named f) q) ≡ map f (entry_names q)
names_changed f [] = refl
names_changed f (e ∷ q) = ap (λ (l : List Resource). f e.name ∷ l) (names_changed f q)

-- what the entries show
pub names_shown : (bytes : List ℕ) (q : List Entry)
    → entry_names (map (re_named (shown_in bytes)) q) ≡ names_of bytes (offsets_of q)
names_shown bytes [] = refl
names_shown bytes (e ∷ q) = ap (λ (l : List Resource). name_at bytes (offset_of e.name) ∷ l) (names_shown bytes q)

-- where they point
pub offsets_pointed : (ns : List Resource) (q : List Entry)
    → offsets_of (map (re_named (point_to ns)) q) ≡ map (offset_in (firsts ns)) (entry_names q)
offsets_pointed ns [] = refl
offsets_pointed ns (e ∷ q) = ap (λ (l : List ℕ). offset_in (firsts ns) e.name ∷ l) (offsets_pointed ns q)

-- entries that point have pointers for names
pub pointed_pointers : (ns : List Resource) (q : List Entry) → all_pointers (map (re_named (point_to ns)) q) ≡ true
pointed_pointers ns [] = refl
pointed_pointers ns (e ∷ q) =
    join (is_pointer (re_named (point_to ns) e)) _ (eq_name (point_to ns e.name) _ refl) (pointed_pointers ns q)

-- the names of entries are among the entries' names
pub names_known : (q : List Entry) → all_known (λ n. is_in n (entry_names q)) q ≡ true
names_known q =
    sym (every_of (λ (e : Entry). e.name) (λ (n : Resource). is_in n (entry_names q)) q) ∙ in_itself (entry_names q)

-- Neither way two names become one.

-- a pointer among these has its offset among theirs
pointer_there : (q : List Entry) (n : Resource) → all_pointers q ≡ true → is_in n (entry_names q) ≡ true
    → (n ≡ pointer (offset_of n)) × (some (eqb (offset_of n)) (offsets_of q) ≡ true)
pointer_there [] n h k = absurd (false≢true k)
pointer_there (e ∷ q) n h k =
    let b = both (is_pointer e) (all_pointers q) h in
    one (either (same_name n e.name) (is_in n (entry_names q)) k) b.0 (pointer_there q n b.1)
  where
    one : (same_name n e.name ≡ true) ⊎ (is_in n (entry_names q) ≡ true) → is_pointer e ≡ true
        → (is_in n (entry_names q) ≡ true → (n ≡ pointer (offset_of n)) × (some (eqb (offset_of n)) (offsets_of q) ≡ true))
        → (n ≡ pointer (offset_of n)) × (some (eqb (offset_of n)) (offsets_of (e ∷ q)) ≡ true)
    one (inl z) p ih =
        let g : n ≡ e.name = name_eq n e.name z in (
          g ∙ name_eq e.name _ p ∙ ap (λ (m : Resource). pointer (offset_of m)) (sym g),
          rw (eq-eqb (offset_of n) (offset_of e.name) (ap offset_of g)),
        )
    one (inr z) p ih = let r = ih z in (r.0, or_late (eqb (offset_of n) (offset_of e.name)) _ r.1)

-- pointers that differ show names that differ
pub shown_apart : (bytes : List ℕ) (q : List Entry) → all_pointers q ≡ true → Kept bytes (offsets_of q)
    → Apart (shown_in bytes) (λ n. is_in n (entry_names q))
shown_apart bytes q h k = record {
  same = λ a b u v.
      let x = pointer_there q a h u in
      let y = pointer_there q b h v in
      kept_apart bytes (offsets_of q) k (offset_of a) (offset_of b) x.1 y.1
      ∙ sym (same_pointer (offset_of a) (offset_of b))
      ∙ ap₂ (λ (m n : Resource). same_name m n) (sym x.0) (sym y.0);
}

-- names that differ stand at offsets that differ
pub pointed_apart : (ns : List Resource) → Apart (point_to ns) (λ n. is_in n ns)
pointed_apart ns = record {
  same = λ a b u v.
      same_pointer (offset_in (firsts ns) a) (offset_in (firsts ns) b)
      ∙ offset_apart (firsts ns) a b (firsts_in a ns ∙ u) (firsts_in b ns ∙ v);
}

-- There and back.

-- pointers, what they show, and where that stands among the names that are shown and more
pub back_pointed : (bytes : List ℕ) (q : List Entry) (ms : List Resource) → all_pointers q ≡ true
    → Kept bytes (offsets_of q)
    → map (re_named (point_to (names_of bytes (offsets_of q) ++ ms))) (map (re_named (shown_in bytes)) q) ≡ q
back_pointed bytes q ms h k =
    each q h k.points
    (sym (every_of (name_at bytes) (λ (n : Resource). is_in n ns) (offsets_of q)) ∙ in_itself ns)
  where
    ns : List Resource
    ns = names_of bytes (offsets_of q)

    each : (r : List Entry) → all_pointers r ≡ true
        → offsets_of r ≡ map (offset_in (firsts ns)) (names_of bytes (offsets_of r))
        → every (λ (o : ℕ). is_in (name_at bytes o) ns) (offsets_of r) ≡ true
        → map (re_named (point_to (ns ++ ms))) (map (re_named (shown_in bytes)) r) ≡ r
    each [] p z w = refl
    each (e ∷ r) p z w =
        let b = both (is_pointer e) (all_pointers r) p in
        let d = both (is_in (name_at bytes (offset_of e.name)) ns) _ w in
        let o : offset_of e.name ≡ offset_in (firsts ns) (name_at bytes (offset_of e.name)) = cc in
        let g : point_to (ns ++ ms) (name_at bytes (offset_of e.name)) ≡ e.name =
        ap pointer (offset_longer ns ms (name_at bytes (offset_of e.name)) d.0 ∙ sym o)
        ∙ sym (name_eq e.name _ b.0) in
        ap₂ (λ (m : Resource) (l : List Entry). record { task = e.task; exclusive = e.exclusive; name = m } ∷ l) g
        (each r b.1 (cc) d.1)

-- names, where they stand, and what lies there
pub back_shown : (size : ℕ) (ns : List Resource) (q : List Entry) → every whole (firsts ns) ≡ true
    → needed (firsts ns) ≤ size → all_known (λ n. is_in n ns) q ≡ true
    → map (re_named (shown_in (area_for size ns))) (map (re_named (point_to ns)) q) ≡ q
back_shown size ns [] w r k = refl
back_shown size ns (e ∷ q) w r k =
    let b = both (is_in e.name ns) _ k in
    ap₂ (λ (m : Resource) (l : List Entry). record { task = e.task; exclusive = e.exclusive; name = m } ∷ l)
    (reads size ns w r e.name b.0) (back_shown size ns q w r b.1)
