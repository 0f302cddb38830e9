-- The loops that make the list of queues: over the entries before one, over those for a name, and over all.
use mathlib.Core.Path.{◌≡◌, refl, sym, ap, ap₂, ◌∙◌}
use mathlib.Core.Bool.{Bool, true, false, not, cond}
use mathlib.Core.List.{List, [], ◌∷◌, ◌++◌, map, map-append, append-nil}
use Prim.Native.Nat.{ℕ, ◌+◌, ◌*◌, ◌≤◌, ◌<◌}
use native.Mathlib.Omega.{arith}
use mir.Val.{bool_byte}
use lib.Dec.{eqb}
use lib.ListN.{length, get_or, take, drop, length-append, length-map, length-take, take-append-drop, get_or-map}
use lib.Seq.{slice, slice_empty, take_all}
use Rattle.lists.specs.Lists.{keep, some, gathered}
use Rattle.lists.specs.Every.{some_of}
use Rattle.lists.specs.Keeping.{keep_append, take_map}
use Rattle.lists.specs.Changing.{map_next}
use Rattle.kinds.specs.Limits.{most_entries}
use Rattle.kinds.specs.declared.names.NameOffset.{NameOffset}
use Rattle.kinds.specs.declared.names.Slot.{Slot}
use Rattle.names.specs.Pointers.{pointer, same_pointer}
use Rattle.rules.specs.Names.{Resource, same_name, firsts}
use Rattle.rules.specs.Control.{Entry, control}
use Rattle.rules.specs.Reports.{Standing, standing, standing_for, queue_item, itemised, queues_of, queues_list}
use Rattle.laws.specs.SameNames.{name_sym}
use Rattle.laws.specs.Among.{some_same, kept_none}
use Rattle.laws.specs.Slices.{slice_more, slice_rest}
use Rattle.laws.specs.Gathering.{gathered_append, gathered_next, gathered_long}
use Rattle.laws.specs.Grouping.{firsts_append, firsts_next}
use Rattle.laws.specs.Standings.{same_names, name_in, standing_names, standing_many, standing_at, queues_many}
use Rattle.queue.specs.declared.Queue.{Queue}
use Rattle.queue.specs.Queues.{entry_of, entries_in}
use Rattle.rings.specs.Listings.{stored_items, with_item, with_items}
use Rattle.rings.specs.Standings.{entry_names, queue_from}
use Rattle.rings.specs.declared.listing.Listing.{Listing}
use Rattle.rings.proofs.Items.{items_stored}

-- WHAT STANDS BEFORE AN ENTRY

-- the slots that are used, and the entries that the first k of them and one of them show
abbrev used : Queue → List Slot
used q = take q.count q.slots

pub front : (q : Queue) (k : ℕ) → map entry_of (take k (used q)) ≡ take k (entries_in q)
front q k = sym (ap (take k) (take_map entry_of q.count q.slots) ∙ take_map entry_of k (used q))

shown : (q : Queue) (i : ℕ) (d : Slot) → get_or (entries_in q) i (entry_of d) ≡ entry_of (get_or (used q) i d)
shown q i d =
    ap (λ (es : List Entry). get_or es i (entry_of d)) (take_map entry_of q.count q.slots)
    ∙ get_or-map entry_of (used q) i d

-- one of them is for the name
pub some_named : (es : List Slot) (n : NameOffset)
    → some (λ (s : Slot). eqb s.name.0 n.0) es ≡ some (same_name (pointer n.0)) (entry_names (map entry_of es))
some_named es n =
    sym (some_of (λ (e : Entry). e.name) (same_name (pointer n.0)) (map entry_of es)
    ∙ some_of entry_of (λ (e : Entry). same_name (pointer n.0) e.name) es
    ∙ some_same (λ (s : Slot). same_name (pointer n.0) (pointer s.name.0))
    (λ (s : Slot). eqb s.name.0 n.0)
    (λ s. name_sym (pointer n.0) (pointer s.name.0) ∙ same_pointer s.name.0 n.0) es)

-- THE ENTRIES FOR A NAME

-- what stands at place j, where the slot is s
abbrev stands_at : Queue → ℕ → Slot → Standing
stands_at q j s = record { place = j; entry = entry_of s; owner = control (take j (entries_in q)) (entry_of s) }

many : (q : Queue) → length (standing (entries_in q)) ≡ length (used q)
many q =
    standing_many [] (entries_in q) ∙ ap length (take_map entry_of q.count q.slots) ∙ length-map (used q) entry_of

stands : (q : Queue) (j : ℕ) (d : Slot) → j < length (used q)
    → get_or (standing (entries_in q)) j (stands_at q j d) ≡ stands_at q j (get_or (used q) j d)
stands q j d h =
    let n = many q in
    let z : 0 + j ≡ j = omega arith in
    standing_at [] (entries_in q) j (stands_at q j d) (entry_of d) (omega (arith, standing_many [] (entries_in q)))
    ∙ ap₂ (λ (m : ℕ) (x : Entry). record { place = m; entry = x; owner = control (take j (entries_in q)) x }) z
    (shown q j d)

-- 1 for an owner or 0 for a waiter
pub owner_byte : {a b : Bool} → a ≡ b → bool_byte a ≡ cond b 1 0
owner_byte {a} e = one a ∙ ap (λ (t : Bool). cond t 1 0) e
  where
    one : (t : Bool) → bool_byte t ≡ cond t 1 0
    one true = refl
    one false = refl

-- one item more, and how many bytes and items there are
items_last : (l : Listing) (xs : List Standing) (x : Standing)
    → with_items queue_item l (xs ++ (x ∷ [])) ≡ with_item (with_items queue_item l xs) (queue_item x)
items_last l [] x = refl
items_last l (y ∷ xs) x = items_last (with_item l (queue_item y)) xs x

bytes_now : (l : Listing) (xs : List Standing) → (with_items queue_item l xs).count ≡ l.count + 2 * length xs
bytes_now l [] = omega arith
bytes_now l (x ∷ xs) = let e = bytes_now (with_item l (queue_item x)) xs in omega arith

items_now : (l : Listing) (xs : List Standing) → (with_items queue_item l xs).items ≡ l.items + length xs
items_now l [] = omega arith
items_now l (x ∷ xs) = let e = items_now (with_item l (queue_item x)) xs in omega arith

abbrev walked : Queue → ℕ → NameOffset → ℕ → List Standing
walked q i n j = standing_for (pointer n.0) (slice i j (standing (entries_in q)))

-- the loop that has looked at the places i to j - 1
pub record Walked (q : Queue) (i : ℕ) (n : NameOffset) (l : Listing) (j : ℕ) (r : Listing) : Type 0 where
  pub so_far : r ≡ with_items queue_item l (walked q i n j)

pub walk_start : (q : Queue) (i : ℕ) (n : NameOffset) (l : Listing) → Walked q i n l i l
walk_start q i n l = record {
  so_far =
      ap (λ (m : List Standing). with_items queue_item l (standing_for (pointer n.0) m))
      (sym (slice_empty i (standing (entries_in q))));
}

module _ {q : Queue} {i : ℕ} {n : NameOffset} {l : Listing} {j : ℕ} {r : Listing} (v : Walked q i n l j r) where
  pub walk_end : length (used q) ≤ j → r ≡ with_items queue_item l (queue_from q i n)
  walk_end e =
      v.so_far
      ∙ ap (λ (m : List Standing). with_items queue_item l (standing_for (pointer n.0) (drop i m)))
      (take_all j (standing (entries_in q)) (omega (arith, many q)))

  -- the slot at place j, whose name is compared with n
  module _ (low : i ≤ j) (h : j < length (used q)) (d : Slot) where
    abbrev same : Bool
    same = eqb (get_or (used q) j d).name.0 n.0

    one_more : walked q i n (j + 1)
        ≡ walked q i n j ++ cond same (stands_at q j (get_or (used q) j d) ∷ []) []
    one_more =
        let s = standing (entries_in q) in
        let x = get_or s j (stands_at q j d) in
        ap (standing_for (pointer n.0)) (slice_more s i j low (stands_at q j d) (omega (arith, many q)))
        ∙ keep_append (λ (y : Standing). same_name y.entry.name (pointer n.0)) (slice i j s) (x ∷ [])
        ∙ ap (λ (m : List Standing). walked q i n j ++ m)
        (ap (λ (y : Standing). standing_for (pointer n.0) (y ∷ [])) (stands q j d h)
        ∙ ap (λ (a : Bool). cond a (stands_at q j (get_or (used q) j d) ∷ []) [])
        (same_pointer (get_or (used q) j d).name.0 n.0))

    pub walk_passed : same ≡ false → (r' : Listing) → r' ≡ r → Walked q i n l (j + 1) r'
    walk_passed f r' e = record {
      so_far =
          e ∙ v.so_far ∙ ap (with_items queue_item l)
          (sym (one_more ∙ ap (λ (a : Bool). walked q i n j ++ cond a (stands_at q j (get_or (used q) j d) ∷ []) []) f
          ∙ append-nil (walked q i n j)));
    }

    module _ (f : same ≡ true) where
      longer : walked q i n (j + 1) ≡ walked q i n j ++ (stands_at q j (get_or (used q) j d) ∷ [])
      longer =
          one_more ∙ ap (λ (a : Bool). walked q i n j ++ cond a (stands_at q j (get_or (used q) j d) ∷ []) []) f

      pub walk_kept : (r' : Listing) → r' ≡ with_item r (queue_item (stands_at q j (get_or (used q) j d)))
          → Walked q i n l (j + 1) r'
      walk_kept r' e = record {
        so_far =
            e ∙ ap (λ (m : Listing). with_item m (queue_item (stands_at q j (get_or (used q) j d)))) v.so_far
            ∙ sym (ap (with_items queue_item l) longer
            ∙ items_last l (walked q i n j) (stands_at q j (get_or (used q) j d)));
      }

      few : length (walked q i n j) + 1 ≤ length (queue_from q i n)
      few =
          let s = standing (entries_in q) in
          let a : queue_from q i n ≡ walked q i n (j + 1) ++ standing_for (pointer n.0) (drop (j + 1) s) =
          ap (standing_for (pointer n.0)) (slice_rest s i (j + 1) (omega arith) (omega (arith, many q)))
          ∙ keep_append (λ (y : Standing). same_name y.entry.name (pointer n.0)) (slice i (j + 1) s)
          (drop (j + 1) s) in
          omega (
            arith,
            ap length a,
            ap length longer,
            length-append (walked q i n (j + 1)) (standing_for (pointer n.0) (drop (j + 1) s)),
            length-append (walked q i n j) (stands_at q j (get_or (used q) j d) ∷ []),
          )

      -- there is room for it
      pub walk_room : (r.count + 2 ≤ l.count + 2 * length (queue_from q i n))
          × (r.items + 1 ≤ l.items + length (queue_from q i n))
      walk_room =
          let a : r.count ≡ l.count + 2 * length (walked q i n j) =
          ap (λ (m : Listing). m.count) v.so_far ∙ bytes_now l (walked q i n j) in
          let b : r.items ≡ l.items + length (walked q i n j) =
          ap (λ (m : Listing). m.items) v.so_far ∙ items_now l (walked q i n j) in
          (omega (arith, few), omega (arith, few))

-- THE WHOLE LIST

-- a name's queue, and the queues of the names that the first i entries have
abbrev group : Queue → Resource → List Standing
group q n = standing_for n (standing (entries_in q))

abbrev grouped : Queue → ℕ → List Standing
grouped q i = gathered (group q) (firsts (entry_names (take i (entries_in q))))

pub record Grouped (q : Queue) (i : ℕ) (l : Listing) : Type 0 where
  pub so_far : l ≡ stored_items (itemised queue_item (grouped q i))

pub group_start : (q : Queue) (l : Listing) → l ≡ stored_items (record { items = 0; bytes = [] }) → Grouped q 0 l
group_start q l e = record { so_far = e }

-- they are no more than all
grouped_few : (q : Queue) (i : ℕ) → length (grouped q i) ≤ length (used q)
unfolding queues_of
grouped_few q i =
    let es = entries_in q in
    let new : Resource → Bool = λ n. not (some (same_name n) (entry_names (take i es))) in
    let later = keep new (firsts (entry_names (drop i es))) in
    let a : queues_of es ≡ grouped q i ++ gathered (group q) later =
    ap (λ (l : List Entry). gathered (group q) (firsts (entry_names l))) (sym (take-append-drop i es))
    ∙ ap (λ (l : List Resource). gathered (group q) (firsts l))
    (map-append (λ (e : Entry). e.name) (take i es) (drop i es))
    ∙ ap (gathered (group q)) (firsts_append same_names (entry_names (take i es)) (entry_names (drop i es)))
    ∙ gathered_append (group q) (firsts (entry_names (take i es))) later in
    omega (
      arith,
      ap length a,
      length-append (grouped q i) (gathered (group q) later),
      queues_many es,
      many q,
      standing_many [] es,
    )

-- where no key is the same none is kept
none_kept : (n : Resource) (l : List Standing) → some (same_name n) (map name_in l) ≡ false → standing_for n l ≡ []
none_kept n l e =
    kept_none (λ (x : Standing). same_name (name_in x) n) l
    (some_same (λ (x : Standing). same_name (name_in x) n) (λ (x : Standing). same_name n (name_in x))
    (λ x. name_sym (name_in x) n) l
    ∙ sym (some_of name_in (same_name n) l) ∙ e)

module _ {q : Queue} {i : ℕ} {l : Listing} (v : Grouped q i l) (h : i < length (used q)) (d : Slot) where
  -- the name at place i
  abbrev named : Resource
  named = pointer (get_or (used q) i d).name.0

  -- whether an entry before it has it
  abbrev had : Bool
  had = some (same_name named) (entry_names (map entry_of (take i (used q))))

  had_is : some (same_name named) (entry_names (take i (entries_in q))) ≡ had
  had_is = ap (λ (es : List Entry). some (same_name named) (entry_names es)) (sym (front q i))

  names_more : entry_names (take (i + 1) (entries_in q)) ≡ entry_names (take i (entries_in q)) ++ (named ∷ [])
  names_more =
      let e : get_or (entries_in q) i (entry_of d) ≡ entry_of (get_or (used q) i d) =
      ap (λ (es : List Entry). get_or es i (entry_of d)) (take_map entry_of q.count q.slots)
      ∙ get_or-map entry_of (take q.count q.slots) i d in
      map_next (λ (x : Entry). x.name) (entries_in q) i (entry_of d)
      (omega (arith, many q, standing_many [] (entries_in q)))
      ∙ ap (λ (x : Entry). entry_names (take i (entries_in q)) ++ (x.name ∷ [])) (shown q i d)

  groups_more : (b : Bool) → b ≡ had
      → grouped q (i + 1)
      ≡ gathered (group q)
      (firsts (entry_names (take i (entries_in q))) ++ cond b [] (named ∷ []))
  groups_more b t =
      let ns = entry_names (take i (entries_in q)) in
      ap (λ (m : List Resource). gathered (group q) (firsts m)) names_more
      ∙ ap (gathered (group q)) (firsts_next same_names ns named
      ∙ ap (λ (a : Bool). firsts ns ++ cond a [] (named ∷ [])) (had_is ∙ sym t))

  -- an earlier entry has the name
  pub group_passed : (b : Bool) → b ≡ had → b ≡ true
      → (l' : Listing) → l' ≡ l → Grouped q (i + 1) l'
  group_passed b t f l' e = record {
    so_far =
        e ∙ v.so_far ∙ ap (λ (m : List Standing). stored_items (itemised queue_item m))
        (sym (groups_more b t
        ∙ ap (λ (a : Bool). gathered (group q)
        (firsts (entry_names (take i (entries_in q))) ++ cond a [] (named ∷ []))) f
        ∙ ap (gathered (group q))
        (append-nil (firsts (entry_names (take i (entries_in q)))))));
  }

  -- no earlier entry has it: its queue stands from place i on
  module _ (b : Bool) (t : b ≡ had) (f : b ≡ false) where
    whole_queue : standing_for named (standing (entries_in q)) ≡ queue_from q i (get_or (used q) i d).name
    whole_queue =
        let s = standing (entries_in q) in
        let e : map name_in (take i s) ≡ entry_names (take i (entries_in q)) =
        sym (take_map name_in i s) ∙ ap (take i) (standing_names [] (entries_in q))
        ∙ take_map (λ (x : Entry). x.name) i (entries_in q) in
        ap (standing_for named) (sym (take-append-drop i s))
        ∙ keep_append (λ (x : Standing). same_name x.entry.name named) (take i s) (drop i s)
        ∙ ap (λ (m : List Standing). m ++ standing_for named (drop i s))
        (none_kept named (take i s) (ap (some (same_name named)) e ∙ had_is ∙ sym t ∙ f))

    with_queue : grouped q (i + 1) ≡ grouped q i ++ queue_from q i (get_or (used q) i d).name
    with_queue =
        groups_more b t
        ∙ ap (λ (a : Bool). gathered (group q) (firsts (entry_names (take i (entries_in q))) ++ cond a [] (named ∷ []))) f
        ∙ gathered_next (group q) (firsts (entry_names (take i (entries_in q)))) named
        ∙ ap (λ (m : List Standing). grouped q i ++ m) whole_queue

    few_grouped : length (grouped q i) + length (queue_from q i (get_or (used q) i d).name) ≤ length (used q)
    few_grouped =
        omega (
          arith,
          ap length with_queue,
          grouped_few q (i + 1),
          length-append (grouped q i) (queue_from q i (get_or (used q) i d).name),
        )

    pub group_room : (l.count + 2 * length (queue_from q i (get_or (used q) i d).name) ≤ 2 * length (used q))
        × (l.items + length (queue_from q i (get_or (used q) i d).name) ≤ length (used q))
    group_room =
        let a : l.count ≡ 2 * length (grouped q i) =
        ap (λ (m : Listing). m.count) v.so_far ∙ gathered_long queue_item 2 (λ x. refl) (grouped q i) in
        let e : l.items ≡ length (grouped q i) = ap (λ (m : Listing). m.items) v.so_far in
        (omega (arith, few_grouped), omega (arith, few_grouped))

    pub group_kept : q.count ≤ most_entries
        → (l' : Listing) → l' ≡ with_items queue_item l (queue_from q i (get_or (used q) i d).name) → Grouped q (i + 1) l'
    group_kept m l' e = record {
      so_far =
          items_stored queue_item (grouped q i) (queue_from q i (get_or (used q) i d).name) l l'
          (omega (
            arith,
            few_grouped,
            length-take q.count q.slots,
            gathered_long queue_item 2 (λ x. refl) (grouped q i),
            gathered_long queue_item 2 (λ x. refl) (queue_from q i (get_or (used q) i d).name),
          )) v.so_far e
          ∙ ap (λ (r : List Standing). stored_items (itemised queue_item r)) (sym with_queue);
    }

pub group_end : (q : Queue) (i : ℕ) (l : Listing) → Grouped q i l → length (used q) ≤ i
    → l ≡ stored_items (queues_list (entries_in q))
unfolding queues_list queues_of
group_end q i l v e =
    v.so_far
    ∙ ap (λ (es : List Entry). stored_items (itemised queue_item
    (gathered (group q) (firsts (entry_names es)))))
    (take_all i (entries_in q) (omega (arith, many q, standing_many [] (entries_in q))))
