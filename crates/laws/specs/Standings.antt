-- WHO STANDS IN WHICH QUEUE: the list has each entry once, name by name in the order of first entries, and for each
-- name its queue and its owners as the rules have them. Each of its items has the entry's place in the queue.
use Rattle.std.specs.Prelude.{◌≡◌, refl, Bool, true, false, cond, List, [], ◌∷◌, ◌++◌, map, ℕ, zero, suc, ◌+◌, ◌<◌, length, get_or, take}
use Rattle.std.proofs.Common.{sym, ap, ap₂, ◌∙◌, append_assoc, append-nil, le_of_suc-le-suc, arith, length-append}
use Rattle.std.proofs.lemmas.List.{length-map}
use Rattle.std.proofs.Math.Seq.{append_snoc}
use Rattle.lists.specs.Lists.{keep, gathered}
use Rattle.lists.specs.Keeping.{keep_map}
use Rattle.rules.specs.Names.{Resource, same_name, firsts}
use Rattle.rules.specs.Control.{Entry, queue_of, control, holding, owners}
use Rattle.rules.specs.Reports.{Standing, standing_from, standing, standing_for, queues_of}
use Rattle.laws.specs.SameNames.{name_eq, eq_name, name_sym}
use Rattle.laws.specs.Among.{Each, each_append, each_at, each_keep}
use Rattle.laws.specs.Grouping.{Same, groups, groups_length, groups_of, firsts_of_groups, keep_swap}
use Rattle.laws.specs.Together.{together, groups_together, one_grouping}

pub same_names : Same same_name
same_names = record {
  itself = λ x. eq_name x x refl;
  turned = name_sym;
  onward = λ x y z h k. eq_name x z (name_eq x y h ∙ name_eq y z k);
}

abbrev pub entry_in : Standing → Entry
entry_in x = x.entry

abbrev pub name_in : Standing → Resource
name_in x = x.entry.name

-- THE QUEUE ITSELF

standing_entries : (p q : List Entry) → map entry_in (standing_from p q) ≡ q
standing_entries p [] = refl
standing_entries p (e ∷ q) = ap (λ (r : List Entry). e ∷ r) (standing_entries (p ++ (e ∷ [])) q)

pub standing_names : (p q : List Entry) → map name_in (standing_from p q) ≡ map (λ (e : Entry). e.name) q
standing_names p [] = refl
standing_names p (e ∷ q) = ap (λ (r : List Resource). e.name ∷ r) (standing_names (p ++ (e ∷ [])) q)

pub standing_many : (p q : List Entry) → length (standing_from p q) ≡ length q
standing_many p q = sym (length-map (standing_from p q) entry_in) ∙ ap length (standing_entries p q)

-- what stands at place i of it
pub standing_at : (p q : List Entry) (i : ℕ) (d : Standing) (e : Entry) → i < length q
    → get_or (standing_from p q) i d
    ≡ record { place = length p + i; entry = get_or q i e; owner = control (p ++ take i q) (get_or q i e) }
standing_at p [] i d e h = absurd (omega arith)
standing_at p (x ∷ q) zero d e h =
    let z : length p ≡ length p + 0 = omega arith in
    ap₂ (λ (n : ℕ) (l : List Entry). record { place = n; entry = x; owner = control l x }) z (sym (append-nil p))
standing_at p (x ∷ q) (suc i) d e h =
    let z : length (p ++ (x ∷ [])) + i ≡ length p + suc i = omega (arith, length-append p (x ∷ [])) in
    standing_at (p ++ (x ∷ [])) q i d e (le_of_suc-le-suc h)
    ∙ ap₂ (λ (n : ℕ) (l : List Entry). record { place = n; entry = get_or q i e; owner = control l (get_or q i e) }) z
    (append_snoc p x (take i q))

standing_holding : (p q : List Entry)
    → map entry_in (keep (λ (x : Standing). x.owner) (standing_from p q)) ≡ holding p q
standing_holding p [] = refl
standing_holding p (e ∷ q) = one (control p e) (standing_holding (p ++ (e ∷ [])) q)
  where
    rest : List Standing
    rest = keep (λ (x : Standing). x.owner) (standing_from (p ++ (e ∷ [])) q)

    one : (b : Bool) → map entry_in rest ≡ holding (p ++ (e ∷ [])) q
        → map entry_in (cond b (record { place = length p; entry = e; owner = control p e } ∷ rest) rest)
        ≡ cond b (e ∷ holding (p ++ (e ∷ [])) q) (holding (p ++ (e ∷ [])) q)
    one true h = ap (λ (r : List Entry). e ∷ r) h
    one false h = h

-- those for a name are its queue, and those of them that own are its owners
for_name : (n : Resource) (q : List Entry) → map entry_in (standing_for n (standing q)) ≡ queue_of n q
for_name n q =
    sym (keep_map entry_in (λ (e : Entry). same_name e.name n) (standing q)) ∙ ap (queue_of n) (standing_entries [] q)

owns_name : (n : Resource) (q : List Entry)
    → map entry_in (keep (λ (x : Standing). x.owner) (standing_for n (standing q))) ≡ owners n q
owns_name n q =
    ap (map entry_in)
    (keep_swap (λ (x : Standing). x.owner) (λ (x : Standing). same_name x.entry.name n) (standing q))
    ∙ sym (keep_map entry_in (λ (e : Entry). same_name e.name n) (keep (λ (x : Standing). x.owner) (standing q)))
    ∙ ap (queue_of n) (standing_holding [] q)

-- NAME BY NAME

in_groups : (q : List Entry) → queues_of q ≡ groups same_name name_in (standing q)
unfolding queues_of
in_groups q =
    ap (λ (ns : List Resource). gathered (λ (n : Resource). standing_for n (standing q)) (firsts ns))
    (sym (standing_names [] q))

-- each entry once
pub queues_many : (q : List Entry) → length (queues_of q) ≡ length q
queues_many q = ap length (in_groups q) ∙ groups_length same_names name_in (standing q) ∙ standing_many [] q

queues_stand : (n : Resource) (q : List Entry) → standing_for n (queues_of q) ≡ standing_for n (standing q)
queues_stand n q = ap (standing_for n) (in_groups q) ∙ groups_of same_names name_in n (standing q)

-- ".. its owners and waiters in queue order"
pub queues_for : (n : Resource) (q : List Entry) → map entry_in (standing_for n (queues_of q)) ≡ queue_of n q
queues_for n q = ap (map entry_in) (queues_stand n q) ∙ for_name n q

pub queues_owners : (n : Resource) (q : List Entry)
    → map entry_in (keep (λ (x : Standing). x.owner) (standing_for n (queues_of q))) ≡ owners n q
queues_owners n q =
    ap (λ (l : List Standing). map entry_in (keep (λ (x : Standing). x.owner) l)) (queues_stand n q) ∙ owns_name n q

-- "for each name in the order of its first entry .."
pub queues_in_order : (q : List Entry)
    → firsts (map name_in (queues_of q)) ≡ firsts (map (λ (e : Entry). e.name) q)
queues_in_order q =
    ap (λ (l : List Standing). firsts (map name_in l)) (in_groups q)
    ∙ firsts_of_groups same_names name_in (standing q) ∙ ap firsts (standing_names [] q)

-- and each name's items stand together
pub queues_together : (q : List Entry) → together same_name name_in (queues_of q) ≡ true
queues_together q =
    ap (together same_name name_in) (in_groups q) ∙ groups_together same_names name_in (standing q)

-- no second list has all that
pub one_queues_list : (q : List Entry) (l : List Standing) → together same_name name_in l ≡ true
    → firsts (map name_in l) ≡ firsts (map (λ (e : Entry). e.name) q)
    → ((n : Resource) → standing_for n l ≡ standing_for n (standing q)) → l ≡ queues_of q
one_queues_list q l h e g =
    one_grouping same_names name_in l (standing q) h (e ∙ ap firsts (sym (standing_names [] q))) g ∙ sym (in_groups q)

-- PLACES

-- where an item's entry stands in the queue, and that it has control there or not
pub record Placed (q : List Entry) (x : Standing) : Type 0 where
  pub before : List Entry
  pub after : List Entry
  pub split : q ≡ before ++ (x.entry ∷ after)
  pub place : x.place ≡ length before
  pub owner : x.owner ≡ control before x.entry

standing_placed : (p q : List Entry) → Each (Placed (p ++ q)) (standing_from p q)
standing_placed p [] = tt
standing_placed p (e ∷ q) = (
  record { before = p; after = q; split = refl; place = refl; owner = refl },
  rw (append_assoc p (e ∷ []) q) at (standing_placed (p ++ (e ∷ [])) q),
)

all_placed : (q : List Entry) (ns : List Resource)
    → Each (Placed q) (gathered (λ (n : Resource). standing_for n (standing q)) ns)
all_placed q [] = tt
all_placed q (n ∷ ns) =
    each_append (Placed q) (standing_for n (standing q)) (gathered (λ (m : Resource). standing_for m (standing q)) ns)
    (each_keep (Placed q) (λ (x : Standing). same_name (name_in x) n) (standing q) (standing_placed [] q))
    (all_placed q ns)

-- every item of the list has the place at which its entry stands, and is an owner exactly when the entry has control
pub queues_placed : (q : List Entry) (l : List Standing) (x : Standing) (m : List Standing)
    → queues_of q ≡ l ++ (x ∷ m) → Placed q x
unfolding queues_of
queues_placed q l x m e =
    each_at (Placed q) l x m (rw e at (all_placed q (firsts (map (λ (y : Entry). y.name) q))))
