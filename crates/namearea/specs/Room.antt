-- How many bytes names need at most.
use Rattle.std.specs.Prelude.{◌≡◌, refl, Bool, true, false, not, cond, ◌||◌, List, [], ◌∷◌, ◌+◌, ◌*◌, ◌≤◌, leb, length}
use Rattle.std.proofs.Common.{sym, ap, ◌∙◌, arith, leb-true}
use Rattle.std.proofs.lemmas.Bool.{false≢true, not-true}
use Rattle.lists.specs.Lists.{keep, every, some, distinct}
use Rattle.lists.specs.Bools.{both, join, or_left, or_right}
use Rattle.lists.specs.Every.{every_gives}
use Rattle.lists.specs.Keeping.{every_keep, length_keep}
use Rattle.kinds.specs.Limits.{longest_minor, most_entries, name_area}
use Rattle.kinds.specs.Ranges.{minor_good}
use Rattle.rules.specs.Names.{Resource, same_name, legal, firsts}
use Rattle.laws.specs.SameNames.{name_eq}
use Rattle.laws.specs.Grouping.{firsts_once, some_given}
use Rattle.namearea.specs.Firsts.{differs, is_in, firsts_in}
use Rattle.namearea.specs.Spelling.{size_of, needed, whole}

-- what holds of all names holds of the different ones
pub every_first : (p : Resource → Bool) (ns : List Resource) → every p ns ≡ true → every p (firsts ns) ≡ true
every_first p [] h = refl
every_first p (n ∷ ns) h =
    let b = both (p n) (every p ns) h in
    join (p n) _ b.0 (every_keep p (differs n) (firsts ns) (every_first p ns b.1))

-- Fewer names.

-- what is kept needs no more
needed_keep : (p : Resource → Bool) (l : List Resource) → needed (keep p l) ≤ needed l
unfolding needed
needed_keep p [] = omega arith
needed_keep p (x ∷ l) = one (p x) (needed_keep p l)
  where
    one : (b : Bool) → needed (keep p l) ≤ needed l → needed (cond b (x ∷ keep p l) (keep p l)) ≤ size_of x + needed l
    one true h = omega arith
    one false h = omega arith

-- a name that is there, and the others
needed_out : (n : Resource) (l : List Resource) → is_in n l ≡ true → size_of n + needed (keep (differs n) l) ≤ needed l
unfolding needed
needed_out n [] h = absurd (false≢true h)
needed_out n (x ∷ l) h = one (same_name n x) refl h (needed_out n l)
  where
    one : (b : Bool) → same_name n x ≡ b → (b || is_in n l) ≡ true
        → (is_in n l ≡ true → size_of n + needed (keep (differs n) l) ≤ needed l)
        → size_of n + needed (cond (not b) (x ∷ keep (differs n) l) (keep (differs n) l)) ≤ size_of x + needed l
    one true e k ih =
        let z : size_of n ≡ size_of x = ap size_of (name_eq n x e) in
        let w = needed_keep (differs n) l in
        omega arith
    one false e k ih = let z = ih k in omega arith

-- names that are all there and none of which is n are all among the others
others_in : (n : Resource) (l ds : List Resource) → some (same_name n) ds ≡ false
    → every (λ (m : Resource). is_in m l) ds ≡ true → every (λ (m : Resource). is_in m (keep (differs n) l)) ds ≡ true
others_in n l [] h k = refl
others_in n l (d ∷ ds) h k =
    let b = both (is_in d l) (every (λ (m : Resource). is_in m l) ds) k in
    let out : same_name n d ≡ false = or_left (same_name n d) (some (same_name n) ds) h in
    join (is_in d (keep (differs n) l)) _
    (some_given (same_name d) (differs n)
    (λ x e. ap (differs n) (sym (name_eq d x e)) ∙ ap not out) l ∙ b.0)
    (others_in n l ds (or_right (same_name n d) (some (same_name n) ds) h) b.1)

once_needed : (ds l : List Resource) → distinct same_name ds ≡ true → every (λ (n : Resource). is_in n l) ds ≡ true
    → needed ds ≤ needed l
unfolding needed
once_needed [] l h k = omega arith
once_needed (d ∷ ds) l h k =
    let a = both (not (some (same_name d) ds)) (distinct same_name ds) h in
    let b = both (is_in d l) (every (λ (n : Resource). is_in n l) ds) k in
    let z = needed_out d l b.0 in
    let y = once_needed ds (keep (differs d) l) a.1
    (others_in d l ds (not-true (some (same_name d) ds) a.0) b.1) in
    omega arith

-- names that are all among others need no more bytes than those
pub fewer_needed : (ns ms : List Resource) → every (λ (n : Resource). is_in n ns) ms ≡ true
    → needed (firsts ms) ≤ needed (firsts ns)
fewer_needed ns ms h =
    once_needed (firsts ms) (firsts ns) (firsts_once same_name ms)
    (every_gives (λ (n : Resource). is_in n ns) (λ (n : Resource). is_in n (firsts ns)) (λ n k. firsts_in n ns ∙ k)
    (firsts ms) (every_first (λ (n : Resource). is_in n ns) ms h))

-- Legal names.

-- a legal name has a major part of 8 bytes
pub legal_whole : (n : Resource) → legal n ≡ true → whole n ≡ true
unfolding legal
legal_whole n h = (both (whole n) (minor_good (length n.minor)) h).0

-- of legal names the different ones have major parts of 8 bytes
pub legal_wholes : (ns : List Resource) → every legal ns ≡ true → every whole (firsts ns) ≡ true
legal_wholes ns h = every_first whole ns (every_gives legal whole legal_whole ns h)

legal_size : (n : Resource) → legal n ≡ true → size_of n ≤ longest_minor + 9
unfolding legal
legal_size n h =
    let l = length n.minor in
    let g = both (leb 1 l) (leb l longest_minor) (both (whole n) (minor_good l) h).1 in
    omega (arith, leb-true l longest_minor g.1)

legal_needed : (ns : List Resource) → every legal ns ≡ true → needed ns ≤ (longest_minor + 9) * length ns
unfolding needed
legal_needed [] h = omega arith
legal_needed (n ∷ ns) h =
    let b = both (legal n) (every legal ns) h in
    omega (arith, legal_size n b.0, legal_needed ns b.1)

firsts_length : (ns : List Resource) → length (firsts ns) ≤ length ns
firsts_length [] = omega arith
firsts_length (n ∷ ns) = omega (arith, length_keep (differs n) (firsts ns), firsts_length ns)

-- as many legal names as a queue has entries have room in the name area
pub legal_room : (ns : List Resource) → every legal ns ≡ true → length ns ≤ most_entries
    → needed (firsts ns) ≤ name_area
legal_room ns h k =
    omega (arith, legal_needed (firsts ns) (every_first legal ns h), firsts_length ns)
