-- How names are spelt in the name area, where each stands, and what is read there.
use Rattle.std.specs.Prelude.{◌≡◌, refl, Bool, true, false, cond, ◌||◌, List, [], ◌∷◌, ◌++◌, ℕ, suc, ◌+◌, ◌≤◌, eqb, length, get_or, take, drop}
use Rattle.std.proofs.Common.{sym, ap, ap₂, subst, ◌∙◌, append-nil, append_assoc, arith, length-append, length-drop, take_at, drop_at, get_or-drop, drop-drop, take-add, drop-cons, length-take-le, eqb-true, eq-eqb}
use Rattle.std.proofs.lemmas.Bool.{false≢true}
use Rattle.std.proofs.lemmas.List.{get_or_at}
use Rattle.std.proofs.Math.Seq.{drop-append-add, take-append_seam}
use Rattle.lists.specs.Lists.{every}
use Rattle.lists.specs.Bools.{both}
use Rattle.lists.specs.Every.{every_one}
use Rattle.rules.specs.Names.{Resource, same_name}
use Rattle.laws.specs.SameNames.{name_eq, name_sym}
use Rattle.namearea.specs.Firsts.{is_in}

-- 8 bytes, the length of the minor part, the minor part
abbrev pub spelt : Resource → List ℕ
spelt n = n.major ++ (length n.minor ∷ n.minor)

-- "each taking its minor part's length plus 9"
abbrev pub size_of : Resource → ℕ
size_of n = length n.minor + 9

-- names, one behind the other
unfoldable pub spelling : List Resource → List ℕ
spelling [] = []
spelling (n ∷ ns) = spelt n ++ spelling ns

-- the bytes that they take
unfoldable pub needed : List Resource → ℕ
needed [] = 0
needed (n ∷ ns) = size_of n + needed ns

-- where a name stands in the spelling of a list
unfoldable pub offset_in : List Resource → Resource → ℕ
offset_in [] n = 0
offset_in (m ∷ ms) n = cond (same_name m n) 0 (size_of m + offset_in ms n)

-- what is read at an offset, of any bytes
unfoldable pub name_at : List ℕ → ℕ → Resource
name_at bytes o = record { major = take 8 (drop o bytes); minor = take (get_or bytes (o + 8) 0) (drop (o + 9) bytes) }

-- a major part of 8 bytes
abbrev pub whole : Resource → Bool
whole n = eqb (length n.major) 8

-- Lengths.

-- a spelt name's length
pub spelt_length : (n : Resource) → whole n ≡ true → length (spelt n) ≡ size_of n
spelt_length n h =
    let e : length n.major ≡ 8 = eqb-true (length n.major) 8 h in
    length-append n.major (length n.minor ∷ n.minor) ∙ omega arith

-- names take the bytes that they need
pub spelling_length : (ns : List Resource) → every whole ns ≡ true → length (spelling ns) ≡ needed ns
unfolding spelling needed
spelling_length [] h = refl
spelling_length (n ∷ ns) h =
    let p = both (whole n) (every whole ns) h in
    length-append (spelt n) (spelling ns)
    ∙ ap₂ (λ (a b : ℕ). a + b) (spelt_length n p.0) (spelling_length ns p.1)

-- two lists of names, spelt one behind the other
pub spelling_append : (a b : List Resource) → spelling (a ++ b) ≡ spelling a ++ spelling b
unfolding spelling
spelling_append [] b = refl
spelling_append (n ∷ a) b =
    ap (λ (l : List ℕ). spelt n ++ l) (spelling_append a b) ∙ sym (append_assoc (spelt n) (spelling a) (spelling b))

-- one name alone
pub spelling_one : (n : Resource) → spelling (n ∷ []) ≡ spelt n
unfolding spelling
spelling_one n = append-nil (spelt n)

-- the bytes that two lists need
pub needed_append : (a b : List Resource) → needed (a ++ b) ≡ needed a + needed b
unfolding needed
needed_append [] b = omega arith
needed_append (n ∷ a) b = omega (arith, needed_append a b)

-- the bytes that one name needs
pub needed_one : (n : Resource) → needed (n ∷ []) ≡ size_of n
unfolding needed
needed_one n = omega arith

-- Offsets.

-- a name that is there stands where it stood, whatever comes behind
pub offset_front : (fs rest : List Resource) (n : Resource) → is_in n fs ≡ true
    → offset_in (fs ++ rest) n ≡ offset_in fs n
unfolding offset_in
offset_front [] rest n h = absurd (false≢true h)
offset_front (x ∷ fs) rest n h =
    one (same_name x n) (ap (λ (b : Bool). b || is_in n fs) (name_sym x n) ∙ h) (offset_front fs rest n)
  where
    one : (b : Bool) → (b || is_in n fs) ≡ true → (is_in n fs ≡ true → offset_in (fs ++ rest) n ≡ offset_in fs n)
        → cond b 0 (size_of x + offset_in (fs ++ rest) n) ≡ cond b 0 (size_of x + offset_in fs n)
    one true k ih = refl
    one false k ih = ap (λ (o : ℕ). size_of x + o) (ih k)

-- a name stands past those that it is none of
pub offset_past : (fs gs : List Resource) (n : Resource) → is_in n fs ≡ false
    → offset_in (fs ++ gs) n ≡ needed fs + offset_in gs n
unfolding offset_in needed
offset_past [] gs n h = omega arith
offset_past (x ∷ fs) gs n h =
    one (same_name x n) (ap (λ (b : Bool). b || is_in n fs) (name_sym x n) ∙ h) (offset_past fs gs n)
  where
    one : (b : Bool) → (b || is_in n fs) ≡ false
        → (is_in n fs ≡ false → offset_in (fs ++ gs) n ≡ needed fs + offset_in gs n)
        → cond b 0 (size_of x + offset_in (fs ++ gs) n) ≡ (size_of x + needed fs) + offset_in gs n
    one true k ih = absurd (false≢true (sym k))
    one false k ih = let z = ih k in omega arith

-- a name that is there ends within
pub offset_within : (ns : List Resource) (n : Resource) → is_in n ns ≡ true → offset_in ns n + size_of n ≤ needed ns
unfolding offset_in needed
offset_within [] n h = absurd (false≢true h)
offset_within (x ∷ ns) n h =
    one (same_name x n) refl (ap (λ (b : Bool). b || is_in n ns) (name_sym x n) ∙ h) (offset_within ns n)
  where
    one : (b : Bool) → same_name x n ≡ b → (b || is_in n ns) ≡ true
        → (is_in n ns ≡ true → offset_in ns n + size_of n ≤ needed ns)
        → cond b 0 (size_of x + offset_in ns n) + size_of n ≤ size_of x + needed ns
    one true e k ih = let z : size_of x ≡ size_of n = ap size_of (name_eq x n e) in omega arith
    one false e k ih = let z = ih k in omega arith

-- What is read.

-- behind a name's major part lie its length byte and its minor part
parts : (n : Resource) (rest : List ℕ) → spelt n ++ rest ≡ n.major ++ (length n.minor ∷ (n.minor ++ rest))
parts n rest = append_assoc n.major (length n.minor ∷ n.minor) rest

-- a name's length byte
length_first : (n : Resource) (rest : List ℕ) → whole n ≡ true → get_or (spelt n ++ rest) 8 0 ≡ length n.minor
length_first n rest h =
    ap (λ (l : List ℕ). get_or l 8 0) (parts n rest)
    ∙ get_or_at n.major (length n.minor) (n.minor ++ rest) 0 8 (eqb-true (length n.major) 8 h)

-- a name that is spelt at the front is read there
pub read_first : (n : Resource) (rest : List ℕ) → whole n ≡ true → name_at (spelt n ++ rest) 0 ≡ n
unfolding name_at
read_first n rest h =
    let e : length n.major ≡ 8 = eqb-true (length n.major) 8 h in
    let back : List ℕ = length n.minor ∷ (n.minor ++ rest) in
    let a : take 8 (spelt n ++ rest) ≡ n.major = ap (take 8) (parts n rest) ∙ take_at n.major back 8 e in
    let d : drop 9 (spelt n ++ rest) ≡ n.minor ++ rest =
    ap (drop 9) (parts n rest) ∙ sym (drop-drop 1 8 (n.major ++ back)) ∙ ap (drop 1) (drop_at n.major back 8 e) in
    let f : take (get_or (spelt n ++ rest) 8 0) (drop 9 (spelt n ++ rest)) ≡ n.minor =
    ap₂ (λ (k : ℕ) (l : List ℕ). take k l) (length_first n rest h) d ∙ take-append_seam n.minor rest in
    λ i. record { major = a i; minor = f i }

-- what is read at an offset is what is read at the front of the rest
read_rest : (bytes : List ℕ) (o : ℕ) → name_at bytes o ≡ name_at (drop o bytes) 0
unfolding name_at
read_rest bytes o = λ i. record {
  major = take 8 (drop o bytes);
  minor = take (sym (get_or-drop o bytes 8 0) i) (sym (drop-drop 9 o bytes) i);
}

-- the bytes begin with a name
record Begins (n : Resource) (bytes : List ℕ) : Type 0 where
  rest : List ℕ
  is : bytes ≡ spelt n ++ rest

-- of the spelling of names, those bytes do that lie where a name stands
begins : (ns : List Resource) (rest : List ℕ) (n : Resource) → every whole ns ≡ true → is_in n ns ≡ true
    → Begins n (drop (offset_in ns n) (spelling ns ++ rest))
unfolding spelling offset_in
begins [] rest n h k = absurd (false≢true k)
begins (x ∷ ns) rest n h k =
    let p = both (whole x) (every whole ns) h in
    one (same_name x n) refl (ap (λ (b : Bool). b || is_in n ns) (name_sym x n) ∙ k) (begins ns rest n p.1)
    (append_assoc (spelt x) (spelling ns) rest) (spelt_length x p.0)
  where
    one : (b : Bool) → same_name x n ≡ b → (b || is_in n ns) ≡ true
        → (is_in n ns ≡ true → Begins n (drop (offset_in ns n) (spelling ns ++ rest)))
        → (spelt x ++ spelling ns) ++ rest ≡ spelt x ++ (spelling ns ++ rest) → length (spelt x) ≡ size_of x
        → Begins n (drop (cond b 0 (size_of x + offset_in ns n)) ((spelt x ++ spelling ns) ++ rest))
    one true e u ih a l = record {
      rest = spelling ns ++ rest;
      is = a ∙ ap (λ (m : Resource). spelt m ++ (spelling ns ++ rest)) (name_eq x n e);
    }
    one false e u ih a l =
        subst (Begins n)
        (sym (ap₂ (λ (k : ℕ) (r : List ℕ). drop (k + offset_in ns n) r) (sym l) a
        ∙ drop-append-add (spelt x) (spelling ns ++ rest) (offset_in ns n))) (ih u)

module _ (ns : List Resource) (rest : List ℕ) (n : Resource) (wholes : every whole ns ≡ true)
    (there : is_in n ns ≡ true) where
  is_whole : whole n ≡ true
  is_whole = every_one same_name name_eq whole ns n wholes there

  -- a name is read where it stands
  pub read_back : name_at (spelling ns ++ rest) (offset_in ns n) ≡ n
  read_back =
      let b = begins ns rest n wholes there in
      read_rest (spelling ns ++ rest) (offset_in ns n) ∙ ap (λ (l : List ℕ). name_at l 0) b.is
      ∙ read_first n b.rest is_whole

  -- and its length byte lies there
  pub length_back : get_or (spelling ns ++ rest) (offset_in ns n + 8) 0 ≡ length n.minor
  length_back =
      let b = begins ns rest n wholes there in
      sym (get_or-drop (offset_in ns n) (spelling ns ++ rest) 8 0) ∙ ap (λ (l : List ℕ). get_or l 8 0) b.is
      ∙ length_first n b.rest is_whole

-- what is read within the bytes is spelt there
pub spelt_there : (bytes : List ℕ) (o : ℕ) → o + 9 ≤ length bytes → o + 9 + get_or bytes (o + 8) 0 ≤ length bytes
    → (take (get_or bytes (o + 8) 0 + 9) (drop o bytes) ≡ spelt (name_at bytes o)) × (whole (name_at bytes o) ≡ true)
    × (size_of (name_at bytes o) ≡ get_or bytes (o + 8) 0 + 9)
unfolding name_at
spelt_there bytes o h k =
    let l : ℕ = get_or bytes (o + 8) 0 in
    let major = take 8 (drop o bytes) in
    let minor = take l (drop (o + 9) bytes) in
    let m : length minor ≡ l = length-take-le l (drop (o + 9) bytes) (omega (arith, length-drop (o + 9) bytes)) in
    let j : length major ≡ 8 = length-take-le 8 (drop o bytes) (omega (arith, length-drop o bytes)) in
    let x : l + 9 ≡ 8 + suc l = omega arith in
    let y : suc (o + 8) ≡ o + 9 = omega arith in
    let t : drop 8 (drop o bytes) ≡ l ∷ drop (o + 9) bytes =
    drop-drop 8 o bytes ∙ drop-cons bytes (o + 8) 0 (omega arith) ∙ ap (λ (i : ℕ). l ∷ drop i bytes) y in
    let e : take (l + 9) (drop o bytes) ≡ major ++ (l ∷ minor) =
    ap (λ (i : ℕ). take i (drop o bytes)) x ∙ take-add 8 (suc l) (drop o bytes)
    ∙ ap (λ (r : List ℕ). major ++ take (suc l) r) t in
    (e ∙ ap (λ (i : ℕ). major ++ (i ∷ minor)) (sym m), eq-eqb (length major) 8 j, ap (λ (i : ℕ). i + 9) m)
