-- Settled offsets: in sound tables equal names are equal offsets, and what is left of the offsets can be packed anew.
use Rattle.std.specs.Prelude.{Option, Some, None, ◌≡◌, refl, Bool, true, false, cond, ◌||◌, List, [], ◌∷◌, ◌++◌, map, ℕ, ◌+◌, ◌-◌, ◌≤◌, eqb, length, replicate}
use Rattle.std.proofs.Common.{sym, ap, ap₂, ◌∙◌, append-nil, arith, length-append, eqb-true, eq-eqb}
use Rattle.std.proofs.lemmas.Bool.{false≢true}
use Rattle.std.proofs.Math.Seq.{append_snoc}
use Rattle.lists.specs.Lists.{every, some}
use Rattle.lists.specs.Bools.{both, same_test}
use Rattle.lists.specs.Every.{every_gives, every_one, every_of}
use Rattle.lists.specs.Tables.{padded}
use Rattle.rules.specs.Names.{Resource, same_name, firsts}
use Rattle.laws.specs.SameNames.{name_eq, eq_name, name_sym}
use Rattle.namearea.specs.Firsts.{is_in}
use Rattle.namearea.specs.Spelling.{size_of, spelling, needed, offset_in, name_at, whole, spelling_length}
use Rattle.namearea.specs.Scanning.{names_of, fits_at, scanned, Kept, name_there, point_there, scanned_kept}
use Rattle.namearea.specs.Packing.{Clear}
use Rattle.namearea.specs.Steps.{next_end, scan_from, scan_step, Walked, next_walked}
use Rattle.namearea.specs.Room.{every_first, fewer_needed}
pub use Rattle.namearea.specs.Scanning.{fits_whole}

-- Offsets in a list of names.

one_offset : (ns : List Resource) (a b : Resource) → is_in a ns ≡ true → is_in b ns ≡ true
    → offset_in ns a ≡ offset_in ns b → a ≡ b
unfolding offset_in
one_offset [] a b h k e = absurd (false≢true h)
one_offset (x ∷ ns) a b h k e =
    one (same_name x a) (same_name x b) refl refl
    (ap (λ (t : Bool). t || is_in a ns) (name_sym x a) ∙ h) (ap (λ (t : Bool). t || is_in b ns) (name_sym x b) ∙ k) e
    (one_offset ns a b)
  where
    one : (s t : Bool) → same_name x a ≡ s → same_name x b ≡ t → (s || is_in a ns) ≡ true → (t || is_in b ns) ≡ true
        → cond s 0 (size_of x + offset_in ns a) ≡ cond t 0 (size_of x + offset_in ns b)
        → (is_in a ns ≡ true → is_in b ns ≡ true → offset_in ns a ≡ offset_in ns b → a ≡ b) → a ≡ b
    one true true u v p q z ih = sym (name_eq x a u) ∙ name_eq x b v
    one true false u v p q z ih = absurd (omega arith)
    one false true u v p q z ih = absurd (omega arith)
    one false false u v p q z ih = ih p q (omega arith)

-- two names that are there have one offset exactly when they are one name
pub offset_apart : (ns : List Resource) (a b : Resource) → is_in a ns ≡ true → is_in b ns ≡ true
    → eqb (offset_in ns a) (offset_in ns b) ≡ same_name a b
offset_apart ns a b h k =
    same_test (eqb (offset_in ns a) (offset_in ns b)) (same_name a b)
    (λ e. eq_name a b (one_offset ns a b h k (eqb-true (offset_in ns a) (offset_in ns b) e)))
    (λ e. eq-eqb (offset_in ns a) (offset_in ns b) (ap (offset_in ns) (name_eq a b e)))

-- two lists of names that are there are one where their offsets are
pub same_offsets : (fs ns ms : List Resource) → every (λ (n : Resource). is_in n fs) ns ≡ true
    → every (λ (n : Resource). is_in n fs) ms ≡ true → map (offset_in fs) ns ≡ map (offset_in fs) ms → ns ≡ ms
same_offsets fs [] [] h k e = refl
same_offsets fs [] (m ∷ ms) h k e = let z : ◌≡◌ {A = ℕ} 0 1 = cc in absurd (omega arith)
same_offsets fs (n ∷ ns) [] h k e = let z : ◌≡◌ {A = ℕ} 0 1 = cc in absurd (omega arith)
same_offsets fs (n ∷ ns) (m ∷ ms) h k e =
    let a = both (is_in n fs) (every (λ (x : Resource). is_in x fs) ns) h in
    let b = both (is_in m fs) (every (λ (x : Resource). is_in x fs) ms) k in
    ap₂ (λ (x : Resource) (l : List Resource). x ∷ l) (one_offset fs n m a.0 b.0 (cc))
    (same_offsets fs ns ms a.1 b.1 (cc))

-- Offsets and the names that they show.

-- "In sound tables equal names are equal offsets"
pub kept_apart : (bytes os : List ℕ) → Kept bytes os → (a b : ℕ) → some (eqb a) os ≡ true → some (eqb b) os ≡ true
    → same_name (name_at bytes a) (name_at bytes b) ≡ eqb a b
kept_apart bytes os s a b h k =
    let fs = firsts (names_of bytes os) in
    same_test (same_name (name_at bytes a) (name_at bytes b)) (eqb a b)
    (λ e. eq-eqb a b (sym (point_there fs bytes os a s.points h)
    ∙ ap (offset_in fs) (name_eq (name_at bytes a) (name_at bytes b) e) ∙ point_there fs bytes os b s.points k))
    (λ e. eq_name (name_at bytes a) (name_at bytes b) (ap (name_at bytes) (eqb-true a b e)))

-- What passes the test.

fits_from : (bytes before : List ℕ) (at : ℕ) (os : List ℕ) → Walked bytes before at
    → scanned bytes before at os ≡ true → every (fits_at bytes) (before ++ os) ≡ true
fits_from bytes before at [] w h = ap (every (fits_at bytes)) (append-nil before) ∙ w.fit
fits_from bytes before at (o ∷ os) w h =
    ap (every (fits_at bytes)) (sym (append_snoc before o os))
    ∙ one (next_end bytes before at o) refl (sym (scan_step bytes before at o os) ∙ h)
    (λ e. fits_from bytes (before ++ (o ∷ [])) e os)
  where
    t : List ℕ
    t = before ++ (o ∷ [])

    one : (n : Option ℕ) → n ≡ next_end bytes before at o → scan_from n bytes t os ≡ true
        → ((e : ℕ) → Walked bytes t e → scanned bytes t e os ≡ true → every (fits_at bytes) (t ++ os) ≡ true)
        → every (fits_at bytes) (t ++ os) ≡ true
    one (Some e) z k ih = ih e (next_walked w o e z) k
    one None z k ih = absurd (false≢true k)

-- where the test passes, each offset's name lies within the bytes
pub kept_fits : (bytes os : List ℕ) → scanned bytes [] 0 os ≡ true → every (fits_at bytes) os ≡ true
kept_fits bytes os h =
    fits_from bytes [] 0 os (record { room = omega arith; fit = refl; low = refl }) h

-- where the test passes, each name that is shown has a major part of 8 bytes
pub kept_wholes : (bytes os : List ℕ) → scanned bytes [] 0 os ≡ true → every whole (names_of bytes os) ≡ true
kept_wholes bytes os h = fits_whole bytes os (kept_fits bytes os h)

-- where the test passes, the bytes have room for the names that are shown
pub kept_room : (bytes os : List ℕ) → scanned bytes [] 0 os ≡ true → needed (firsts (names_of bytes os)) ≤ length bytes
unfolding padded
kept_room bytes os h =
    let fs = firsts (names_of bytes os) in
    let l = spelling_length fs (every_first whole (names_of bytes os) (kept_wholes bytes os h)) in
    let k = length-append (spelling fs) (replicate (length bytes - length (spelling fs)) 0) in
    omega (arith, ap length (scanned_kept bytes os h).area)

-- what still stands of the offsets, in any order and number, can be packed anew
pub kept_clear : (size : ℕ) (bytes os ps : List ℕ) → scanned bytes [] 0 os ≡ true
    → every (λ (o : ℕ). some (eqb o) os) ps ≡ true → length bytes ≡ size → Clear size bytes ps
kept_clear size bytes os ps h k e =
    let there : (o : ℕ) → some (eqb o) ps ≡ true → some (eqb o) os ≡ true =
    λ o z. every_one eqb eqb-true (λ (x : ℕ). some (eqb x) os) ps o k z in
    let names : every (λ (n : Resource). is_in n (names_of bytes os)) (names_of bytes ps) ≡ true =
    every_of (name_at bytes) (λ (n : Resource). is_in n (names_of bytes os)) ps
    ∙ every_gives (λ (o : ℕ). some (eqb o) os) (λ (o : ℕ). is_in (name_at bytes o) (names_of bytes os))
    (name_there bytes os) ps k in
    record {
      fits =
          every_gives (λ (o : ℕ). some (eqb o) os) (fits_at bytes)
          (λ o z. every_one eqb eqb-true (fits_at bytes) os o (kept_fits bytes os h) z) ps k;
      apart = λ a b x y. kept_apart bytes os (scanned_kept bytes os h) a b (there a x) (there b y);
      room = omega (arith, kept_room bytes os h, fewer_needed (names_of bytes os) (names_of bytes ps) names);
    }
