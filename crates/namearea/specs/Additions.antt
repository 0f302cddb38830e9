-- Names that come behind those that are stored.
use Rattle.std.specs.Prelude.{◌≡◌, refl, Bool, true, false, not, ◌&&◌, ◌||◌, List, ◌++◌, ℕ, zero, suc, ◌+◌, ◌-◌, length, take, drop, replicate}
use Rattle.std.proofs.Common.{sym, ap, ap₂, ◌∙◌, append_assoc, arith, length-append, take_at, drop_at}
use Rattle.lists.specs.Lists.{keep, every}
use Rattle.lists.specs.Bools.{both}
use Rattle.lists.specs.Every.{every_append}
use Rattle.lists.specs.Keeping.{keep_among}
use Rattle.lists.specs.Tables.{padded}
use Rattle.rules.specs.Names.{Resource, firsts}
use Rattle.laws.specs.SameNames.{name_eq}
use Rattle.laws.specs.Grouping.{firsts_keep, keep_both}
use Rattle.laws.specs.Standings.{same_names}
use Rattle.namearea.specs.Firsts.{is_in}
use Rattle.namearea.specs.Spelling.{spelling, needed, whole, spelling_length, spelling_append, needed_append}
use Rattle.namearea.specs.Scanning.{area_for}
use Rattle.namearea.specs.Room.{every_first}
pub use Rattle.namearea.specs.Offsets.{added, firsts_added, offset_longer}

-- names that are there already may stay out
pub more_firsts : (p : Resource → Bool) (ns ms : List Resource)
    → every (λ (n : Resource). p n || is_in n ns) ms ≡ true → firsts (ns ++ keep p ms) ≡ firsts (ns ++ ms)
more_firsts p ns ms h =
    firsts_added ns (keep p ms)
    ∙ ap (λ (l : List Resource). firsts ns ++ l)
    (ap (keep new) (firsts_keep same_names p (λ x y e. ap p (name_eq x y e)) ms)
    ∙ keep_both new p (firsts ms)
    ∙ keep_among (λ (n : Resource). p n || is_in n ns) (λ (n : Resource). p n && new n) new
    (λ n. no_loss (p n) (is_in n ns)) (firsts ms) (every_first (λ (n : Resource). p n || is_in n ns) ms h))
    ∙ sym (firsts_added ns ms)
  where
    new : Resource → Bool
    new n = not (is_in n ns)

    no_loss : (a b : Bool) → (a || b) ≡ true → (a && not b) ≡ not b
    no_loss true b k = refl
    no_loss false b k = ap not (sym k)

-- the bytes that are needed are those of the first list, then those of what the second adds
pub needed_added : (ns ms : List Resource) → needed (firsts (ns ++ ms)) ≡ needed (firsts ns) + needed (added ns ms)
needed_added ns ms = ap needed (firsts_added ns ms) ∙ needed_append (firsts ns) (added ns ms)

-- where all have major parts of 8 bytes, those of the first list do and what the second adds does
pub wholes_added : (ns ms : List Resource) → every whole (firsts (ns ++ ms)) ≡ true
    → (every whole (firsts ns) ≡ true) × (every whole (added ns ms) ≡ true)
wholes_added ns ms h =
    both (every whole (firsts ns)) (every whole (added ns ms))
    (sym (every_append whole (firsts ns) (added ns ms)) ∙ ap (every whole) (sym (firsts_added ns ms)) ∙ h)

abbrev zeros : ℕ → List ℕ
zeros m = replicate m 0

drop_zeros : (k m : ℕ) → drop k (zeros m) ≡ zeros (m - k)
drop_zeros zero m = let e : m ≡ m - 0 = omega arith in ap zeros e
drop_zeros (suc k) zero = let e : 0 ≡ 0 - suc k = omega arith in ap zeros e
drop_zeros (suc k) (suc m) = let e : m - k ≡ suc m - suc k = omega arith in drop_zeros k m ∙ ap zeros e

-- what the second list adds, spelt behind the names of the first, gives the area of both
pub appended : (size : ℕ) (ns ms : List Resource) → every whole (firsts ns) ≡ true
    → take (needed (firsts ns)) (area_for size ns)
    ++ (spelling (added ns ms)
    ++ drop (length (spelling (added ns ms))) (drop (needed (firsts ns)) (area_for size ns)))
    ≡ area_for size (ns ++ ms)
unfolding padded
appended size ns ms h =
    let at = needed (firsts ns) in
    let front = spelling (firsts ns) in
    let back = spelling (added ns ms) in
    let left = size - length front in
    let l : length front ≡ at = spelling_length (firsts ns) h in
    let s : spelling (firsts (ns ++ ms)) ≡ front ++ back =
    ap spelling (firsts_added ns ms) ∙ spelling_append (firsts ns) (added ns ms) in
    let y : left - length back ≡ size - length (front ++ back) = omega (arith, length-append front back) in
    ap₂ (λ (a b : List ℕ). a ++ (back ++ drop (length back) b)) (take_at front (zeros left) at l)
    (drop_at front (zeros left) at l)
    ∙ ap (λ (r : List ℕ). front ++ (back ++ r))
    (drop_zeros (length back) left ∙ ap zeros y)
    ∙ sym (append_assoc front back (zeros (size - length (front ++ back))))
    ∙ ap (λ (r : List ℕ). r ++ zeros (size - length r)) (sym s)
