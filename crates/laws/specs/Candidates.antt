-- CANDIDATES: "Only the region's start, page starts and the ends of areas can be the lowest fit." (02 §4)
use Rattle.std.specs.Prelude.{◌≡◌, Bool, ◌&&◌, ◌||◌, List, [], ◌∷◌, ◌++◌, map, ◌⊎◌, ℕ, ◌+◌, ◌-◌, ◌*◌, ◌/◌, ◌%◌, ◌≤◌, ◌<◌, leb, ltb, length}
use Rattle.std.proofs.Math.Path.{refl}
use Rattle.std.proofs.Common.{ap, ap₂, subst, ◌∙◌, inl, inr, arith, length-append}
use Rattle.std.proofs.Math.Bool.{true, false, and-true, or-true}
use Rattle.std.proofs.Math.Dec.{eqb}
use Rattle.std.proofs.lemmas.List.{length-map}
use borrow.Author.Tests.{eqb-true, eqb-false, eq-eqb, leb-true, le-leb}
use Rattle.lists.specs.Lists.{every, some, keep, numbers}
use Rattle.lists.specs.Bools.{both, join, either, or_left, or_right, same_test}
use Rattle.lists.specs.Every.{every_gives, every_one, every_of, some_append, some_of}
use Rattle.lists.specs.Keeping.{length_keep}
use Rattle.kinds.specs.Limits.{highest_address, region, page, doubleword}
use Rattle.kinds.specs.Ranges.{address_good}
use Rattle.kinds.specs.declared.areas.Area.{Area}
use Rattle.kinds.specs.declared.numbers.Address.{Address}
use Rattle.std.specs.Prelude.{Some}
use Rattle.rules.specs.DemandTwo.{Room}
use Rattle.rules.specs.SoundAreas.{area_shape_good, area_shapes_good}
use Rattle.rules.specs.Storage.{start_of, past_end, first_page, past_page, one_holder, bytes_apart, pages_apart, apart}
use Rattle.rules.specs.Storage.{permitted, placed_at, lowest}
use Rattle.laws.specs.Among.{some_same, some_besides, number_kept, numbers_has}
use Rattle.laws.specs.Lowest.{Lowest, lowest_is, room_ends, room_apart, room_within}

-- an area's end is the address past it
abbrev pub ends_at : ℕ → Area → Bool
ends_at s a = eqb s (past_end a)

-- an address; the region's start is the first page start, and the ends are those of all areas, whoever holds them
unfoldable pub is_candidate : List Area → ℕ → Bool
is_candidate l s = address_good s && (eqb (s % page) 0 || some (ends_at s) l)

-- the region's end is none
pub region_no_candidate : (l : List Area) → is_candidate l region ≡ false
unfolding is_candidate
region_no_candidate l = refl

-- the area ends at a multiple of 8
abbrev pub aligned_end : Area → Bool
aligned_end a = eqb (past_end a % doubleword) 0

-- as the areas of sound tables do
pub ends_aligned : (l : List Area) → area_shapes_good l ≡ true → every aligned_end l ≡ true
unfolding area_shape_good area_shapes_good
ends_aligned l h = every_gives area_shape_good aligned_end shaped l h
  where
    shaped : (a : Area) → area_shape_good a ≡ true → aligned_end a ≡ true
    shaped a e =
        let p = both (ltb 0 a.size) _ e in
        let q = both (eqb (a.size % doubleword) 0) _ p.1 in
        let r = both (eqb (start_of a % doubleword) 0) _ q.1 in
        let m : a.size % doubleword ≡ 0 = eqb-true (a.size % doubleword) 0 q.0 in
        let n : start_of a % doubleword ≡ 0 = eqb-true (start_of a % doubleword) 0 r.0 in
        eq-eqb (past_end a % doubleword) 0 (omega arith)

-- a candidate is a multiple of 8 then
pub candidate_aligned : (l : List Area) → every aligned_end l ≡ true → (s : ℕ) → is_candidate l s ≡ true
    → s % doubleword ≡ 0
unfolding is_candidate
candidate_aligned l h s e = one (either (eqb (s % page) 0) (some (ends_at s) l) (both (address_good s) _ e).1)
  where
    aligned : ℕ → Bool
    aligned n = eqb (n % doubleword) 0

    one : (eqb (s % page) 0 ≡ true) ⊎ (some (ends_at s) l ≡ true) → s % doubleword ≡ 0
    one (inl k) = let m : s % page ≡ 0 = eqb-true (s % page) 0 k in omega arith
    one (inr k) =
        eqb-true (s % doubleword) 0
        (every_one eqb eqb-true aligned (map past_end l) s (every_of past_end aligned l ∙ h)
        (some_of past_end (eqb s) l ∙ k))

-- EIGHT BYTES DOWN, from t to s, where t is a multiple of 8 at which no page starts

-- two ranges apart, of bytes or of pages, stay so where the one comes down and not to below the other's end
lower : (a z b c t s : ℕ) → z ≤ a → (c ≤ t → c ≤ s) → (leb a b || leb c t) ≡ true → (leb z b || leb c s) ≡ true
lower a z b c t s h k e = one (either (leb a b) (leb c t) e)
  where
    one : (leb a b ≡ true) ⊎ (leb c t ≡ true) → (leb z b || leb c s) ≡ true
    one (inl u) = let m : a ≤ b = leb-true a b u in rw (le-leb z b (omega arith))
    one (inr u) = rw (le-leb c s (k (leb-true c t u))) (or-true (leb z b))

module _ (w : Area) (s t : ℕ) (down : t ≡ s + doubleword) (whole : t % doubleword ≡ 0) (no-page : t % page ≡ 0 → ⊥)
  where
    -- an area b that does not end at t
    module _ (b : Area) (ends : past_end b % doubleword ≡ 0) (no_end : t ≡ past_end b → ⊥) where
      bytes_down : bytes_apart (placed_at w t) b ≡ true → bytes_apart (placed_at w s) b ≡ true
      unfolding bytes_apart
      bytes_down = lower (t + w.size) (s + w.size) (start_of b) (past_end b) t s (omega arith) (λ h. omega arith)

      pages_down : pages_apart (placed_at w t) b ≡ true → pages_apart (placed_at w s) b ≡ true
      unfolding pages_apart
      pages_down =
          lower (past_page (placed_at w t)) (past_page (placed_at w s)) (first_page b) (past_page b) (t / page) (s / page)
          (omega arith) (λ h. omega arith)

      apart_down : apart (placed_at w t) b ≡ true → apart (placed_at w s) b ≡ true
      unfolding apart one_holder
      apart_down e =
          let p = both (bytes_apart (placed_at w t) b) (one_holder w b || pages_apart (placed_at w t) b) e in
          join (bytes_apart (placed_at w s) b) (one_holder w b || pages_apart (placed_at w s) b) (bytes_down p.0)
          (one (one_holder w b) p.1)
        where
          one : (o : Bool) → (o || pages_apart (placed_at w t) b) ≡ true → (o || pages_apart (placed_at w s) b) ≡ true
          one true h = refl
          one false h = pages_down h

    all_down : (l : List Area) → every aligned_end l ≡ true → some (ends_at t) l ≡ false
        → every (apart (placed_at w t)) l ≡ true → every (apart (placed_at w s)) l ≡ true
    all_down [] v f e = refl
    all_down (b ∷ l) v f e =
        let v2 = both (aligned_end b) (every aligned_end l) v in
        let e2 = both (apart (placed_at w t) b) (every (apart (placed_at w t)) l) e in
        let n : t ≡ past_end b → ⊥ = eqb-false t (past_end b) (or_left (ends_at t b) (some (ends_at t) l) f) in
        join (apart (placed_at w s) b) (every (apart (placed_at w s)) l)
        (apart_down b (eqb-true (past_end b % doubleword) 0 v2.0) n e2.0)
        (all_down l v2.1 (or_right (ends_at t b) (some (ends_at t) l) f) e2.1)

-- THE LOWEST ADDRESS IS A CANDIDATE, where every area ends at a multiple of 8: what has room at a multiple of 8 that is
-- no candidate has room eight bytes lower
module _ (l : List Area) (w : Area) (long : 0 < w.size) (aligned : every aligned_end l ≡ true) where
  none_below : (s : ℕ) → Room l w s → ((t : ℕ) → t < s → Room l w t → ⊥) → is_candidate l s ≡ true
  unfolding is_candidate permitted
  none_below s r f =
      let i : s < region = room_within l w long s r in
      join (address_good s) _ (le-leb s highest_address (omega arith))
      (one (eqb (s % page) 0) (some (ends_at s) l) refl refl)
    where
      one : (a b : Bool) → eqb (s % page) 0 ≡ a → some (ends_at s) l ≡ b → (a || b) ≡ true
      one true b x y = refl
      one false true x y = refl
      one false false x y =
          let n : s % page ≡ 0 → ⊥ = eqb-false (s % page) 0 x in
          let d : s ≡ (s - doubleword) + doubleword = omega (arith, r.aligned) in
          let g = all_down w (s - doubleword) s d r.aligned n l aligned y (room_apart l w s r) in
          let m : (s - doubleword) + w.size ≤ region = omega (arith, room_ends l w s r) in
          let q : (s - doubleword) % doubleword ≡ 0 = omega (arith, r.aligned) in
          absurd
          (f (s - doubleword) (omega arith)
          (record { aligned = q; permits = join (leb ((s - doubleword) + w.size) region) _ (le-leb _ region m) g }))

  pub lowest_candidate : (p : Address) → lowest l w ≡ Some p → is_candidate l p.0 ≡ true
  lowest_candidate p e =
      let h : Lowest l w (Some p) = subst (Lowest l w) e (lowest_is l w long) in none_below p.0 h.here h.below

-- WRITTEN OUT: the page starts, then the ends of areas
abbrev pub page_starts : List ℕ
page_starts = map (λ (n : ℕ). n * page) (numbers 0 (region / page))

unfoldable pub candidates : List Area → List ℕ
candidates l = keep address_good (page_starts ++ map past_end l)

-- the page starts are the multiples of 4,096 in the region
starts_told : (s : ℕ) → address_good s ≡ true → some (eqb s) page_starts ≡ eqb (s % page) 0
starts_told s h =
    let k : s ≤ highest_address = leb-true s highest_address h in
    some_of (λ (n : ℕ). n * page) (eqb s) (numbers 0 (region / page))
    ∙ some_same (λ (n : ℕ). eqb s (n * page)) (λ (n : ℕ). eqb (s % page) 0 && eqb (s / page) n) one
    (numbers 0 (region / page))
    ∙ some_besides (eqb (s % page) 0) (eqb (s / page)) (numbers 0 (region / page))
    ∙ ap (λ (b : Bool). eqb (s % page) 0 && b) (numbers_has (s / page) 0 (region / page) (omega arith) (omega arith))
    ∙ and-true (eqb (s % page) 0)
  where
    there : (n : ℕ) → eqb s (n * page) ≡ true → (eqb (s % page) 0 && eqb (s / page) n) ≡ true
    there n h =
        let e : s ≡ n * page = eqb-true s (n * page) h in
        rw (eq-eqb (s % page) 0 (omega arith), eq-eqb (s / page) n (omega arith))

    back : (n : ℕ) → (eqb (s % page) 0 && eqb (s / page) n) ≡ true → eqb s (n * page) ≡ true
    back n h =
        let b = both (eqb (s % page) 0) (eqb (s / page) n) h in
        let d : s % page ≡ 0 = eqb-true (s % page) 0 b.0 in
        let e : s / page ≡ n = eqb-true (s / page) n b.1 in
        eq-eqb s (n * page) (omega arith)

    one : (n : ℕ) → eqb s (n * page) ≡ (eqb (s % page) 0 && eqb (s / page) n)
    one n = same_test (eqb s (n * page)) (eqb (s % page) 0 && eqb (s / page) n) (there n) (back n)

-- each candidate stands there, and nothing else
pub listed : (l : List Area) (s : ℕ) → some (eqb s) (candidates l) ≡ is_candidate l s
unfolding is_candidate candidates
listed l s =
    number_kept s address_good (page_starts ++ map past_end l)
    ∙ ap (λ (b : Bool). address_good s && b) (some_append (eqb s) page_starts (map past_end l))
    ∙ one (address_good s) refl
  where
    one : (b : Bool) → address_good s ≡ b
        → (b && (some (eqb s) page_starts || some (eqb s) (map past_end l)))
        ≡ (b && (eqb (s % page) 0 || some (ends_at s) l))
    one true h = ap₂ ◌||◌ (starts_told s h) (some_of past_end (eqb s) l)
    one false h = refl

-- at most one for each page and one for each area
pub candidates_few : (l : List Area) → length (candidates l) ≤ region / page + length l
unfolding candidates
candidates_few l =
    subst (λ (n : ℕ). length (candidates l) ≤ n)
    (length-append page_starts (map past_end l) ∙ ap (λ (n : ℕ). region / page + n) (length-map l past_end))
    (length_keep address_good (page_starts ++ map past_end l))
