-- WRONG CANDIDATES: sets that miss the lowest fit of some areas; and that areas have to end at multiples of 8.
use Prim.Native.Nat.{ℕ, ◌%◌, ◌<◌}
use mathlib.Core.Path.{◌≡◌, refl}
use mathlib.Core.Bool.{Bool, true, not, ◌&&◌, ◌||◌, false≢true}
use mathlib.Core.List.{List, [], ◌∷◌}
use native.Mathlib.Omega.{arith}
use lib.Dec.{eqb}
use Rattle.lists.specs.Lists.{every, some}
use Rattle.kinds.specs.Limits.{page}
use Rattle.kinds.specs.declared.areas.Area.{Area}
use Rattle.kinds.specs.declared.numbers.Address.{Address}
use Rattle.std.specs.Prelude.{Some}
use Rattle.rules.specs.Opened.{rules_open}
use Rattle.rules.specs.Storage.{past_end, lowest}
use Rattle.rules.specs.Getmain.{wanted}
use Rattle.rules.specs.HandCases.{area}
use Rattle.laws.specs.Candidates.{ends_at, is_candidate, lowest_candidate}

-- where a test holds of every area, and a length is not 0, the lowest fit is one of the set
abbrev Has : (Area → Bool) → (List Area → ℕ → Bool) → Type 0
Has test set =
    (l : List Area) (w : Area) → 0 < w.size → every test l ≡ true → (p : Address) → lowest l w ≡ Some p
    → set l p.0 ≡ true

-- with ends at multiples of 8, and no other premise, the candidates are such a set
abbrev ends_at_eights : Area → Bool
ends_at_eights a = eqb (past_end a % 8) 0

pub candidates_do : Has ends_at_eights is_candidate
candidates_do l w long aligned = lowest_candidate l w long aligned

-- SAMPLE: 104 bytes of task 1 in subpool 10, at 0
abbrev held : List Area
held = area 0 104 10 1 ∷ []

-- without page starts: 8 bytes of subpool 5 go to 4,096, past the page of subpool 10
abbrev start_and_ends : List Area → ℕ → Bool
start_and_ends l s = eqb s 0 || some (ends_at s) l

pub without_page_starts : Has ends_at_eights start_and_ends → ⊥
unfolding rules_open
without_page_starts h = false≢true (h held (wanted 8 5 1) (omega arith) refl (record { 0 = 4096 }) refl)

-- without the ends of areas: 8 bytes of subpool 10 go to 104
abbrev pages_alone : List Area → ℕ → Bool
pages_alone l s = eqb (s % page) 0

pub without_ends : Has ends_at_eights pages_alone → ⊥
unfolding rules_open
without_ends h = false≢true (h held (wanted 8 10 1) (omega arith) refl (record { 0 = 104 }) refl)

-- without the region's start: where there is no area, 0 is given
abbrev not_the_start : List Area → ℕ → Bool
not_the_start l s = not (eqb s 0) && is_candidate l s

pub without_the_start : Has ends_at_eights not_the_start → ⊥
unfolding rules_open is_candidate
without_the_start h = false≢true (h [] (wanted 8 10 1) (omega arith) refl (record { 0 = 0 }) refl)

-- with areas that end anywhere: behind one of 4 bytes, which no sound tables have, 8 bytes go to 8
pub ends_have_to_be_aligned : Has (λ (a : Area). true) is_candidate → ⊥
unfolding rules_open is_candidate
ends_have_to_be_aligned h =
    false≢true (h (area 0 4 10 1 ∷ []) (wanted 8 10 1) (omega arith) refl (record { 0 = 8 }) refl)
