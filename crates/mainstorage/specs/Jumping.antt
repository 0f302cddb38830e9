-- THE SEARCH THAT JUMPS: a try that fails at an area goes on where a rule says, and only so many tries are made.
use Rattle.std.specs.Prelude.{ℕ, zero, suc, ◌+◌, Bool, not, cond, ◌||◌, List, [], ◌∷◌, leb, ltb}
use Rattle.kinds.specs.Limits.{region}
use Rattle.kinds.specs.declared.areas.Area.{Area}
use Rattle.std.specs.Prelude.{Option, Some, None}
use Rattle.kinds.specs.declared.numbers.Address.{Address}
use Rattle.rules.specs.Storage.{apart, placed_at}
use Rattle.mainstorage.specs.Bars.{bar_of, next_at}

-- where to go on, for the area w wanted, past the area x in its way
abbrev pub Jump : Type 0
Jump = Area → Area → ℕ

-- what comes of the first element that passes, or d where none does
abbrev pub of_first : {A B : Type 0} → (A → Bool) → (A → B) → B → List A → B
of_first f g d [] = d
of_first f g d (x ∷ l) = cond (f x) (g x) (of_first f g d l)

-- the area wanted at s is not apart from x
abbrev pub in_way : Area → ℕ → Area → Bool
in_way w s x = not (apart (placed_at w s) x)

-- so many tries, from s on
abbrev pub jumping : Jump → ℕ → List Area → Area → ℕ → Option Address
jumping next zero l w s = None
jumping next (suc tries) l w s =
    cond (leb region s || ltb region (s + w.size)) None
    (of_first (in_way w s) (λ x. jumping next tries l w (next w x)) (Some (record { 0 = s })) l)

-- the code's rule: past the area for its own holder, else past its last page
abbrev pub past : Jump
past w x = next_at (bar_of w x)
