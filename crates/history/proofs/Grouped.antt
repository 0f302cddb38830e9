-- QUEUES IN WHICH EACH TASK'S ENTRIES STAND TOGETHER.
use mathlib.Core.Path.{◌≡◌}
use mathlib.Core.Bool.{true, false}
use mathlib.Core.List.{List, [], ◌∷◌}
use mathlib.Core.Logic.{◌⊎◌}
use Prim.Native.Nat.{ℕ}
use Rattle.lists.specs.Lists.{some}
use Rattle.rules.specs.Control.{Entry, of_task}

-- the first entry is the task's
abbrev pub Starts : ℕ → List Entry → Type 0
Starts t [] = ⊥
Starts t (e ∷ l) = of_task t e ≡ true

-- the task has no entry here, or the first
abbrev pub Front : ℕ → List Entry → Type 0
Front t l = (some (of_task t) l ≡ false) ⊎ Starts t l

-- each task's entries stand together
abbrev pub Grouped : List Entry → Type 0
Grouped [] = Unit {0}
Grouped (e ∷ l) = Front e.task l × Grouped l
