-- How a storage grows, and where an area goes.
use Rattle.std.specs.Prelude.{cond, List, [], ◌∷◌, ◌++◌, ℕ, suc, ◌+◌, ltb, take, drop, set}
use Rattle.kinds.specs.declared.areas.Area.{Area}
use Rattle.rules.specs.Storage.{start_of}
use Rattle.storage.specs.declared.Storage.{Storage}

-- one area more at the place after the last
abbrev pub appended : Storage → Area → Storage
appended s a = record { areas = set s.areas s.count a; count = s.count + 1 }

-- several areas more
unfoldable pub extended : Storage → List Area → Storage
extended s [] = s
extended s (a ∷ l) = extended (appended s a) l

-- how many areas stand before the first that starts above a
unfoldable pub rank_in : Area → List Area → ℕ
rank_in a [] = 0
rank_in a (b ∷ l) = cond (ltb (start_of a) (start_of b)) 0 (suc (rank_in a l))

abbrev pub inserted_at : ℕ → Area → List Area → List Area
inserted_at i a l = take i l ++ (a ∷ drop i l)
