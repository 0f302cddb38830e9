-- What stays of a table's rows.
use Rattle.std.specs.Prelude.{◌≡◌, Bool, ℕ, List, ◌++◌, length, drop}
use Rattle.lists.specs.Lists.{keep}

-- those that pass the test stand at the front, n of them, and behind them is what was there
pub record Staying {A : Type 0} (p : A → Bool) (rows old new : List A) (n : ℕ) : Type 0 where
  pub many : n ≡ length (keep p rows)
  pub front : new ≡ keep p rows ++ drop (length (keep p rows)) old
