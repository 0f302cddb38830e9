-- What a search may be made in, and for how many bytes.
use Rattle.std.specs.Prelude.{◌≡◌, true}
use Prim.Native.Nat.{ℕ}
use Rattle.kinds.specs.Ranges.{length_good}
use Rattle.tables.specs.Tables.{Packed}
use Rattle.tables.specs.declared.AllTables.{AllTables}

pub record Searched (t : AllTables) (bytes : ℕ) : Type 0 where
  pub packed : Packed t
  pub good : length_good bytes ≡ true
