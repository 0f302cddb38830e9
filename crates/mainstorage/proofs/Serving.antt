-- The area that GETMAIN puts at the place that was found is the one that the rules put there.
use mathlib.Core.Path.{◌≡◌, sym, ap}
use Rattle.kinds.specs.declared.areas.Area.{Area}
use Rattle.std.specs.Prelude.{Option, Some, None}
use Rattle.kinds.specs.declared.numbers.Address.{Address}
use Rattle.kinds.specs.Replies.Besides.{TheAddress}
use Rattle.rules.specs.Steps.{done_with, four, kept_by}
use Rattle.rules.specs.Getmain.{given}
use Rattle.tables.specs.Tables.{step_of, tables_of, Packed, put_storage}
use Rattle.tables.specs.Bodies.{replied}
use Rattle.tables.specs.declared.AllTables.{AllTables}
use Rattle.tables.proofs.Admits.{packed_tables, areas_put}
use Rattle.mainstorage.specs.Found.{reply_at, put_at}

pub put_leaves : (t : AllTables) → Packed t → (w : Area) (q : Option Address)
    → replied (reply_at q) (put_storage t (put_at q w t.storage)) ≡ kept_by tables_of (given (step_of t) w q)
put_leaves t p w (Some a) = ap (done_with (TheAddress a)) (areas_put t p _)
put_leaves t p w None = ap four (sym (packed_tables t p))
