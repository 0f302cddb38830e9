-- How far up an area stands in the way of one that is wanted, and where the search goes on.
use Rattle.std.specs.Prelude.{ℕ, ◌*◌, leb}
use Rattle.lists.specs.Pick.{pick}
use Rattle.kinds.specs.Limits.{region, page}
use Rattle.kinds.specs.declared.areas.Area.{Area}
use Rattle.rules.specs.Storage.{past_end, past_page, one_holder, rounded}

-- up to x's end for an area of its holder, else to the end of the last page that x touches
unfoldable pub bar_of : Area → Area → ℕ
bar_of want x = pick (one_holder want x) (past_end x) (past_page x * page)

-- the first multiple of 8 not below the bar, or the region's end
unfoldable pub next_at : ℕ → ℕ
next_at bar = pick (leb region bar) region (rounded bar)
