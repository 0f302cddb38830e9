-- WRONG JUMPS: where a search goes on past the area x in the way of w, wrong in one thing. (By the right rule and with
-- tries enough such a search is the rules': `mainstorage`, proofs/Jumping.)
use Rattle.std.specs.Prelude.{◌+◌, ◌*◌}
use Rattle.lists.specs.Pick.{pick}
use Rattle.kinds.specs.Limits.{region, page}
use Rattle.rules.specs.Storage.{start_of, past_end, past_page, one_holder}
use Rattle.mainstorage.specs.Bars.{next_at}
use Rattle.mainstorage.specs.Jumping.{Jump}

-- always past the last page
abbrev pub to_pages : Jump
to_pages w x = next_at (past_page x * page)

-- never past a page
abbrev pub to_ends : Jump
to_ends w x = next_at (past_end x)

-- to where the area in the way starts
abbrev pub to_start : Jump
to_start w x = next_at (start_of x)

-- one page too far, where it is another holder's
abbrev pub page_too_far : Jump
page_too_far w x = next_at (pick (one_holder w x) (past_end x) ((past_page x + 1) * page))

-- no further, where it is another holder's
abbrev pub stops_at_others : Jump
stops_at_others w x = pick (one_holder w x) (next_at (past_end x)) region
