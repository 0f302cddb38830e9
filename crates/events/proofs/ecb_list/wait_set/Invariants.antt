-- The wait bits of the ECBs looked at are set.
use Rattle.std.proofs.Common.{◌≡◌, map, take}
use Rattle.lists.specs.Lists.{map_at}
use Rattle.rules.specs.Wait.{wait_set}
use Rattle.events.proofs.Listing.{number}
use Rattle.events.proofs.Waiting.{those}
use Rattle.events.proofs.ecb_list.wait_set.Given as goal

abbrev pub invariant-loop-m : goal.invariant-loop-m
invariant-loop-m l =
    l.r.ecbs ≡ map_at (wait_set l.c.0 (those l.fn.l.count (map number (take l.m-index l.m-items)))) 0 l.fn.e.ecbs
