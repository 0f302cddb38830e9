-- The plain search from `at` on finds what all of it finds, no more addresses are left than tries, and `at` is a
-- candidate where ends are multiples of 8.
use Rattle.mainstorage.proofs.Trials.{Trying}
use Rattle.mainstorage.proofs.room.lowest.Given as goal

abbrev pub invariant-loop : goal.invariant-loop
invariant-loop l = Trying l.fn.s.areas l.fn.s.count l.want l.at l.counter
