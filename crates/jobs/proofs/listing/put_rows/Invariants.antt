-- No write has failed since the first row.
use Rattle.std.specs.Prelude.{◌≡◌}
use Rattle.jobs.proofs.listing.put_rows.Given as goal

abbrev pub invariant-loop-n : goal.invariant-loop-n
invariant-loop-n g l = l.out.written ≡ l.fn.out.written

abbrev pub invariant-loop-i : goal.invariant-loop-i
invariant-loop-i g l = l.out.written ≡ l.fn.out.written
