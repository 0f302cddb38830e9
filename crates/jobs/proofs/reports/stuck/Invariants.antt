-- No write has failed since the first item.
use Rattle.std.specs.Prelude.{◌≡◌}
use Rattle.jobs.proofs.reports.stuck.Given as goal

abbrev pub invariant-loop-item : goal.invariant-loop-item
invariant-loop-item l = l.out.written ≡ l.fn.out.written
