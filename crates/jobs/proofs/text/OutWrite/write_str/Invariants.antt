-- No write has failed since the first byte.
use Rattle.std.specs.Prelude.{◌≡◌}
use Rattle.jobs.proofs.text.OutWrite.write_str.Given as goal

abbrev pub invariant-loop-byte : goal.invariant-loop-byte
invariant-loop-byte l = l.self.written ≡ l.fn.self.written
