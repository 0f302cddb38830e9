-- No write has failed since the first byte.
use Rattle.std.specs.Prelude.{◌≡◌}
use Rattle.jobs.proofs.text.Out.put_hex.Given as goal

abbrev pub invariant-loop-byte : goal.invariant-loop-byte
invariant-loop-byte l = l.self.written ≡ l.fn.self.written
