-- What a range test says of its number.
use Rattle.std.specs.Prelude.{◌≡◌, true, ℕ, ◌≤◌, leb}
use Rattle.std.proofs.Common.{leb-true}
use Rattle.std.proofs.lemmas.Bool.{and_parts}
use Rattle.kinds.specs.Ranges.{between}

pub within : (lowest highest n : ℕ) → between lowest highest n ≡ true → (lowest ≤ n) × (n ≤ highest)
within lowest highest n h =
    let p = and_parts (leb lowest n) (leb n highest) h in
    (leb-true lowest n p.0, leb-true n highest p.1)
