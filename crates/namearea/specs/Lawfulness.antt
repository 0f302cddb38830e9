-- Lawful names, as they are read in the name area.
use Rattle.std.specs.Prelude.{◌≡◌, Bool, true, not, ◌&&◌, List, ℕ, ◌+◌, length, get_or, take, drop}
use Rattle.std.proofs.Common.{ap, ap₂, arith, take-take}
use Rattle.lists.specs.Lists.{same_bytes}
use Rattle.kinds.specs.Limits.{system_bytes}
use Rattle.kinds.specs.Ranges.{minor_good}
use Rattle.rules.specs.Names.{legal, is_system, lawful}
use Rattle.namearea.specs.Spelling.{name_at}
use Rattle.namearea.specs.Scanning.{fits_at, fit_whole, fit_size}

-- a name that lies within the bytes is lawful by its length byte and its first three bytes
pub lawful_there : (bytes : List ℕ) (o : ℕ) → fits_at bytes o ≡ true
    → lawful (name_at bytes o)
    ≡ (minor_good (get_or bytes (o + 8) 0) && not (same_bytes (take 3 (drop o bytes)) system_bytes))
unfolding lawful legal is_system name_at
lawful_there bytes o h =
    let l : length (name_at bytes o).minor ≡ get_or bytes (o + 8) 0 = omega (arith, fit_size bytes o h) in
    ap₂ (λ (a b : Bool). a && b)
    (ap₂ (λ (a : Bool) (k : ℕ). a && minor_good k) (fit_whole bytes o h) l)
    (ap (λ (m : List ℕ). not (same_bytes m system_bytes)) (take-take 3 8 (drop o bytes) (omega arith)))
