-- What is written at the front of an area that was lent, as a loop leaves it that copies byte by byte.
use Rattle.std.specs.Prelude.{◌≡◌, List, ◌++◌, ℕ, ◌≤◌, length, take, drop}
use Rattle.std.proofs.Common.{length-take-le}
use Rattle.rules.specs.Codes.{written_on}

pub written_all : (bytes area : List ℕ) (i n : ℕ) → i ≡ n → n ≤ length bytes
    → take i bytes ++ drop i area ≡ written_on (take n bytes) area
unfolding written_on
written_all bytes area i n e h = rw (e, length-take-le n bytes)
