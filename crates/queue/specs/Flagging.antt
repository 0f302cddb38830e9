-- One flag for each name beside a request.
use Rattle.std.specs.Prelude.{Bool, false, ℕ, take, map}
use Rattle.lists.specs.Lists.{every, unskipped}
use Rattle.lists.specs.Tables.{padded}
use Rattle.kinds.specs.Limits.{longest_list}
use Rattle.rules.specs.Names.{Ask, Names}
use Rattle.queue.specs.declared.looks.Flags.{Flags}

-- the flag of the first name stands at place 0, and so on; false past the count
unfoldable pub flags_of : (Ask → Bool) → Names → Flags
flags_of f l = record { of = padded longest_list false (map f l.asks) }

-- the first n flags are set, but for those that are skipped
unfoldable pub all_set_but : Flags → Flags → ℕ → Bool
all_set_but f skip n = every (λ (b : Bool). b) (unskipped skip.of (take n f.of))
