-- The sizes that are the script's own, each once; `src/sizes.rt` has them for the code, in this order.
use Rattle.std.specs.Prelude.{ℕ, ◌*◌}
use Rattle.kinds.specs.Limits.{major_bytes}

-- what is read or written at once
abbrev pub block_size : ℕ
block_size = 65536

-- a longer line is not readable
abbrev pub longest_line : ℕ
longest_line = 16383

-- a line that asks for a longer codes area is not readable
abbrev pub most_codes : ℕ
most_codes = 64

-- a line that asks for room for more items of a report is not readable
abbrev pub most_room : ℕ
most_room = 255

-- a line with more names or ECBs is not readable
abbrev pub most_listed : ℕ
most_listed = 20

-- the digits of a number
abbrev pub most_digits : ℕ
most_digits = 10

-- a minor part's bytes as a line gives or says them
abbrev pub highest_length : ℕ
highest_length = 300

-- the number of the last line that is read
abbrev pub highest_line : ℕ
highest_line = 18446744073709551614

-- the digits of a major part
abbrev pub major_digits : ℕ
major_digits = 2 * major_bytes
