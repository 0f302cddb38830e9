-- The codes of the names beside a request, by what the queue says of each name.
use Rattle.std.specs.Prelude.{◌≡◌, Bool, true, false, List, ℕ, length, get_or, take, replicate}
use Rattle.std.proofs.Common.{sym, ap, ◌∙◌}
use Rattle.lists.specs.Pick.{pick}
use Rattle.lists.specs.Tables.{padded, padded_take}
use Rattle.kinds.specs.Limits.{longest_list}
use Rattle.kinds.specs.declared.requests.Ret.{Ret}
use Rattle.kinds.specs.declared.requests.Ret.TheVariants.{None, Test, Use, Have, Chng}
use Rattle.rules.specs.Names.{Ask, Names}
use Rattle.rules.specs.Control.{Entry, available, sole_owner}
use Rattle.queue.specs.Flagging.{flags_of}
use Rattle.queue.specs.declared.looks.Flags.{Flags}
use Rattle.resources.specs.declared.codes.Codes.{Codes}

-- the code of the first name stands at place 0, and so on; zero past the count
unfoldable pub codes_of : List ℕ → Codes
codes_of l = record { bytes = padded longest_list 0 l }

-- the codes are at the front
pub codes_front : (l : List ℕ) (n : ℕ) → length l ≡ n → take n (codes_of l).bytes ≡ l
unfolding codes_of
codes_front l n e = ap (λ (k : ℕ). take k (padded longest_list 0 l)) (sym e) ∙ padded_take longest_list 0 l

-- of one name: the caller has an entry, it is to have one, nobody else is in the way; "8 goes before 4"
abbrev pub code_by : Bool → Bool → Bool → ℕ
code_by true false clear = 8
code_by false true clear = 8
code_by true true true = 0
code_by true true false = 4
code_by false false true = 0
code_by false false false = 4

-- of the name at place j
abbrev pub code_at : Flags → Bool → Flags → ℕ → ℕ
code_at has wanted clear j = code_by (get_or has.of j false) wanted (get_or clear.of j false)

-- ENQ: the caller is to have an entry
abbrev pub wants_entry : Ret → Bool
wants_entry None = false
wants_entry Test = false
wants_entry Use = false
wants_entry Have = false
wants_entry Chng = true

-- the codes say whether a name is available
abbrev pub asks_free : Ret → Bool
asks_free None = false
asks_free Test = true
asks_free Use = true
asks_free Have = false
asks_free Chng = false

abbrev pub all_clear : Flags
all_clear = record { of = replicate longest_list true }

-- nobody else is in the way, as far as the codes ask
unfoldable pub clear_for : Ret → List Entry → ℕ → Names → Flags
clear_for ret q c l =
    pick (asks_free ret) (flags_of (available q) l)
    (pick (wants_entry ret) (flags_of (λ (a : Ask). sole_owner q c a.name) l) all_clear)
