-- VERDICTS OF ENQ AND DEQ that are wrong in one thing, made of the lines of their tables; and ENQ and DEQ by such a
-- verdict.
use Rattle.std.specs.Prelude.{ℕ, Bool, false, not, ◌&&◌, ◌||◌, List, [], ◌∷◌, length, take}
use Rattle.lists.specs.Lists.{some, same_bytes}
use Rattle.kinds.specs.Limits.{system_bytes}
use Rattle.kinds.specs.declared.numbers.TaskNumber.{TaskNumber}
use Rattle.kinds.specs.declared.requests.Ret.{Ret}
use Rattle.kinds.specs.declared.requests.Ret.TheVariants.{None, Test, Use, Have, Chng}
use Rattle.kinds.specs.declared.requests.DeqRet.{DeqRet}
use Rattle.kinds.specs.Replies.{Verdict}
use Rattle.kinds.specs.declared.replies.Refusal.TheVariants.{OutOfRange, SystemName, ShortArea, NoEntryFree}
use Rattle.kinds.specs.declared.replies.Fault.TheVariants.{DuplicateEnq, DeqWithoutEntry}
use Rattle.rules.specs.Names.{Resource, is_system, Names, names_of, names_good, asks_system}
use Rattle.rules.specs.Control.{Entry}
use Rattle.rules.specs.Tests.{Check, refuse, fail, first_of}
use Rattle.rules.specs.Codes.{too_short}
use Rattle.rules.specs.Steps.{Step, Outcome, Served}
use Rattle.rules.specs.Admission.{gate_of, through, settled, codes_through}
use Rattle.rules.specs.Enq.{enq_good, duplicated, too_few_free, enq_codes_due, enq_done, enq_written}
use Rattle.rules.specs.Deq.{deq_codes_due, unentered, deq_done, deq_written}

-- what says a verdict: of the entries, the caller, the RET kind, the names and the codes area's length
abbrev pub Judge : Type 0 → Type 0
Judge R = List Entry → ℕ → R → Names → ℕ → Verdict

-- THE LINES, where the codes area has room for so many bytes
abbrev pub bad : Bool → Check
bad good = refuse OutOfRange (not good)

abbrev pub system : Bool → Check
system asks = refuse SystemName asks

abbrev pub short : Bool → ℕ → Names → Check
short due room l = refuse ShortArea (due && too_short room l)

-- ENQ's last two, 201 and 105
abbrev pub after_codes : List Entry → ℕ → Ret → Names → List Check
after_codes q c ret l = fail DuplicateEnq (duplicated ret q c l) ∷ refuse NoEntryFree (too_few_free ret q c l) ∷ []

-- SYSTEM NAMES, document 02 §2

-- another test for 110
abbrev pub keeping_off : (Ret → Names → Bool) → Judge Ret
keeping_off asks q c ret l room =
    first_of
    (bad (enq_good ret l)
    ∷ system (asks ret l)
    ∷ short (enq_codes_due ret) room l
    ∷ after_codes q c ret l)

-- there is none
abbrev pub never110 : Ret → Names → Bool
never110 ret l = false

-- only the first name is looked at
abbrev pub first_only : Ret → Names → Bool
first_only ret l = some is_system (take 1 (names_of l))

-- only two bytes are compared
abbrev pub two_bytes : Resource → Bool
two_bytes n = same_bytes (take 2 n.major) (take 2 system_bytes)

-- the bytes are looked for in the minor part too
abbrev pub in_minor_too : Resource → Bool
in_minor_too n = is_system n || same_bytes (take (length system_bytes) n.minor) system_bytes

-- of every name
abbrev pub by_name : (Resource → Bool) → Ret → Names → Bool
by_name f ret l = some f (names_of l)

-- TEST lets it pass, since it queues nothing
abbrev pub unless_test : Ret → Names → Bool
unless_test None l = asks_system l
unless_test Test l = false
unless_test Use l = asks_system l
unless_test Have l = asks_system l
unless_test Chng l = asks_system l

-- 110 goes after 104
abbrev pub after104 : Judge Ret
after104 q c ret l room =
    first_of
    (bad (enq_good ret l)
    ∷ short (enq_codes_due ret) room l
    ∷ system (asks_system l)
    ∷ after_codes q c ret l)

-- 110 goes before 101
abbrev pub before101 : Judge Ret
before101 q c ret l room =
    first_of
    (system (asks_system l)
    ∷ bad (enq_good ret l)
    ∷ short (enq_codes_due ret) room l
    ∷ after_codes q c ret l)

-- 104 goes first
abbrev pub short_first : Judge Ret
short_first q c ret l room =
    first_of
    (short (enq_codes_due ret) room l
    ∷ bad (enq_good ret l)
    ∷ system (asks_system l)
    ∷ after_codes q c ret l)

-- DEQ refuses it too
abbrev pub deq_keeping_off : Judge DeqRet
deq_keeping_off q c ret l room =
    first_of
    (bad (names_good l)
    ∷ system (asks_system l)
    ∷ short (deq_codes_due ret) room l
    ∷ fail DeqWithoutEntry (unentered ret q c l)
    ∷ [])

-- THE SERVICES, by such a verdict

abbrev pub judged : Verdict → Step → TaskNumber → List ℕ → Outcome Step → List ℕ → Served Step
judged v s c area o written = record {
  outcome = through (gate_of s c) s (settled v s c o);
  codes = codes_through (gate_of s c) v area written;
}

abbrev pub enq_judged : Judge Ret → Step → TaskNumber → Ret → Names → List ℕ → Served Step
enq_judged f s c ret l area =
    judged (f s.queue c.0 ret l (length area)) s c area (enq_done s c ret l) (enq_written s.queue c ret l area)

abbrev pub deq_judged : Judge DeqRet → Step → TaskNumber → DeqRet → Names → List ℕ → Served Step
deq_judged f s c ret l area =
    judged (f s.queue c.0 ret l (length area)) s c area (deq_done s c ret l) (deq_written s.queue c ret l area)
