-- Wrong answers that the contracts of `resources`, but for its two bodies, rule out.
use mathlib.Core.Path.{refl}
use mathlib.Core.Bool.{Bool, true, false, not, ◌&&◌}
use mathlib.Core.List.{List, [], ◌∷◌, map}
use Prim.Native.Nat.{ℕ, ◌-◌}
use native.Mathlib.Omega.{arith}
use lib.Dec.{eqb, leb, ltb}
use lib.ListN.{length, take, get_or, replicate}
use denote.Ref.{MutBor, at_last}
use Rattle.lists.specs.Pick.{pick}
use Rattle.lists.specs.Lists.{every, some, none, distinct}
use Rattle.lists.specs.Tables.{padded}
use Rattle.kinds.specs.Limits.{longest_list, most_entries}
use Rattle.kinds.specs.Ranges.{count_good}
use Rattle.kinds.specs.Replies.{refusal_number}
use Rattle.kinds.specs.declared.numbers.TaskNumber.{TaskNumber}
use Rattle.kinds.specs.declared.names.NameList.{NameList}
use Rattle.kinds.specs.declared.names.PointedList.{PointedList}
use Rattle.kinds.specs.declared.requests.Ret.{Ret}
use Rattle.kinds.specs.declared.requests.Ret.TheVariants.{None, Test, Use, Have, Chng}
use Rattle.kinds.specs.declared.requests.DeqRet.{DeqRet}
use Rattle.kinds.specs.declared.requests.DeqRet.TheVariants.{None as DeqNone, Have as DeqHave}
use Rattle.std.specs.Prelude.{Ok, Err}
use Rattle.kinds.specs.Replies.{Verdict, Gate}
use Rattle.kinds.specs.declared.replies.Refusal.TheVariants.{ShortArea, NoEntryFree}
use Rattle.kinds.specs.declared.replies.Fault.TheVariants.{DuplicateEnq, DeqWithoutEntry}
use Rattle.rules.specs.Names.{Resource, Ask, Names, same_name, legal, names_good, asks_system, names_of as resources}
use Rattle.rules.specs.Control.{Entry, has_entry, available, holding}
use Rattle.rules.specs.Tests.{Check, refuse, fail, first_of}
use Rattle.rules.specs.Admission.{gate_by}
use Rattle.rules.specs.Codes.{all_zero, written_on}
use Rattle.rules.specs.Table.{named, shr, exc, counted}
use Rattle.rules.specs.Enq.{entry_for, enq_good, duplicated, to_queue, too_few_free, enq_code, enq_codes, enq_codes_due}
use Rattle.rules.specs.Enq.{enq_verdict}
use Rattle.rules.specs.Deq.{deq_codes_due, unentered}
use Rattle.rules.specs.SystemCases.{beginning, sysdsn, sysdsn_with}
use Rattle.history.specs.Samples.{x}
use Rattle.names.specs.Named.{names_in}
use Rattle.names.specs.Pointers.{pointer, pointed_in}
use Rattle.queue.specs.Queues.{entries_in, stored_entries}
use Rattle.queue.specs.declared.Queue.{Queue}
use Rattle.resources.specs.Coding.{codes_of}
use Rattle.resources.specs.Looking.{looks_as, enq_looks, deq_looks, enq_found, deq_found}
use Rattle.resources.specs.declared.codes.Codes.{Codes}
use Rattle.resources.specs.declared.looks.Looks.{Looks}
use Rattle.resources.specs.declared.Found.{Found}
use Rattle.resources.proofs.codes.enq_codes_due.Reads as enq_codes_due_fn
use Rattle.resources.proofs.codes.deq_codes_due.Reads as deq_codes_due_fn
use Rattle.resources.proofs.codes.write.Reads as write
use Rattle.resources.proofs.named.enq_named.Reads as enq_named
use Rattle.resources.proofs.named.deq_named.Reads as deq_named
use Rattle.resources.proofs.looks.enq_looks.Reads as enq_looks_fn
use Rattle.resources.proofs.looks.deq_looks.Reads as deq_looks_fn
use Rattle.resources.proofs.enq.enq_found.Reads as enq_found_fn
use Rattle.resources.proofs.deq.deq_found.Reads as deq_found_fn
use Rattle.impostors.specs.Fitting.{◌⊗◌, fits-Codes, fits-DeqRet, fits-NameList, fits-Queue, fits-Ret}
use Rattle.impostors.specs.Fitting.{fits-PointedList, fits-TaskNumber, fits_end, fits_mut_lent, fits_u32, fits_usize}
use Rattle.impostors.specs.Opened.{tables_open}
use Rattle.impostors.specs.Samples.{task, names_of, points_of, x_at, y_at}
use Rattle.impostors.specs.Wrong.{RuledOut, wrong_at, RuledOutWith, wrong_with}
use Rattle.impostors.specs.Parts.{mut_lent, verdict_number}
use Rattle.impostors.specs.Verdicts.{Judge, bad, system, short, first_only, two_bytes, in_minor_too, by_name}
use Rattle.impostors.specs.Verdicts.{unless_test}
use Rattle.impostors.specs.Haves.{full_by, whole_list, none_free}

-- the code behind n others
abbrev code : ℕ → Codes → ℕ
code n k = get_or k.bytes n 0

abbrev codes : List ℕ → Codes
codes l = record { bytes = padded longest_list 0 l }

-- CODES

-- codes are due under NONE too
pub enq_codes_due_under_none : RuledOut (λ k. fits-Ret ⊗ fits_end) enq_codes_due_fn.Pre enq_codes_due_fn.Post (λ k a. true)
unfolding tables_open
enq_codes_due_under_none = wrong_at tt (None, tt) refl tt (λ b. b) refl refl

-- the RET kinds that never queue
abbrev queues_nothing : Ret → Bool
queues_nothing None = false
queues_nothing Test = true
queues_nothing Use = false
queues_nothing Have = false
queues_nothing Chng = true

-- codes are due only where nothing is queued, and so not under USE
pub enq_codes_due_where_nothing_is_queued : RuledOut (λ k. fits-Ret ⊗ fits_end) enq_codes_due_fn.Pre enq_codes_due_fn.Post
    (λ k a. queues_nothing a.0)
unfolding tables_open
enq_codes_due_where_nothing_is_queued = wrong_at tt (Use, tt) refl tt not refl refl

-- codes are due under NONE too
pub deq_codes_due_under_none : RuledOut (λ k. fits-DeqRet ⊗ fits_end) deq_codes_due_fn.Pre deq_codes_due_fn.Post (λ k a. true)
unfolding tables_open
deq_codes_due_under_none = wrong_at tt (DeqNone, tt) refl tt (λ b. b) refl refl

-- no DEQ gives codes
pub deq_codes_due_never : RuledOut (λ k. fits-DeqRet ⊗ fits_end) deq_codes_due_fn.Pre deq_codes_due_fn.Post (λ k a. false)
unfolding tables_open
deq_codes_due_never = wrong_at tt (DeqHave, tt) refl tt not refl refl

-- the area holds these bytes at the end
abbrev leaves : Codes × (ℕ × (MutBor (List ℕ) × Unit {0})) → List ℕ
    → Unit {0} × (Codes × (ℕ × (MutBor (List ℕ) × Unit {0})))
leaves a l = (tt, (a.0, (a.1.0, (at_last a.1.1.0 l, tt))))

-- all 16 codes are written, where the list has one name
pub write_all_16 : RuledOutWith (λ k. fits-Codes ⊗ fits_u32 ⊗ fits_mut_lent ⊗ fits_end) write.Pre write.Post
    (λ k a. leaves a (written_on a.0.bytes a.1.1.0.now))
unfolding tables_open
write_all_16 =
    wrong_with ([], tt) (codes (8 ∷ 4 ∷ []), (1, (mut_lent (replicate 16 238), tt))) refl (omega arith, omega arith)
    (λ l. eqb (get_or l 1 0) 4) refl refl

-- what is behind the codes becomes 0
pub write_zeros_behind : RuledOutWith (λ k. fits-Codes ⊗ fits_u32 ⊗ fits_mut_lent ⊗ fits_end) write.Pre write.Post
    (λ k a. leaves a (padded (length a.1.1.0.now) 0 (take a.1.0 a.0.bytes)))
unfolding tables_open
write_zeros_behind =
    wrong_with ([], tt) (codes (8 ∷ []), (1, (mut_lent (238 ∷ 238 ∷ []), tt))) refl (omega arith, omega arith)
    (λ l. eqb (get_or l 1 0) 0) refl refl

-- NAMES, before anything is looked for

-- the number that a gate is shut by, 0 where it is open
abbrev shut_by : Gate → ℕ
shut_by (Ok _) = 0
shut_by (Err why) = refusal_number why

-- ENQ's gate by other tests of the RET kind and the names
abbrev enq_gate : (Ret → Names → List Check) → Ret × (NameList × Unit {0}) → Gate
enq_gate f a = gate_by (first_of (f a.0 (names_in a.1.0)))

-- another test for 110, in each of the ways of Verdicts
abbrev keeping_off : (Ret → Names → Bool) → Ret → Names → List Check
keeping_off asks ret l = bad (enq_good ret l) ∷ system (asks ret l) ∷ []

-- another test for 101
abbrev good_by : (Ret → Names → Bool) → Ret → Names → List Check
good_by good ret l = bad (good ret l) ∷ system (asks_system l) ∷ []

-- NONE for a system name without a minor part
pub enq_named_110_before_101 : RuledOut (λ k. fits-Ret ⊗ fits-NameList ⊗ fits_end) enq_named.Pre enq_named.Post
    (λ k a. enq_gate (λ ret l. system (asks_system l) ∷ bad (enq_good ret l) ∷ []) a)
unfolding tables_open
enq_named_110_before_101 =
    wrong_at tt (None, (names_of (exc (sysdsn_with []) ∷ []), tt)) refl tt (λ g. eqb (shut_by g) 110) refl refl

-- x, and then a system name
pub enq_named_first_name_only : RuledOut (λ k. fits-Ret ⊗ fits-NameList ⊗ fits_end) enq_named.Pre enq_named.Post
    (λ k a. enq_gate (keeping_off first_only) a)
unfolding tables_open
enq_named_first_name_only =
    wrong_at tt (None, (names_of (exc x ∷ exc sysdsn ∷ []), tt)) refl tt (λ g. eqb (shut_by g) 0) refl refl

-- E2 E8 E3
pub enq_named_two_bytes_compared : RuledOut (λ k. fits-Ret ⊗ fits-NameList ⊗ fits_end) enq_named.Pre enq_named.Post
    (λ k a. enq_gate (keeping_off (by_name two_bytes)) a)
unfolding tables_open
enq_named_two_bytes_compared =
    wrong_at tt (None, (names_of (exc (beginning (0xE2 ∷ 0xE8 ∷ 0xE3 ∷ [])) ∷ []), tt)) refl tt
    (λ g. eqb (shut_by g) 110) refl refl

-- x's major part, and E2 E8 E2 as the minor part
pub enq_named_in_the_minor_part : RuledOut (λ k. fits-Ret ⊗ fits-NameList ⊗ fits_end) enq_named.Pre enq_named.Post
    (λ k a. enq_gate (keeping_off (by_name in_minor_too)) a)
unfolding tables_open
enq_named_in_the_minor_part =
    wrong_at tt (None, (names_of (exc (named 88 (0xE2 ∷ 0xE8 ∷ 0xE2 ∷ [])) ∷ []), tt)) refl tt
    (λ g. eqb (shut_by g) 110) refl refl

-- TEST for a system name
pub enq_named_test_passes : RuledOut (λ k. fits-Ret ⊗ fits-NameList ⊗ fits_end) enq_named.Pre enq_named.Post
    (λ k a. enq_gate (keeping_off unless_test) a)
unfolding tables_open
enq_named_test_passes =
    wrong_at tt (Test, (names_of (shr sysdsn ∷ []), tt)) refl tt (λ g. eqb (shut_by g) 0) refl refl

-- TEST takes any list, since it queues nothing
abbrev good_unless_test : Ret → Names → Bool
good_unless_test None l = enq_good None l
good_unless_test Test l = true
good_unless_test Use l = enq_good Use l
good_unless_test Have l = enq_good Have l
good_unless_test Chng l = enq_good Chng l

-- TEST for x twice
pub enq_named_any_list_under_test : RuledOut (λ k. fits-Ret ⊗ fits-NameList ⊗ fits_end) enq_named.Pre enq_named.Post
    (λ k a. enq_gate (good_by good_unless_test) a)
unfolding tables_open
enq_named_any_list_under_test =
    wrong_at tt (Test, (names_of (exc x ∷ exc x ∷ []), tt)) refl tt (λ g. eqb (shut_by g) 0) refl refl

-- CHNG may ask for x shared
pub enq_named_chng_for_shared : RuledOut (λ k. fits-Ret ⊗ fits-NameList ⊗ fits_end) enq_named.Pre enq_named.Post
    (λ k a. enq_gate (good_by (λ ret l. names_good l)) a)
unfolding tables_open
enq_named_chng_for_shared =
    wrong_at tt (Chng, (names_of (shr x ∷ []), tt)) refl tt (λ g. eqb (shut_by g) 0) refl refl

-- DEQ's gate by other tests of the names
abbrev deq_gate : (Names → List Check) → NameList × Unit {0} → Gate
deq_gate f a = gate_by (first_of (f (names_in a.0)))

-- a system name is refused
pub deq_named_110 : RuledOut (λ k. fits-NameList ⊗ fits_end) deq_named.Pre deq_named.Post
    (λ k a. deq_gate (λ l. bad (names_good l) ∷ system (asks_system l) ∷ []) a)
unfolding tables_open
deq_named_110 = wrong_at tt (names_of (exc sysdsn ∷ []), tt) refl tt (λ g. eqb (shut_by g) 110) refl refl

-- a name may stand twice
pub deq_named_a_name_twice : RuledOut (λ k. fits-NameList ⊗ fits_end) deq_named.Pre deq_named.Post
    (λ k a. deq_gate (λ l. bad (count_good l.count && every legal (resources l)) ∷ []) a)
unfolding tables_open
deq_named_a_name_twice =
    wrong_at tt (names_of (exc x ∷ exc x ∷ []), tt) refl tt (λ g. eqb (shut_by g) 0) refl refl

-- the lengths are not looked at: of a name without a minor part
pub deq_named_any_length : RuledOut (λ k. fits-NameList ⊗ fits_end) deq_named.Pre deq_named.Post
    (λ k a. deq_gate (λ l. bad (count_good l.count && distinct same_name (resources l)) ∷ []) a)
unfolding tables_open
deq_named_any_length =
    wrong_at tt (names_of (exc (named 88 []) ∷ []), tt) refl tt (λ g. eqb (shut_by g) 0) refl refl

-- the modes are looked at, as under CHNG: of x shared
pub deq_named_by_the_modes : RuledOut (λ k. fits-NameList ⊗ fits_end) deq_named.Pre deq_named.Post
    (λ k a. deq_gate (λ l. bad (enq_good Chng l) ∷ []) a)
unfolding tables_open
deq_named_by_the_modes =
    wrong_at tt (names_of (shr x ∷ []), tt) refl tt (λ g. eqb (shut_by g) 101) refl refl

-- LOOKS

-- task 1 owns x, and 2 waits for it, by the name's offset
abbrev owner_and_waiter : List Entry
owner_and_waiter = entry_for 1 (exc x_at) ∷ entry_for 2 (exc x_at) ∷ []

-- what is looked at, and the entries, the caller, the RET kind and the names of it
abbrev Looked : Type 0
Looked = Queue × (TaskNumber × (Ret × (PointedList × Unit {0})))

abbrev fits-Looked : Looked → Bool
fits-Looked = fits-Queue ⊗ fits-TaskNumber ⊗ fits-Ret ⊗ fits-PointedList ⊗ fits_end

abbrev looked : {R : Type 0} → (Ret → List Entry → ℕ → Names → R) → Looked → R
looked f a = f a.1.1.0 (entries_in a.0) a.1.0.0 (pointed_in a.1.1.1.0)

-- other codes, and whether they are all 0
abbrev coding : Looks → List ℕ → Looks
coding k l = record { has = k.has; codes = codes_of l; zero = all_zero l }

-- 4 goes before 8, under TEST and USE
abbrev four_first : Ret → List Entry → ℕ → Ask → ℕ
four_first None q c w = enq_code None q c w
four_first Test q c w = pick (available q w) (enq_code Test q c w) 4
four_first Use q c w = pick (available q w) (enq_code Use q c w) 4
four_first Have q c w = enq_code Have q c w
four_first Chng q c w = enq_code Chng q c w

-- task 1 tests x, which it owns
pub enq_looks_4_before_8 : RuledOut (λ k. fits-Looked) enq_looks_fn.Pre enq_looks_fn.Post
    (λ k a. looked (λ ret q c l. coding (enq_looks ret q c l) (map (four_first ret q c) l.asks)) a)
unfolding tables_open
enq_looks_4_before_8 =
    wrong_at tt (stored_entries owner_and_waiter, (task 1, (Test, (points_of (exc x_at ∷ []), tt)))) refl
    (omega arith, omega arith)
    (λ k. eqb (code 0 k.codes) 4) refl refl

-- HAVE asks whether the name is available, as USE does
abbrev as_use : Ret → Ret
as_use None = None
as_use Test = Test
as_use Use = Use
as_use Have = Use
as_use Chng = Chng

-- 3 asks for x, which task 1 owns
pub enq_looks_have_as_use : RuledOut (λ k. fits-Looked) enq_looks_fn.Pre enq_looks_fn.Post
    (λ k a. looked (λ ret q c l. coding (enq_looks ret q c l) (enq_codes (as_use ret) q c l)) a)
unfolding tables_open
enq_looks_have_as_use =
    wrong_at tt (stored_entries owner_and_waiter, (task 3, (Have, (points_of (exc x_at ∷ []), tt)))) refl
    (omega arith, omega arith)
    (λ k. eqb (code 0 k.codes) 4) refl refl

-- the codes past the count are 8
pub enq_looks_8_past_the_count : RuledOut (λ k. fits-Looked) enq_looks_fn.Pre enq_looks_fn.Post
    (λ k a. looked (λ ret q c l. record {
      has = (enq_looks ret q c l).has;
      codes = record { bytes = padded longest_list 8 (enq_codes ret q c l) };
      zero = (enq_looks ret q c l).zero;
    }) a)
unfolding tables_open
enq_looks_8_past_the_count =
    wrong_at tt (stored_entries owner_and_waiter, (task 3, (Have, (points_of (exc x_at ∷ []), tt)))) refl
    (omega arith, omega arith)
    (λ k. eqb (code 1 k.codes) 8) refl refl

-- NONE looks for nothing: task 1 asks for x, which it owns
pub enq_looks_none_without_a_look : RuledOut (λ k. fits-Looked) enq_looks_fn.Pre enq_looks_fn.Post
    (λ k a. looked (λ ret q c l. coding (enq_looks ret q c l) (enq_codes ret q c l)) a)
unfolding tables_open
enq_looks_none_without_a_look =
    wrong_at tt (stored_entries owner_and_waiter, (task 1, (None, (points_of (exc x_at ∷ []), tt)))) refl
    (omega arith, omega arith)
    (λ k. eqb (code 0 k.codes) 0) refl refl

-- whether all codes are 0 is told by others
abbrev zero_by : (List ℕ → Bool) → Looked → Looks
zero_by f a = looked (λ ret q c l. record {
  has = (enq_looks ret q c l).has;
  codes = (enq_looks ret q c l).codes;
  zero = f (enq_codes (looks_as ret) q c l);
}) a

-- a code below 8 counts as 0: 3 tests x
pub enq_looks_zero_with_a_4 : RuledOut (λ k. fits-Looked) enq_looks_fn.Pre enq_looks_fn.Post
    (λ k a. zero_by (every (λ b. ltb b 8)) a)
unfolding tables_open
enq_looks_zero_with_a_4 =
    wrong_at tt (stored_entries owner_and_waiter, (task 3, (Test, (points_of (exc x_at ∷ []), tt)))) refl
    (omega arith, omega arith)
    (λ k. k.zero) refl refl

-- the last code is not looked at: task 1 asks by HAVE for y and x, which it owns
pub enq_looks_zero_but_the_last : RuledOut (λ k. fits-Looked) enq_looks_fn.Pre enq_looks_fn.Post
    (λ k a. zero_by (λ l. all_zero (take (length l - 1) l)) a)
unfolding tables_open
enq_looks_zero_but_the_last =
    wrong_at tt (stored_entries owner_and_waiter, (task 1, (Have, (points_of (exc y_at ∷ exc x_at ∷ []), tt)))) refl
    (omega arith, omega arith)
    (λ k. k.zero) refl refl

-- DEQ: an entry counts as none, and none as one: task 1 gives x back
pub deq_looks_exchanged : RuledOut (λ k. fits-Queue ⊗ fits-TaskNumber ⊗ fits-PointedList ⊗ fits_end) deq_looks_fn.Pre
    deq_looks_fn.Post (λ k a. coding (deq_looks (entries_in a.0) a.1.0.0 (pointed_in a.1.1.0))
    (map (λ (n : Resource). pick (has_entry (entries_in a.0) a.1.0.0 n) 8 0)
    (resources (pointed_in a.1.1.0))))
unfolding tables_open
deq_looks_exchanged =
    wrong_at tt (stored_entries owner_and_waiter, (task 1, (points_of (exc x_at ∷ []), tt))) refl (omega arith, omega arith)
    (λ k. eqb (code 0 k.codes) 8) refl refl

-- an entry that lacks control is no entry: 2, who waits for x, gives it back
pub deq_looks_of_owners_only : RuledOut (λ k. fits-Queue ⊗ fits-TaskNumber ⊗ fits-PointedList ⊗ fits_end) deq_looks_fn.Pre
    deq_looks_fn.Post (λ k a. deq_looks (holding [] (entries_in a.0)) a.1.0.0 (pointed_in a.1.1.0))
unfolding tables_open
deq_looks_of_owners_only =
    wrong_at tt (stored_entries owner_and_waiter, (task 2, (points_of (exc x_at ∷ []), tt))) refl (omega arith, omega arith)
    (λ k. eqb (code 0 k.codes) 8) refl refl

-- VERDICTS

-- what is asked, that it fits, by the RET kind's test, and what is said of the entries, the caller, the RET kind, the
-- names and the area's length
abbrev Asks : Type 0 → Type 0
Asks K = Queue × (TaskNumber × (K × (PointedList × (ℕ × Unit {0}))))

abbrev fits-Asks : {K : Type 0} → (K → Bool) → Asks K → Bool
fits-Asks ret = fits-Queue ⊗ fits-TaskNumber ⊗ ret ⊗ fits-PointedList ⊗ fits_usize ⊗ fits_end

abbrev verdict_by : {K : Type 0} → Judge K → Asks K → Verdict
verdict_by f a = f (entries_in a.0) a.1.0.0 a.1.1.0 (pointed_in a.1.1.1.0) a.1.1.1.1.0

abbrev says : Found → ℕ
says r = verdict_number r.verdict

-- with that verdict, and the looks that are promised
abbrev enq_judged : Judge Ret → Asks Ret → Found
enq_judged f a = record {
  verdict = verdict_by f a;
  looks = (enq_found (entries_in a.0) a.1.0 a.1.1.0 (pointed_in a.1.1.1.0) a.1.1.1.1.0).looks;
}

abbrev deq_judged : Judge DeqRet → Asks DeqRet → Found
deq_judged f a = record {
  verdict = verdict_by f a;
  looks = (deq_found (entries_in a.0) a.1.0 a.1.1.0 (pointed_in a.1.1.1.0) a.1.1.1.1.0).looks;
}

-- n entries of task 1, at the offsets 1, 2 and so on: y is among them, and x is not
abbrev long : ℕ → List Entry
long n = counted (λ i. entry_for 1 (exc (pointer i))) 1 n

-- a duplicate is an error under every RET kind
abbrev every_duplicate : Judge Ret
every_duplicate q c ret l room =
    first_of
    (bad (enq_good ret l)
    ∷ system (asks_system l)
    ∷ short (enq_codes_due ret) room l
    ∷ fail DuplicateEnq (duplicated None q c l)
    ∷ refuse NoEntryFree (too_few_free ret q c l)
    ∷ [])

-- task 1 asks by USE for x, which it has
pub enq_found_201_under_use : RuledOut (λ k. fits-Asks fits-Ret) enq_found_fn.Pre enq_found_fn.Post
    (λ k a. enq_judged every_duplicate a)
unfolding tables_open
enq_found_201_under_use =
    wrong_at tt (stored_entries owner_and_waiter, (task 1, (Use, (points_of (exc x_at ∷ []), (1, tt))))) refl
    (omega arith, refl)
    (λ r. eqb (says r) 201) refl refl

-- one free place is enough for any list
abbrev one_free : Judge Ret
one_free q c ret l room =
    first_of
    (bad (enq_good ret l)
    ∷ system (asks_system l)
    ∷ short (enq_codes_due ret) room l
    ∷ fail DuplicateEnq (duplicated ret q c l)
    ∷ refuse NoEntryFree (not (none (to_queue ret q c l)) && leb most_entries (length q))
    ∷ [])

-- 127 entries, and 2 asks for two names
pub enq_found_one_free_is_enough : RuledOut (λ k. fits-Asks fits-Ret) enq_found_fn.Pre enq_found_fn.Post
    (λ k a. enq_judged one_free a)
unfolding tables_open
enq_found_one_free_is_enough =
    wrong_at tt (stored_entries (long 127), (task 2, (None, (points_of (exc x_at ∷ exc y_at ∷ []), (0, tt))))) refl
    (omega arith, refl)
    (λ r. eqb (says r) 0) refl refl

-- 105 goes before 201
abbrev full_first : Judge Ret
full_first q c ret l room =
    first_of
    (bad (enq_good ret l)
    ∷ system (asks_system l)
    ∷ short (enq_codes_due ret) room l
    ∷ refuse NoEntryFree (too_few_free ret q c l)
    ∷ fail DuplicateEnq (duplicated ret q c l)
    ∷ [])

-- 128 entries, and task 1 asks for y, which it has
pub enq_found_105_before_201 : RuledOut (λ k. fits-Asks fits-Ret) enq_found_fn.Pre enq_found_fn.Post
    (λ k a. enq_judged full_first a)
unfolding tables_open
enq_found_105_before_201 =
    wrong_at tt (stored_entries (long 128), (task 1, (None, (points_of (exc y_at ∷ []), (0, tt))))) refl
    (omega arith, refl)
    (λ r. eqb (says r) 105) refl refl

-- 105 goes before 104
abbrev area_last : Judge Ret
area_last q c ret l room =
    first_of
    (bad (enq_good ret l)
    ∷ system (asks_system l)
    ∷ fail DuplicateEnq (duplicated ret q c l)
    ∷ refuse NoEntryFree (too_few_free ret q c l)
    ∷ short (enq_codes_due ret) room l
    ∷ [])

-- 128 entries of task 1, and 2 asks by HAVE for x, with no codes area
pub enq_found_105_before_104 : RuledOut (λ k. fits-Asks fits-Ret) enq_found_fn.Pre enq_found_fn.Post
    (λ k a. enq_judged area_last a)
unfolding tables_open
enq_found_105_before_104 =
    wrong_at tt (stored_entries (long 128), (task 2, (Have, (points_of (exc x_at ∷ []), (0, tt))))) refl
    (omega arith, refl)
    (λ r. eqb (says r) 105) refl refl

-- HAVE, document 02 §3: 127 entries, of task 1, which asks for one of them and for x
pub enq_found_105_by_the_whole_list : RuledOut (λ k. fits-Asks fits-Ret) enq_found_fn.Pre enq_found_fn.Post
    (λ k a. enq_judged (full_by whole_list) a)
unfolding tables_open
enq_found_105_by_the_whole_list =
    wrong_at tt (stored_entries (long 127), (task 1, (Have, (points_of (exc y_at ∷ exc x_at ∷ []), (2, tt))))) refl
    (omega arith, refl)
    (λ r. eqb (says r) 105) refl refl

-- 128 entries, and task 1 asks for one of them
pub enq_found_105_with_nothing_to_queue : RuledOut (λ k. fits-Asks fits-Ret) enq_found_fn.Pre enq_found_fn.Post
    (λ k a. enq_judged (full_by none_free) a)
unfolding tables_open
enq_found_105_with_nothing_to_queue =
    wrong_at tt (stored_entries (long 128), (task 1, (Have, (points_of (exc y_at ∷ []), (1, tt))))) refl
    (omega arith, refl)
    (λ r. eqb (says r) 105) refl refl

-- the queue is looked at though the request alone is refused: task 1 tests x, which it owns, with no codes area
pub enq_found_looks_though_refused : RuledOut (λ k. fits-Asks fits-Ret) enq_found_fn.Pre enq_found_fn.Post
    (λ k a. record {
      verdict = enq_verdict (entries_in a.0) a.1.0 a.1.1.0 (pointed_in a.1.1.1.0) a.1.1.1.1.0;
      looks = enq_looks a.1.1.0 (entries_in a.0) a.1.0.0 (pointed_in a.1.1.1.0);
    })
unfolding tables_open
enq_found_looks_though_refused =
    wrong_at tt (stored_entries owner_and_waiter, (task 1, (Test, (points_of (exc x_at ∷ []), (0, tt))))) refl
    (omega arith, refl)
    (λ r. get_or r.looks.has.of 0 false) refl refl

-- the codes area has to be longer than the list
abbrev longer : Judge DeqRet
longer q c ret l room =
    first_of
    (bad (names_good l)
    ∷ refuse ShortArea (deq_codes_due ret && leb room (length l.asks))
    ∷ fail DeqWithoutEntry (unentered ret q c l)
    ∷ [])

-- task 1 gives x back by HAVE, with an area of one byte
pub deq_found_104_at_equal_length : RuledOut (λ k. fits-Asks fits-DeqRet) deq_found_fn.Pre deq_found_fn.Post
    (λ k a. deq_judged longer a)
unfolding tables_open
deq_found_104_at_equal_length =
    wrong_at tt (stored_entries owner_and_waiter, (task 1, (DeqHave, (points_of (exc x_at ∷ []), (1, tt))))) refl
    (omega arith, refl)
    (λ r. eqb (says r) 104) refl refl

-- an entry for one of the names is enough
abbrev one_entered : Judge DeqRet
one_entered q c ret l room =
    first_of
    (bad (names_good l)
    ∷ short (deq_codes_due ret) room l
    ∷ fail DeqWithoutEntry (unentered ret q c l && not (some (has_entry q c) (resources l)))
    ∷ [])

-- task 1 gives x and y back, and has x
pub deq_found_one_entry_is_enough : RuledOut (λ k. fits-Asks fits-DeqRet) deq_found_fn.Pre deq_found_fn.Post
    (λ k a. deq_judged one_entered a)
unfolding tables_open
deq_found_one_entry_is_enough =
    wrong_at tt (stored_entries owner_and_waiter, (task 1, (DeqNone, (points_of (exc x_at ∷ exc y_at ∷ []), (0, tt))))) refl
    (omega arith, refl)
    (λ r. eqb (says r) 0) refl refl

-- a name without entry is an error under HAVE too
abbrev every_missing : Judge DeqRet
every_missing q c ret l room =
    first_of
    (bad (names_good l)
    ∷ short (deq_codes_due ret) room l
    ∷ fail DeqWithoutEntry (unentered DeqNone q c l)
    ∷ [])

-- task 1 gives y back by HAVE, and has no entry for it
pub deq_found_202_under_have : RuledOut (λ k. fits-Asks fits-DeqRet) deq_found_fn.Pre deq_found_fn.Post
    (λ k a. deq_judged every_missing a)
unfolding tables_open
deq_found_202_under_have =
    wrong_at tt (stored_entries owner_and_waiter, (task 1, (DeqHave, (points_of (exc y_at ∷ []), (1, tt))))) refl
    (omega arith, refl)
    (λ r. eqb (says r) 202) refl refl
