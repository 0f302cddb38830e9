-- What is looked for in the queue, before anything changes.
use Rattle.std.specs.Prelude.{Bool, true, false, not, ◌&&◌, List, [], ◌∷◌, map, ℕ, ◌+◌, ltb, take, replicate}
use Rattle.lists.specs.Lists.{how_many, numbers}
use Rattle.kinds.specs.Limits.{longest_list, most_entries}
use Rattle.kinds.specs.declared.numbers.TaskNumber.{TaskNumber}
use Rattle.kinds.specs.declared.requests.Ret.{Ret}
use Rattle.kinds.specs.declared.requests.Ret.TheVariants.{None, Test, Use, Have, Chng}
use Rattle.kinds.specs.declared.requests.DeqRet.{DeqRet}
use Rattle.kinds.specs.declared.requests.DeqRet.TheVariants.{Have as DeqHave}
use Rattle.kinds.specs.Replies.{Verdict}
use Rattle.kinds.specs.declared.replies.Refusal.TheVariants.{OutOfRange, SystemName, ShortArea, NoEntryFree}
use Rattle.kinds.specs.declared.replies.Fault.TheVariants.{DuplicateEnq, DeqWithoutEntry}
use Rattle.rules.specs.Tests.{Check, refuse, fail, first_of}
use Rattle.rules.specs.Names.{Ask, Names, names_good, asks_system}
use Rattle.rules.specs.Control.{Entry, has_entry}
use Rattle.rules.specs.Codes.{all_zero, too_short}
use Rattle.rules.specs.Admission.{on_go}
use Rattle.rules.specs.Enq.{enq_code, enq_codes_due, enq_good, enq_verdict}
use Rattle.rules.specs.Deq.{deq_code, deq_codes_due, deq_verdict}
use Rattle.queue.specs.Flagging.{flags_of}
use Rattle.queue.specs.declared.looks.Flags.{Flags}
use Rattle.resources.specs.Coding.{codes_of, code_at}
use Rattle.resources.specs.declared.looks.Looks.{Looks}
use Rattle.resources.specs.declared.Found.{Found}

abbrev pub no_looks : Looks
no_looks = record {
  has = record { of = replicate longest_list false };
  codes = record { bytes = replicate longest_list 0 };
  zero = true;
}

-- by the flags of n names
unfoldable pub told_by : Flags → Bool → Flags → ℕ → Looks
told_by has wanted clear n =
    let codes = map (code_at has wanted clear) (take n (numbers 0 longest_list)) in
    record { has = has; codes = codes_of codes; zero = all_zero codes }

-- by what the queue says of each ask
unfoldable pub looks_of : (Ask → Bool) → (Ask → ℕ) → Names → Looks
looks_of has code l = record {
  has = flags_of has l;
  codes = codes_of (map code l.asks);
  zero = all_zero (map code l.asks);
}

-- NONE looks as HAVE does: what has code 8 under HAVE is error 201 under NONE
abbrev pub looks_as : Ret → Ret
looks_as None = Have
looks_as Test = Test
looks_as Use = Use
looks_as Have = Have
looks_as Chng = Chng

abbrev pub entered : List Entry → ℕ → Ask → Bool
entered q c a = has_entry q c a.name

abbrev pub enq_looks : Ret → List Entry → ℕ → Names → Looks
enq_looks ret q c l = looks_of (entered q c) (enq_code (looks_as ret) q c) l

-- and so does DEQ
abbrev pub held_code : List Entry → ℕ → Ask → ℕ
held_code q c a = deq_code DeqHave q c a.name

abbrev pub deq_looks : List Entry → ℕ → Names → Looks
deq_looks q c l = looks_of (entered q c) (held_code q c) l

-- THE TESTS, in three parts: of the names beside the request, of the rest of it, and of what the looks say

abbrev pub enq_named : Ret → Names → List Check
enq_named ret l = refuse OutOfRange (not (enq_good ret l)) ∷ refuse SystemName (asks_system l) ∷ []

abbrev pub deq_named : Names → List Check
deq_named l = refuse OutOfRange (not (names_good l)) ∷ []

abbrev pub enq_asked : Ret → Names → ℕ → List Check
enq_asked ret l room = refuse ShortArea (enq_codes_due ret && too_short room l) ∷ []

abbrev pub deq_asked : DeqRet → Names → ℕ → List Check
deq_asked ret l room = refuse ShortArea (deq_codes_due ret && too_short room l) ∷ []

-- names are queued for: under NONE and HAVE, and under USE if every code is 0
abbrev pub queues_by : Ret → Bool → Bool
queues_by None zero = true
queues_by Test zero = false
queues_by Use zero = zero
queues_by Have zero = true
queues_by Chng zero = false

-- how many of the first n names the caller has no entry for
abbrev pub fresh_names : Flags → ℕ → ℕ
fresh_names has n = how_many not (take n has.of)

-- 105, of a queue with so many entries
unfoldable pub few_free : Ret → Looks → ℕ → ℕ → Bool
few_free ret looks count n =
    queues_by ret looks.zero
    && (ltb 0 (fresh_names looks.has n) && ltb most_entries (count + fresh_names looks.has n))

-- under NONE a code other than 0 is an error
abbrev pub enq_weighed : Ret → Looks → ℕ → ℕ → List Check
enq_weighed ret looks count n =
    fail DuplicateEnq (not (enq_codes_due ret) && not looks.zero)
    ∷ refuse NoEntryFree (few_free ret looks count n)
    ∷ []

abbrev pub deq_weighed : DeqRet → Bool → List Check
deq_weighed ret zero = fail DeqWithoutEntry (not (deq_codes_due ret) && not zero) ∷ []

-- before the queue is looked at
abbrev pub unlooked_by : Verdict → Found
unlooked_by v = record { verdict = v; looks = no_looks }

-- of good names: the verdict, and the looks where the rest of the request is not refused
abbrev pub enq_found : List Entry → TaskNumber → Ret → Names → ℕ → Found
enq_found q c ret l room = record {
  verdict = enq_verdict q c ret l room;
  looks = on_go (first_of (enq_asked ret l room)) (enq_looks ret q c.0 l) no_looks;
}

abbrev pub deq_found : List Entry → TaskNumber → DeqRet → Names → ℕ → Found
deq_found q c ret l room = record {
  verdict = deq_verdict q c ret l room;
  looks = on_go (first_of (deq_asked ret l room)) (deq_looks q c.0 l) no_looks;
}
