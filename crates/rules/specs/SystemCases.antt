-- SYSTEM NAMES, document 02 §2, worked by hand: ENQ keeps off them whatever the RET kind, what only looks like one is
-- free, DEQ is as it was, and no sound tables hold one.
use Rattle.std.specs.Prelude.{ℕ, zero, suc, ◌+◌, List, [], ◌∷◌, ◌++◌, map, pos, length, drop, replicate}
use Rattle.std.specs.Prelude.{None as NoEcb}
use Rattle.kinds.specs.declared.tasks.Condition.TheVariants.{Ready, ResourceWait, Ended}
use Rattle.kinds.specs.declared.requests.Ret.TheVariants.{None, Test, Use, Have, Chng}
use Rattle.kinds.specs.declared.requests.DeqRet.TheVariants.{None as DeqNone, Have as DeqHave}
use Rattle.rules.specs.Names.{Resource}
use Rattle.rules.specs.Control.{Entry}
use Rattle.rules.specs.Steps.{Step, with_queue, done}
use Rattle.rules.specs.Fresh.{fresh_of}
use Rattle.rules.specs.Table.{attach, abend_step, enq, deq, with_count, ecb, counted, named, shr, exc, Line, Case}
use Rattle.rules.specs.Table.{◌⇒◌∣◌∣◌∣◌, ◌gives◌, ◌refused◌, Is, Owners, Queued, Word, Over, Unchanged, case}
use Rattle.rules.specs.HandCases.{x}
use Rattle.rules.specs.Examples.{y, z, full_queue}

-- eight bytes, of which the first are these, and a minor part of one byte
abbrev pub beginning : List ℕ → Resource
beginning front = record { major = front ++ drop (length front) (replicate 8 0x40); minor = 1 ∷ [] }

-- SYSDSN and SYSIEA01, in EBCDIC
abbrev pub sysdsn : Resource
sysdsn = beginning (0xE2 ∷ 0xE8 ∷ 0xE2 ∷ 0xC4 ∷ 0xE2 ∷ 0xD5 ∷ [])

abbrev sysiea01 : Resource
sysiea01 = beginning (0xE2 ∷ 0xE8 ∷ 0xE2 ∷ 0xC9 ∷ 0xC5 ∷ 0xC1 ∷ 0xF0 ∷ 0xF1 ∷ [])

-- a system name with another minor part
abbrev pub sysdsn_with : List ℕ → Resource
sysdsn_with minor = record { major = sysdsn.major; minor = minor }

-- alone and last of three, under every RET kind; in the middle, two of them, last of sixteen; by any task, of an empty
-- queue too; whatever follows the three bytes
abbrev asked : List Line
asked =
    enq 1 Use 1 (shr sysdsn ∷ []) refused 110
    ∷ attach 1 0 (pos 0) NoEcb gives 2
    ∷ enq 1 None 0 (exc x ∷ []) gives 0
    ∷ enq 1 None 0 (exc sysdsn ∷ []) refused 110
    ∷ enq 2 None 0 (shr sysdsn ∷ []) refused 110
    ∷ enq 1 None 0 (exc (beginning (0xE2 ∷ 0xE8 ∷ 0xE2 ∷ [])) ∷ []) refused 110
    ∷ enq 1 None 0 (exc (sysdsn_with (replicate 44 0)) ∷ []) refused 110
    ∷ enq 1 Test 1 (shr sysdsn ∷ []) refused 110
    ∷ enq 1 Use 1 (exc sysdsn ∷ []) refused 110
    ∷ enq 1 Have 1 (shr sysdsn ∷ []) refused 110
    ∷ enq 1 Chng 1 (exc sysdsn ∷ []) refused 110
    ∷ enq 1 None 0 (exc y ∷ shr z ∷ exc sysiea01 ∷ []) refused 110
    ∷ enq 1 Test 3 (shr y ∷ exc z ∷ shr sysiea01 ∷ []) refused 110
    ∷ enq 1 Use 3 (exc y ∷ shr z ∷ exc sysiea01 ∷ []) refused 110
    ∷ enq 1 Have 3 (shr y ∷ exc z ∷ exc sysiea01 ∷ []) refused 110
    ∷ enq 1 Chng 3 (exc x ∷ exc y ∷ exc sysiea01 ∷ []) refused 110
    ∷ enq 1 None 0 (exc y ∷ exc sysiea01 ∷ shr z ∷ []) refused 110
    ∷ enq 1 Test 9 (exc sysiea01 ∷ shr sysdsn ∷ []) refused 110
    ∷ enq 1 Use 16 (counted (λ k. exc (named k (0 ∷ []))) 1 15 ++ (exc sysdsn ∷ [])) refused 110
    ∷ (enq 1 None 0 (exc y ∷ shr z ∷ []) ⇒ 0 ∣ 0 ∣ [] ∣ Owners x (1 ∷ []) ∷ Owners y (1 ∷ []) ∷ Owners z (1 ∷ []) ∷ [])
    ∷ []

-- 108, 102, 103 and 101 go before 110; 104 and 201 come after it
abbrev in_turn : List Line
in_turn =
    attach 1 0 (pos 0) NoEcb gives 2
    ∷ enq 1 None 0 (exc x ∷ []) gives 0
    ∷ enq 1 None 0 (exc (sysdsn_with []) ∷ []) refused 101
    ∷ enq 1 Test 0 (exc (sysdsn_with (replicate 45 1)) ∷ []) refused 101
    ∷ enq 1 None 0 (exc sysdsn ∷ shr sysdsn ∷ []) refused 101
    ∷ enq 1 None 0 (exc sysdsn ∷ exc y ∷ exc y ∷ []) refused 101
    ∷ with_count 17 (enq 1 None 0 (exc sysdsn ∷ [])) refused 101
    ∷ enq 1 Chng 1 (shr sysdsn ∷ []) refused 101
    ∷ enq 1 Chng 0 (exc sysdsn ∷ shr x ∷ []) refused 101
    ∷ enq 1 Test 0 (shr sysdsn ∷ []) refused 110
    ∷ enq 1 Use 1 (exc sysdsn ∷ exc y ∷ []) refused 110
    ∷ enq 1 Have 1 (exc sysdsn ∷ exc y ∷ []) refused 110
    ∷ enq 1 Chng 1 (exc sysdsn ∷ exc x ∷ []) refused 110
    ∷ enq 1 None 0 (exc sysdsn ∷ exc x ∷ []) refused 110
    ∷ (enq 2 None 0 (exc x ∷ []) ⇒ 0 ∣ 0 ∣ [] ∣ Is 2 ResourceWait ∷ [])
    ∷ enq 2 None 0 (exc sysdsn ∷ []) refused 103
    ∷ enq 3 None 0 (exc sysdsn ∷ []) refused 102
    ∷ (abend_step 1 7 ⇒ 0 ∣ 0 ∣ [] ∣ Over 7 ∷ [])
    ∷ enq 1 None 0 (exc sysdsn ∷ []) refused 108
    ∷ []

-- where no entry is free, 105 comes after it
abbrev where_full : List Line
where_full =
    enq 1 None 0 (exc sysdsn ∷ []) refused 110
    ∷ enq 1 Use 1 (exc sysdsn ∷ []) refused 110
    ∷ enq 1 Have 1 (exc sysdsn ∷ []) refused 110
    ∷ []

-- another first, second or third byte, the three in another order, one byte further on, in a minor part, in small
-- letters or in ASCII
abbrev free : List Resource
free =
    beginning (0xE2 ∷ 0xE8 ∷ 0xE3 ∷ [])
    ∷ beginning (0xE2 ∷ 0xE8 ∷ 0xE1 ∷ [])
    ∷ beginning (0xE2 ∷ 0xE9 ∷ 0xE2 ∷ [])
    ∷ beginning (0xE2 ∷ 0xE7 ∷ 0xE2 ∷ [])
    ∷ beginning (0xE3 ∷ 0xE8 ∷ 0xE2 ∷ [])
    ∷ beginning (0xE1 ∷ 0xE8 ∷ 0xE2 ∷ [])
    ∷ beginning (0xE2 ∷ 0xE2 ∷ 0xE8 ∷ [])
    ∷ beginning (0x40 ∷ 0xE2 ∷ 0xE8 ∷ 0xE2 ∷ [])
    ∷ named 88 (0xE2 ∷ 0xE8 ∷ 0xE2 ∷ [])
    ∷ beginning (0xA2 ∷ 0xA8 ∷ 0xA2 ∷ [])
    ∷ beginning (0x53 ∷ 0x59 ∷ 0x53 ∷ [])
    ∷ []

abbrev near : List Line
near =
    (enq 1 Use 11 (map exc free) ⇒ 0 ∣ 0 ∣ replicate 11 0 ∣ map (λ (n : Resource). Owners n (1 ∷ [])) free)
    ∷ (enq 1 Test 11 (map shr free) ⇒ 4 ∣ 0 ∣ replicate 11 8 ∣ Unchanged ∷ [])
    ∷ deq 1 DeqNone 0 free gives 0
    ∷ []

-- DEQ knows no 110: nobody has an entry for such a name, so HAVE gives 8 and releases the others, NONE is 202 and ends
-- the caller, and 104 is what it was
abbrev given_back : List Line
given_back =
    attach 1 0 (pos 0) (ecb 5) gives 2
    ∷ enq 2 None 0 (exc x ∷ exc y ∷ []) gives 0
    ∷ (enq 1 None 0 (shr y ∷ []) ⇒ 0 ∣ 0 ∣ [] ∣ Is 1 ResourceWait ∷ [])
    ∷ (deq 2 DeqHave 1 (sysdsn ∷ []) ⇒ 4 ∣ 0 ∣ 8 ∷ [] ∣ Unchanged ∷ [])
    ∷ deq 2 DeqHave 1 (sysdsn ∷ x ∷ []) refused 104
    ∷ (deq 2 DeqHave 3 (sysdsn ∷ x ∷ []) ⇒ 4 ∣ 0 ∣ 8 ∷ 0 ∷ [] ∣ Queued x [] ∷ Queued y (2 ∷ 1 ∷ []) ∷ [])
    ∷ (deq 2 DeqNone 0 (sysdsn ∷ []) ⇒ 202 ∣ 0 ∣ [] ∣ Is 2 Ended ∷ Word 5 (0x4000_0000 + 202) ∷ Owners y (1 ∷ [])
    ∷ Is 1 Ready ∷ [])
    ∷ []

-- a step with three entries, of two tasks, of which one gets a system name
abbrev three_entries : List Line
three_entries =
    attach 1 0 (pos 0) NoEcb gives 2
    ∷ enq 1 None 0 (exc x ∷ shr y ∷ []) gives 0
    ∷ enq 2 None 0 (exc z ∷ []) gives 0
    ∷ []

-- the name of the entry behind k others becomes n
abbrev renamed : ℕ → Resource → List Entry → List Entry
renamed k n [] = []
renamed zero n (e ∷ q) = record { task = e.task; exclusive = e.exclusive; name = n } ∷ q
renamed (suc k) n (e ∷ q) = e ∷ renamed k n q

abbrev renaming : ℕ → Resource → Step → Step
renaming k n s = with_queue s (renamed k n s.queue)

abbrev spoils : List (Step → Step)
spoils = renaming 0 sysdsn ∷ renaming 1 sysiea01 ∷ renaming 2 sysdsn ∷ []

abbrev pub system_cases : List Case
system_cases =
    case (fresh_of 200 150) asked
    ∷ case (fresh_of 200 150) in_turn
    ∷ case (done full_queue) where_full
    ∷ case (fresh_of 200 150) near
    ∷ case (fresh_of 200 150) given_back
    ∷ record { start = fresh_of 200 150; answer = 0; lines = three_entries; spoils = spoils }
    ∷ []
