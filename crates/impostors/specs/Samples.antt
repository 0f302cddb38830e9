-- WHAT WRONG ANSWERS ARE TRIED BY: requests with their lists, and the steps that they lead to from a fresh one.
use Rattle.std.specs.Prelude.{ℕ, Bool, true, false, ◌&&◌, List, [], ◌∷◌, ◌++◌, map, eqb, pos, length, replicate}
use Rattle.lists.specs.Tables.{padded}
use Rattle.kinds.specs.Limits.{major_bytes, longest_minor, longest_list}
use Rattle.kinds.specs.declared.numbers.TaskNumber.{TaskNumber}
use Rattle.kinds.specs.declared.numbers.EcbNumber.{EcbNumber}
use Rattle.kinds.specs.declared.names.Wanted.{Wanted}
use Rattle.kinds.specs.declared.names.NameList.{NameList}
use Rattle.kinds.specs.declared.names.Pointed.{Pointed}
use Rattle.kinds.specs.declared.names.PointedList.{PointedList}
use Rattle.kinds.specs.declared.ecbs.EcbList.{EcbList}
use Rattle.std.specs.Prelude.{Option, Some}
use Rattle.std.specs.Prelude.{None as NoEcb}
use Rattle.kinds.specs.declared.requests.Request.{Request}
use Rattle.kinds.specs.declared.requests.Request.TheVariants.{Attach, End, Enq, Deq, Wait, Post, Getmain, Freemain}
use Rattle.kinds.specs.declared.requests.Ret.{Ret}
use Rattle.kinds.specs.declared.requests.Ret.TheVariants.{None}
use Rattle.kinds.specs.declared.requests.DeqRet.{DeqRet}
use Rattle.rules.specs.Names.{Resource, Ask}
use Rattle.rules.specs.Table.{named, exc, shr}
use Rattle.rules.specs.Steps.{Step, Served}
use Rattle.rules.specs.Serve.{Asked, service_of}
use Rattle.history.specs.Samples.{x, y}
use Rattle.names.specs.Named.{kept, names_in}
use Rattle.names.specs.Pointers.{pointer, offset_of}
use Rattle.ecbs.specs.Blocks.{ecbs_in}

-- LISTS as a request brings them: 16 places, those past the count zero

abbrev wanted : Ask → Wanted
wanted a = record { exclusive = a.exclusive; name = kept a.name }

abbrev nothing : Wanted
nothing = record {
  exclusive = false;
  name = record { major = replicate major_bytes 0; minor = replicate longest_minor 0; length = 0 };
}

abbrev pub names_of : List Ask → NameList
names_of l = record { count = length l; names = padded longest_list nothing (map wanted l) }

-- and as the queue gets them, by their offsets: of names that are pointers
abbrev pointed : Ask → Pointed
pointed a = record { exclusive = a.exclusive; name = record { 0 = offset_of a.name } }

abbrev pub points_of : List Ask → PointedList
points_of l = record {
  count = length l;
  names = padded longest_list (record { exclusive = false; name = record { 0 = 0 } }) (map pointed l);
}

-- three names by their offsets
abbrev pub x_at : Resource
x_at = pointer 0

abbrev pub y_at : Resource
y_at = pointer 10

abbrev pub z_at : Resource
z_at = pointer 20

abbrev pub task : ℕ → TaskNumber
task n = record { 0 = n }

abbrev pub ecb : ℕ → EcbNumber
ecb n = record { 0 = n }

abbrev pub ecbs_of : List ℕ → EcbList
ecbs_of l = record { count = length l; ecbs = padded longest_list (ecb 0) (map ecb l) }

-- REQUESTS: what is passed to `serve` beside the tables. A codes area of n bytes is filled with the byte 238.

pub record Asking : Type 0 where
  pub request : Request
  pub names : NameList
  pub ecbs : EcbList
  pub area : List ℕ

abbrev pub alone : Request → Asking
alone r = record { request = r; names = names_of []; ecbs = ecbs_of []; area = [] }

abbrev pub attach : ℕ → Option EcbNumber → Asking
attach c e = alone (Attach (task c) 0 (pos 0) e)

abbrev pub daughter : ℕ → Asking
daughter c = attach c NoEcb

abbrev pub enq : ℕ → Ret → ℕ → List Ask → Asking
enq c ret n l = record { request = Enq (task c) ret; names = names_of l; ecbs = ecbs_of []; area = replicate n 238 }

abbrev pub deq : ℕ → DeqRet → ℕ → List Ask → Asking
deq c ret n l = record { request = Deq (task c) ret; names = names_of l; ecbs = ecbs_of []; area = replicate n 238 }

abbrev pub wait : ℕ → ℕ → List ℕ → Asking
wait c n l = record { request = Wait (task c) n; names = names_of []; ecbs = ecbs_of l; area = [] }

abbrev pub post : ℕ → ℕ → ℕ → Asking
post c e code = alone (Post (task c) (ecb e) code)

abbrev pub getmain : ℕ → ℕ → ℕ → Asking
getmain c bytes subpool = alone (Getmain (task c) bytes subpool false)

abbrev pub freemain : ℕ → ℕ → ℕ → ℕ → Asking
freemain c address bytes subpool = alone (Freemain (task c) (record { 0 = address }) bytes subpool)

-- as the rules see it
abbrev pub asked : Asking → Asked
asked a = record { request = a.request; names = names_in a.names; ecbs = ecbs_in a.ecbs; area = a.area }

-- STEPS: what the rules say of a request on a sound step, and the step that requests lead to

abbrev pub ruled : Step → Asking → Served Step
ruled s a = service_of s a.request (names_in a.names) (ecbs_in a.ecbs) a.area

abbrev pub after : Step → List Asking → Step
after s [] = s
after s (a ∷ l) = after (ruled s a).outcome.tables l

-- all of them are answered 0
abbrev pub all_done : Step → List Asking → Bool
all_done s [] = true
all_done s (a ∷ l) = eqb (ruled s a).outcome.number 0 && all_done (ruled s a).outcome.tables l

abbrev pub z : Resource
z = named 90 (1 ∷ [])

-- RUNS from a fresh step, 200/150

-- 2 is a daughter of 1
abbrev pub one_daughter : List Asking
one_daughter = daughter 1 ∷ []

-- and 3 of 2
abbrev pub two_generations : List Asking
two_generations = daughter 1 ∷ daughter 2 ∷ []

-- 2 has ECB 0
abbrev pub with_ecb : List Asking
with_ecb = attach 1 (Some (ecb 0)) ∷ []

-- 2 owns x
abbrev pub daughter_owns : List Asking
daughter_owns = daughter 1 ∷ enq 2 None 0 (exc x ∷ []) ∷ []

-- 1 owns x; then 2 asks for it too, and waits
abbrev pub owned : List Asking
owned = daughter 1 ∷ enq 1 None 0 (exc x ∷ []) ∷ []

abbrev pub second : Asking
second = enq 2 None 0 (exc x ∷ [])

abbrev pub awaited : List Asking
awaited = daughter 1 ∷ enq 1 None 0 (exc x ∷ []) ∷ second ∷ []

-- case 1: 2 and 3 share x, and 4 waits for it exclusive; then 5 asks for it shared
abbrev pub shared_by_two : List Asking
shared_by_two =
    daughter 1 ∷ daughter 1 ∷ daughter 1 ∷ daughter 1
    ∷ enq 2 None 0 (shr x ∷ [])
    ∷ enq 3 None 0 (shr x ∷ [])
    ∷ enq 4 None 0 (exc x ∷ [])
    ∷ []

abbrev pub fifth : Asking
fifth = enq 5 None 0 (shr x ∷ [])

abbrev pub behind_four : List Asking
behind_four =
    daughter 1 ∷ daughter 1 ∷ daughter 1 ∷ daughter 1
    ∷ enq 2 None 0 (shr x ∷ [])
    ∷ enq 3 None 0 (shr x ∷ [])
    ∷ enq 4 None 0 (exc x ∷ [])
    ∷ fifth
    ∷ []

-- 2 owns x and 3 owns y, and 4 waits for both
abbrev pub both_asked : List Asking
both_asked =
    daughter 1 ∷ daughter 1 ∷ daughter 1
    ∷ enq 2 None 0 (exc x ∷ [])
    ∷ enq 3 None 0 (exc y ∷ [])
    ∷ enq 4 None 0 (exc x ∷ exc y ∷ [])
    ∷ []

-- 1 shares x
abbrev pub shared_by_one : List Asking
shared_by_one = enq 1 None 0 (shr x ∷ []) ∷ []

-- 1 shares x, and 2 owns y
abbrev pub shares_and_owns : List Asking
shares_and_owns = daughter 1 ∷ enq 1 None 0 (shr x ∷ []) ∷ enq 2 None 0 (exc y ∷ []) ∷ []

-- 2, who has ECB 10, has a daughter 3; and 3 owns x, for which 4, a daughter of 1, waits
abbrev pub mother_with_ecb : List Asking
mother_with_ecb = attach 1 (Some (ecb 10)) ∷ daughter 2 ∷ []

abbrev pub daughter_holds_back : List Asking
daughter_holds_back =
    attach 1 (Some (ecb 10)) ∷ daughter 2 ∷ daughter 1 ∷ enq 3 None 0 (exc x ∷ []) ∷ enq 4 None 0 (exc x ∷ []) ∷ []

-- 2 has a daughter 3, who had ECB 11, has ended and is not detached; 2, who had ECB 10, is so herself
abbrev pub undetached : List Asking
undetached = daughter 1 ∷ attach 2 (Some (ecb 11)) ∷ alone (End (task 3) 0) ∷ []

abbrev pub ended_once : List Asking
ended_once = attach 1 (Some (ecb 10)) ∷ alone (End (task 2) 0) ∷ []

-- ECB 3 is complete with code 5
abbrev pub posted_once : List Asking
posted_once = post 1 3 5 ∷ []

-- 2 waits on ECB 3
abbrev pub waited_on : List Asking
waited_on = daughter 1 ∷ wait 2 1 (3 ∷ []) ∷ []

-- 100 bytes of subpool 10 at 0
abbrev pub one_area : List Asking
one_area = getmain 1 100 10 ∷ []

-- 8 bytes of subpool 5 at 6144, in the middle of page 1
abbrev pub mid_page : List Asking
mid_page = getmain 1 6144 5 ∷ getmain 1 8 5 ∷ freemain 1 0 6144 5 ∷ []

-- RINGS. 2 and 3 wait for each other, and 4 stands behind both
abbrev pub ring_of_two : List Asking
ring_of_two =
    daughter 1 ∷ daughter 1 ∷ daughter 1
    ∷ enq 2 None 0 (exc x ∷ [])
    ∷ enq 3 None 0 (exc y ∷ [])
    ∷ enq 2 None 0 (exc y ∷ [])
    ∷ enq 3 None 0 (exc x ∷ [])
    ∷ enq 4 None 0 (exc x ∷ [])
    ∷ []

-- 2 and 3 wait for each other, but before that 2 waits for 4, who waits for nobody
abbrev pub behind_another : List Asking
behind_another =
    daughter 1 ∷ daughter 1 ∷ daughter 1
    ∷ enq 2 None 0 (exc x ∷ [])
    ∷ enq 4 None 0 (exc z ∷ [])
    ∷ enq 3 None 0 (exc y ∷ [])
    ∷ enq 2 None 0 (exc z ∷ exc y ∷ [])
    ∷ enq 3 None 0 (exc x ∷ [])
    ∷ []

-- 3 shares y, for which 4 waits exclusive and then 2 shared: 2 waits for 4, 4 for 3, 3 for 2
abbrev pub shared_ahead : List Asking
shared_ahead =
    daughter 1 ∷ daughter 1 ∷ daughter 1
    ∷ enq 2 None 0 (exc x ∷ [])
    ∷ enq 3 None 0 (shr y ∷ [])
    ∷ enq 4 None 0 (exc y ∷ [])
    ∷ enq 2 None 0 (shr y ∷ [])
    ∷ enq 3 None 0 (exc x ∷ [])
    ∷ []

-- 31 and 32 wait for each other
abbrev pub ring_of_last : List Asking
ring_of_last =
    replicate 31 (daughter 1) ++ enq 32 None 0 (exc x ∷ [])
    ∷ enq 31 None 0 (exc y ∷ [])
    ∷ enq 32 None 0 (exc y ∷ [])
    ∷ enq 31 None 0 (exc x ∷ [])
    ∷ []

abbrev pub runs : List (List Asking)
runs =
    one_daughter ∷ two_generations ∷ with_ecb ∷ mother_with_ecb ∷ undetached ∷ ended_once
    ∷ daughter_owns ∷ owned ∷ awaited ∷ shared_by_one ∷ shares_and_owns ∷ shared_by_two ∷ behind_four ∷ both_asked
    ∷ daughter_holds_back ∷ posted_once ∷ waited_on ∷ one_area ∷ mid_page ∷ ring_of_two ∷ behind_another ∷ shared_ahead
    ∷ ring_of_last ∷ []
