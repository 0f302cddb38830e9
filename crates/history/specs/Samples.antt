-- RUNS TO LOOK AT: requests from a fresh step, and what a service makes of them.
use Rattle.std.specs.Prelude.{ℕ, true, List, [], ◌∷◌, map, pos}
use Rattle.std.specs.Prelude.{None as NoEcb}
use Rattle.kinds.specs.declared.requests.Ret.TheVariants.{None, Have, Chng}
use Rattle.kinds.specs.declared.requests.DeqRet.TheVariants.{None as DeqNone}
use Rattle.rules.specs.Names.{Resource}
use Rattle.rules.specs.Control.{Entry, owners}
use Rattle.rules.specs.Steps.{Step, Outcome}
use Rattle.rules.specs.Fresh.{fresh_step}
use Rattle.rules.specs.Serve.{Asked, serve_of}
use Rattle.rules.specs.Reading.{Turn}
use Rattle.rules.specs.DemandThree.{turn_of}
use Rattle.rules.specs.Table.{attach, detach, enq, deq, named, shr, exc}

-- the turns that a service makes of requests from a step on, and the step that it leaves
abbrev pub turns_by : (Step → Asked → Outcome Step) → Step → List Asked → List Turn
turns_by f s [] = []
turns_by f s (a ∷ l) = turn_of a (f s a) ∷ turns_by f (f s a).tables l

abbrev pub comes_to : (Step → Asked → Outcome Step) → Step → List Asked → Step
comes_to f s [] = s
comes_to f s (a ∷ l) = comes_to f (f s a).tables l

abbrev pub start : Step
start = fresh_step 200 150

abbrev pub x : Resource
x = named 88 (1 ∷ [])

abbrev pub y : Resource
y = named 89 (1 ∷ [])

-- what the services answer
abbrev pub served : Step → Asked → Outcome Step
served s a = (serve_of s a).outcome

-- who owns a name, in queue order
abbrev pub owners_of : Resource → Step → List ℕ
owners_of n s = map (λ (e : Entry). e.task) (owners n s.queue)

abbrev daughter : ℕ → Asked
daughter c = attach c 0 (pos 0) NoEcb

-- each asks once at a time: 3 waits for both names behind 2, 4 behind 3; 2 gives x back, and asks again behind 4
abbrev pub orderly : List Asked
orderly =
    daughter 1 ∷ daughter 1 ∷ daughter 1
    ∷ enq 2 None 0 (shr x ∷ [])
    ∷ enq 3 None 0 (exc x ∷ exc y ∷ [])
    ∷ enq 4 None 0 (exc y ∷ [])
    ∷ deq 2 DeqNone 0 (x ∷ [])
    ∷ enq 2 None 0 (shr y ∷ [])
    ∷ []

-- two tasks that each ask for the other's name while they own their own
abbrev pub crossed : List Asked
crossed =
    daughter 1 ∷ daughter 1
    ∷ enq 2 None 0 (exc x ∷ [])
    ∷ enq 3 None 0 (exc y ∷ [])
    ∷ enq 2 None 0 (exc y ∷ [])
    ∷ enq 3 None 0 (exc x ∷ [])
    ∷ []

-- the same with HAVE, whose lists begin with what they have: their own is skipped, the other's queued, and the answer 4
abbrev pub have_crossed : List Asked
have_crossed =
    daughter 1 ∷ daughter 1
    ∷ enq 2 None 0 (exc x ∷ [])
    ∷ enq 3 None 0 (exc y ∷ [])
    ∷ enq 2 Have 2 (exc x ∷ exc y ∷ [])
    ∷ enq 3 Have 2 (exc y ∷ exc x ∷ [])
    ∷ []

-- 2 owns x, 3 waits for it, and 2 asks for what it has: the answer is 4, and nothing is queued
abbrev pub have_skipped : List Asked
have_skipped =
    daughter 1 ∷ daughter 1
    ∷ enq 2 None 0 (exc x ∷ [])
    ∷ enq 3 None 0 (exc x ∷ [])
    ∷ enq 2 Have 1 (shr x ∷ [])
    ∷ []

-- 2 owns x and its daughter 5 owns y; 3 waits for x and 4 for y
abbrev pub behind_owners : List Asked
behind_owners =
    daughter 1 ∷ daughter 1 ∷ daughter 1 ∷ daughter 2
    ∷ enq 2 None 0 (exc x ∷ [])
    ∷ enq 5 None 0 (exc y ∷ [])
    ∷ enq 3 None 0 (shr x ∷ [])
    ∷ enq 4 None 0 (exc y ∷ [])
    ∷ []

-- then 2 is detached
abbrev pub owner_detached : List Asked
owner_detached = detach 1 2 ∷ []

-- task 1 asks
abbrev pub asks_once : List Asked
asks_once = enq 1 None 0 (exc x ∷ []) ∷ []

-- task 1 shares x, and makes its request exclusive
abbrev pub changes : List Asked
changes = enq 1 None 0 (shr x ∷ []) ∷ enq 1 Chng 1 (exc x ∷ []) ∷ []

-- 2 asks for what task 1 owns
abbrev pub two_ask : List Asked
two_ask = daughter 1 ∷ enq 1 None 0 (exc x ∷ []) ∷ enq 2 None 0 (exc x ∷ []) ∷ []

-- 2's entry
abbrev pub second : Entry
second = record { task = 2; exclusive = true; name = x }
