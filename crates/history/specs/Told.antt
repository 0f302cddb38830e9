-- WHAT A RUN TELLS OF A TASK AND A NAME, in requests and replies alone: the task was queued for the name, and since
-- then neither released nor ended. No function of the services stands here, and of the reading only the queue it gives.
use Rattle.std.specs.Prelude.{ℕ, suc, ◌≡◌, Bool, true, ◌&&◌, List, [], ◌∷◌, ◌++◌, ◌⊎◌, ◌↔◌, eqb, ℤ}
use Rattle.lists.specs.Lists.{some}
use Rattle.kinds.specs.Limits.{job_step_task, highest_task}
use Rattle.kinds.specs.Replies.{fault_number}
use Rattle.kinds.specs.declared.numbers.TaskNumber.{TaskNumber}
use Rattle.std.specs.Prelude.{Option}
use Rattle.kinds.specs.declared.numbers.EcbNumber.{EcbNumber}
use Rattle.kinds.specs.declared.requests.Request.TheVariants.{Attach, Detach, End, Abend, Enq, Deq}
use Rattle.kinds.specs.declared.requests.Ret.{Ret}
use Rattle.kinds.specs.declared.requests.Ret.TheVariants.{None, Use, Have}
use Rattle.kinds.specs.declared.requests.DeqRet.{DeqRet}
use Rattle.kinds.specs.declared.replies.Fault.{Fault}
use Rattle.rules.specs.Names.{Resource, Ask, Names, same_name}
use Rattle.rules.specs.Control.{Entry}
use Rattle.rules.specs.Form.{caller_of}
use Rattle.rules.specs.Reading.{Turn, queue_read}

-- SOME TURN, AND NONE SINCE. What a turn does may hang on the turns before it.

-- none of these turns, which come behind `past`, does it
abbrev pub Never : (List Turn → Turn → Type 0) → List Turn → List Turn → Type 0
Never Does past [] = Unit {0}
Never Does past (u ∷ us) = (Does past u → ⊥) × Never Does (past ++ (u ∷ [])) us

-- some turn did the one thing, and no later turn did the other
pub record Since (Did : List Turn → Turn → Type 0) (Does : List Turn → Turn → Type 0) (us : List Turn) : Type 0 where
  pub before : List Turn
  pub turn : Turn
  pub later : List Turn
  pub split : us ≡ before ++ (turn ∷ later)
  pub did : Did before turn
  pub never : Never Does (before ++ (turn ∷ [])) later

-- WHO ATTACHED WHOM

abbrev pub task : ℕ → TaskNumber
task t = record { 0 = t }

-- an ATTACH by m, answered 0 with c besides
pub data Attached (m c : ℕ) (u : Turn) : Type 0 where
  attach : (lpmod : ℕ) (dpmod : ℤ) (ecb : Option EcbNumber) → u.request ≡ Attach (task m) lpmod dpmod ecb → u.number ≡ 0
      → u.besides ≡ c → Attached m c u

-- somebody attached c
abbrev pub IsAttached : ℕ → Turn → Type 0
IsAttached c u = (p : ℕ) × Attached p c u

-- m attached c, and nobody has attached a task of that number since; whom nobody attached has 0 for mother
abbrev pub Mother : List Turn → ℕ → ℕ → Type 0
Mother us c m =
    Since (λ past u. Attached m c u) (λ past u. IsAttached c u) us
    ⊎ ((m ≡ 0) × Never (λ past u. IsAttached c u) [] us)

-- from t, going from mother to mother through at most so many tasks, we come to c
pub data Below (us : List Turn) (c : ℕ) : ℕ → ℕ → Type 0 where
  itself : {k : ℕ} → Below us c (suc k) c
  under : {k t p : ℕ} → Mother us t p → Below us c k p → Below us c (suc k) t

-- t ends where c ends: c is task 1, or t is c or below it
abbrev pub EndsWith : List Turn → ℕ → ℕ → Type 0
EndsWith us c t = (c ≡ job_step_task) ⊎ Below us c highest_task t

-- WHAT A TURN DID to task t's entry for name n

-- the list has the name
abbrev pub Has : Resource → Names → Type 0
Has n l = some (λ (a : Ask). same_name a.name n) l.asks ≡ true

-- an ENQ of t with NONE or USE, answered 0, or with HAVE, answered 0 or 4: HAVE skips a name only where t is queued for
-- it already
pub data Queued (t : ℕ) (n : Resource) (u : Turn) : Type 0 where
  enq : (ret : Ret) → u.request ≡ Enq (task t) ret → (ret ≡ None) ⊎ (ret ≡ Use) → u.number ≡ 0 → Has n u.names
      → Queued t n u
  have : u.request ≡ Enq (task t) Have → (u.number ≡ 0) ⊎ (u.number ≡ 4) → Has n u.names → Queued t n u

-- a DEQ of t, answered 0 or 4
pub data Released (t : ℕ) (n : Resource) (u : Turn) : Type 0 where
  deq : (ret : DeqRet) → u.request ≡ Deq (task t) ret → (u.number ≡ 0) ⊎ (u.number ≡ 4) → Has n u.names
      → Released t n u

-- an END, ABEND or DETACH, answered 0, or a program error, that ended t, by whom the turns before it attached
pub data Ended (past : List Turn) (t : ℕ) (u : Turn) : Type 0 where
  end : (c code : ℕ) → u.request ≡ End (task c) code → u.number ≡ 0 → (c ≡ job_step_task) ⊎ (t ≡ c) → Ended past t u
  abend : (c code : ℕ) (step : Bool) → u.request ≡ Abend (task c) code step → u.number ≡ 0
      → (step ≡ true) ⊎ EndsWith past c t → Ended past t u
  detach : (c d : ℕ) → u.request ≡ Detach (task c) (task d) → u.number ≡ 0 → EndsWith past d t → Ended past t u
  fault : (what : Fault) → u.number ≡ fault_number what → EndsWith past (caller_of u.request) t → Ended past t u

-- THE LAW

-- "the requests queued and not since released or ended"
abbrev pub StillQueued : ℕ → Resource → List Turn → Type 0
StillQueued t n us = Since (λ past u. Queued t n u) (λ past u. Released t n u ⊎ Ended past t u) us

-- task t has an entry for name n
abbrev pub InQueue : ℕ → Resource → List Entry → Type 0
InQueue t n q = some (λ (e : Entry). eqb e.task t && same_name e.name n) q ≡ true

-- of any turns whatever: the queue that is read from them has the entry exactly when it is still queued
abbrev pub QueueTold : Type 0
QueueTold = (us : List Turn) (t : ℕ) (n : Resource) → InQueue t n (queue_read us) ↔ StillQueued t n us
