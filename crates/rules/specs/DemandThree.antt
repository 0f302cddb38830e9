-- DEMAND 3, its statement: "After any run of requests from a fresh step under those rules, refusals and endings
-- included, read a resource's queue from the run itself: the requests queued and not since released or ended, in the
-- order they came, each as CHNG last left it."
use Rattle.std.specs.Prelude.{ℕ, ◌≡◌, Bool, true, false, cond, List, [], ◌∷◌}
use Rattle.lists.specs.Lists.{some}
use Rattle.kinds.specs.Replies.{value_of}
use Rattle.kinds.specs.Tasks.{in_resource_wait}
use Rattle.rules.specs.Names.{Resource}
use Rattle.rules.specs.Control.{Entry, of_task, queue_of, owners, lacks}
use Rattle.rules.specs.Rings.{Ring}
use Rattle.rules.specs.Family.{condition_of}
use Rattle.rules.specs.Steps.{Step, Outcome, done}
use Rattle.rules.specs.Fresh.{fresh_of}
use Rattle.rules.specs.Sound.{sound_step}
use Rattle.rules.specs.Alike.{same_entry}
use Rattle.rules.specs.Serve.{Asked, serve_of}
use Rattle.rules.specs.Reading.{Turn, nothing, queue_read, one_at_a_time}

-- RUNS: any requests, each answered as the services' promise says

abbrev pub turn_of : Asked → Outcome Step → Turn
turn_of a o = record { request = a.request; names = a.names; number = o.number; besides = value_of o.besides }

pub data Run : Step → List Turn → Step → Type 0 where
  stop : {s : Step} → Run s [] s
  turn : {s t : Step} {us : List Turn} → (a : Asked) → Run (serve_of s a).outcome.tables us t
      → Run s (turn_of a (serve_of s a).outcome ∷ us) t

-- the step is fresh
pub record Fresh (s : Step) : Type 0 where
  pub limit : ℕ
  pub dispatching : ℕ
  pub starts : fresh_of limit dispatching ≡ done s

-- THE LEADING RUN of a name's queue: the first alone if it is
-- exclusive, else every shared one before the first exclusive

abbrev pub shared_run : List Entry → List Entry
shared_run [] = []
shared_run (e ∷ l) = cond e.exclusive [] (e ∷ shared_run l)

abbrev pub leading_run : List Entry → List Entry
leading_run [] = []
leading_run (e ∷ l) = cond e.exclusive (e ∷ []) (e ∷ shared_run l)

-- a task is in a resource wait
abbrev pub waits_in : Step → ℕ → Bool
waits_in s t = in_resource_wait (condition_of s.tasks t)

-- the entry stands in the list
abbrev pub stands_in : Entry → List Entry → Bool
stands_in e q = some (same_entry e) q

-- what is promised of the turns of a run and the step that it leaves
pub record Demand3 (us : List Turn) (s : Step) : Type 0 where
  -- the step that the run leaves is sound: no request that follows is refused for unsound tables
  pub sound : sound_step s ≡ true
  -- the tables hold the queue that the run tells of
  pub stored : s.queue ≡ queue_read us
  -- "Its owners are the leading run: the first alone if it is
  -- exclusive, else every shared one before the first exclusive."
  pub owned : (n : Resource) → owners n s.queue ≡ leading_run (queue_of n (queue_read us))
  -- and whoever goes on with a request for it is among them
  pub among : (n : Resource) (e : Entry) → stands_in e (queue_of n (queue_read us)) ≡ true → waits_in s e.task ≡ false
      → stands_in e (leading_run (queue_of n (queue_read us))) ≡ true
  -- "A task is in a resource wait exactly when one of its requests lacks control."
  pub waiting : (t : ℕ) → waits_in s t ≡ lacks t (queue_read us)
  -- "If also no task in that run made an ENQ that was queued while it still had an earlier one queued, then no ring of
  -- tasks waits on itself for resources, .."
  pub ringless : one_at_a_time nothing us ≡ true → Ring (queue_read us) → ⊥
  -- ".. and whenever some task waits for a resource, some task with a queued request isn't in a resource wait."
  pub moving : one_at_a_time nothing us ≡ true → (t : ℕ) → waits_in s t ≡ true
      → (u : ℕ) × (some (of_task u) (queue_read us) ≡ true) × (waits_in s u ≡ false)

-- THE DEMAND
abbrev pub DemandThree : Type 0
DemandThree = (s t : Step) (us : List Turn) → Fresh s → Run s us t → Demand3 us t
