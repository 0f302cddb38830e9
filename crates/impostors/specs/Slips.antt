-- THE SLIPS "we have already paid for", each as a whole service made from any other: of one kind of request it answers
-- as the rules do but for the slip, and of all others as that service does.
use Rattle.std.specs.Prelude.{ℕ, zero, suc, ◌/◌, ◌+◌, Bool, cond, not, ◌&&◌, List, [], ◌∷◌, leb, length, set}
use Rattle.lists.specs.Lists.{some, every, map_at}
use Rattle.kinds.specs.Limits.{region, doubleword, most_areas}
use Rattle.kinds.specs.Tasks.{with_condition, in_resource_wait, is_live}
use Rattle.kinds.specs.declared.replies.Refusal.TheVariants.{OutOfRange, NoAreaFree}
use Rattle.std.specs.Prelude.{Option, Some, None}
use Rattle.kinds.specs.Replies.{Verdict}
use Rattle.kinds.specs.declared.numbers.Address.{Address}
use Rattle.kinds.specs.declared.replies.Fault.TheVariants.{NoStorage}
use Rattle.names.specs.Named.{names_in}
use Rattle.kinds.specs.declared.numbers.TaskNumber.{TaskNumber}
use Rattle.kinds.specs.declared.areas.Area.{Area}
use Rattle.kinds.specs.declared.tasks.Task.{Task}
use Rattle.kinds.specs.declared.tasks.Condition.TheVariants.{ResourceWait}
use Rattle.rules.specs.Names.{Ask}
use Rattle.rules.specs.Control.{Entry, shared, owners, holding, of_task}
use Rattle.rules.specs.Steps.{Step, Served, untouched, with_tasks, with_ecbs, with_areas}
use Rattle.rules.specs.Admission.{gate_of, through, settled}
use Rattle.rules.specs.Tests.{refuse, fail, first_of}
use Rattle.rules.specs.Getmain.{getmain_good, wanted, is_nowhere, given}
use Rattle.rules.specs.Family.{condition_of}
use Rattle.rules.specs.ResourceWaits.{let_go}
use Rattle.rules.specs.Events.{ecb_at}
use Rattle.rules.specs.Storage.{past_end, placed_at}
use Rattle.services.specs.Kept.{answered_with}
use Rattle.services.specs.declared.Tables.{Tables}
use Rattle.impostors.specs.Samples.{Asking, ruled}
use Rattle.impostors.specs.Parts.{incomplete, apart_at_first}
use Rattle.impostors.specs.Answers.{answer_of, but_served}
use Rattle.impostors.specs.Impostors.{Given, Back, Service, Caught, by_service}

-- what is answered where this is done to a sound step, with 100 before it
abbrev pub doing : Given → (Step → Served Step) → Served Tables
doing g f = answered_with g.tables g.asking.area (λ s area. f s)

abbrev slipped : Given → (Step → Served Step) → Back
slipped g f = record { answer = answer_of (doing g f).outcome; codes = (doing g f).codes }

-- "Letting a new shared request join shared owners past a waiting exclusive one": no task comes to wait where every
-- name is asked for shared and its owners are shared
abbrev joins : List Entry → Ask → Bool
joins q a = not a.exclusive && every shared (owners a.name q)

abbrev pub joining : Asking → Step → Served Step
joining a s =
    but_served (ruled s a) (λ u. cond (every (joins s.queue) (names_in a.names).asks) (with_tasks u s.tasks) u)

abbrev pub joins_owners : Service → Service
joins_owners f g =
    by_service (f g) (f g) (λ c code. f g) (slipped g (joining g.asking)) (f g) (λ e. f g)
    (λ c bytes subpool conditional. f g) (f g) g.asking.request

-- "Removing a waiting entry without looking for those it held
-- back": whoever waited before a DETACH, and is still there, waits
abbrev still_held : List Task → ℕ → Task → Task
still_held ts n x = cond (in_resource_wait (condition_of ts n) && is_live x.condition) (with_condition x ResourceWait) x

abbrev pub holding_back : Asking → Step → Served Step
holding_back a s = but_served (ruled s a) (λ u. with_tasks u (map_at (still_held s.tasks) 1 u.tasks))

abbrev pub forgets_held_back : Service → Service
forgets_held_back f g =
    by_service (f g) (slipped g (holding_back g.asking)) (λ c code. f g) (f g) (f g) (λ e. f g)
    (λ c bytes subpool conditional. f g) (f g) g.asking.request

-- "Waking a multi-name waiter at its first grant": after a DEQ whoever has control of one entry goes on
abbrev woken_by : List Entry → ℕ → Task → Task
woken_by held n x = cond (some (of_task n) held) (with_condition x (let_go x.condition)) x

abbrev pub waking_early : Asking → Step → Served Step
waking_early a s = but_served (ruled s a) (λ u. with_tasks u (map_at (woken_by (holding [] u.queue)) 1 u.tasks))

abbrev pub wakes_at_first_grant : Service → Service
wakes_at_first_grant f g =
    by_service (f g) (f g) (λ c code. f g) (f g) (slipped g (waking_early g.asking)) (λ e. f g)
    (λ c bytes subpool conditional. f g) (f g) g.asking.request

-- "Replacing the code of an ECB that was already complete": a POST goes on as if it were not
abbrev pub replacing : Asking → ℕ → Step → Served Step
replacing a n s = ruled (with_ecbs s (set s.ecbs n (incomplete (ecb_at s.ecbs n)))) a

abbrev pub replaces_code : Service → Service
replaces_code f g =
    by_service (f g) (f g) (λ c code. f g) (f g) (f g) (λ e. slipped g (replacing g.asking e.0))
    (λ c bytes subpool conditional. f g) (f g) g.asking.request

-- "Judging only the first page a new area touches": the lowest address by that measure is given
abbrev lowest_at_first : ℕ → List Area → Area → ℕ → Option Address
lowest_at_first zero l a s = None
lowest_at_first (suc tries) l a s =
    cond (leb (past_end (placed_at a s)) region && every (apart_at_first (placed_at a s)) l) (Some (record { 0 = s }))
    (lowest_at_first tries l a (s + doubleword))

abbrev verdict_by : Option Address → List Area → ℕ → ℕ → Bool → Verdict
verdict_by p l bytes subpool conditional =
    first_of
    (refuse OutOfRange (not (getmain_good bytes subpool))
    ∷ refuse NoAreaFree (leb most_areas (length l))
    ∷ fail NoStorage (not conditional && is_nowhere p)
    ∷ [])

abbrev pub judging : Asking → TaskNumber → ℕ → ℕ → Bool → Step → Served Step
judging a c bytes subpool conditional s =
    let w = wanted bytes subpool c.0 in
    let p = lowest_at_first (region / doubleword) s.areas w 0 in
    untouched a.area
    (through (gate_of s c) s (settled (verdict_by p s.areas bytes subpool conditional) s c (given s w p)))

abbrev pub judges_first_page : Service → Service
judges_first_page f g =
    by_service (f g) (f g) (λ c code. f g) (f g) (f g) (λ e. f g)
    (λ c bytes subpool conditional. slipped g (judging g.asking c bytes subpool conditional)) (f g)
    g.asking.request

-- ", or never reusing a freed page": what is freed stays in the table
abbrev pub keeping : Asking → Step → Served Step
keeping a s = but_served (ruled s a) (λ u. with_areas u s.areas)

abbrev pub reuses_nothing : Service → Service
reuses_nothing f g =
    by_service (f g) (f g) (λ c code. f g) (f g) (f g) (λ e. f g)
    (λ c bytes subpool conditional. f g) (slipped g (keeping g.asking)) g.asking.request

-- none of them meets the contract of `serve`
pub record SlipsCaught : Type 0 where
  pub joining : (f : Service) → Caught (joins_owners f)
  pub held_back : (f : Service) → Caught (forgets_held_back f)
  pub first_grant : (f : Service) → Caught (wakes_at_first_grant f)
  pub replacing : (f : Service) → Caught (replaces_code f)
  pub first_page : (f : Service) → Caught (judges_first_page f)
  pub reusing_nothing : (f : Service) → Caught (reuses_nothing f)
