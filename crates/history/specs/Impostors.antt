-- IMPOSTORS: readings, habits and services that are nearly right. None of them meets demand 3.
use Rattle.std.specs.Prelude.{◌≡◌, Bool, true, not, cond, ◌&&◌, List, [], ◌∷◌, ◌++◌, map, eqb, take}
use Rattle.lists.specs.Lists.{keep, some}
use Rattle.kinds.specs.Tasks.{with_condition}
use Rattle.kinds.specs.declared.tasks.Task.{Task}
use Rattle.rules.specs.Control.{Entry, lacks}
use Rattle.rules.specs.Family.{live}
use Rattle.rules.specs.ResourceWaits.{let_go}
use Rattle.rules.specs.Rings.{Ring}
use Rattle.rules.specs.Steps.{Step, Outcome, with_tasks, with_queue, kept_by}
use Rattle.rules.specs.Serve.{Asked, serve_of}
use Rattle.rules.specs.Reading.{Turn, Effect, NoEffect, Queues, Releases, Changes, Ends, Attaches, effect_of}
use Rattle.rules.specs.Reading.{Reading, nothing, read_by, reads, queue_read, brings, breaks}
use Rattle.rules.specs.DemandThree.{Run, Fresh, Demand3}
use Rattle.history.specs.Samples.{turns_by, comes_to, start}

-- A HABIT: no ring after any run in which it is kept
abbrev pub Ringless : (Reading → List Turn → Bool) → Type 0
Ringless habit =
    (s t : Step) (us : List Turn) → Fresh s → Run s us t → habit nothing us ≡ true → Ring (queue_read us) → ⊥

-- the effect brings an entry of a task that lacks control
abbrev presses : Effect → List Entry → Bool
presses ev q = some (λ (e : Entry). lacks e.task q) (brings ev)

-- no task queued while an earlier request of its lacked control
abbrev pub weak_habit : Reading → List Turn → Bool
weak_habit r [] = true
weak_habit r (u ∷ us) = not (presses (effect_of r u) r.queue) && weak_habit (reads r u) us

-- an ENQ was queued only where the answer is 0: HAVE's 4 is not heard
abbrev pub deaf_habit : Reading → List Turn → Bool
deaf_habit r [] = true
deaf_habit r (u ∷ us) = not (eqb u.number 0 && breaks (effect_of r u) r.queue) && deaf_habit (reads r u) us

-- A READING: the queue that any run leaves
abbrev pub Tells : (List Turn → List Entry) → Type 0
Tells told = (s t : Step) (us : List Turn) → Fresh s → Run s us t → t.queue ≡ told us

-- the queue that is read where effects are heard in some other way
abbrev reading_by : (Turn → Effect → Effect) → Reading → List Turn → Reading
reading_by hears r [] = r
reading_by hears r (u ∷ us) = reading_by hears (read_by r (hears u (effect_of r u))) us

abbrev read_but : (Turn → Effect → Effect) → List Turn → List Entry
read_but hears us = (reading_by hears nothing us).queue

-- CHNG is not heard
abbrev pub unheard : Effect → Effect
unheard NoEffect = NoEffect
unheard (Queues t asks) = Queues t asks
unheard (Releases t ns) = Releases t ns
unheard (Changes t ns) = NoEffect
unheard (Ends who) = Ends who
unheard (Attaches m n) = Attaches m n

abbrev pub deaf_read : List Turn → List Entry
deaf_read us = read_but (λ u ev. unheard ev) us

-- what is queued is not heard
abbrev unqueued : Effect → Effect
unqueued NoEffect = NoEffect
unqueued (Queues t asks) = NoEffect
unqueued (Releases t ns) = Releases t ns
unqueued (Changes t ns) = Changes t ns
unqueued (Ends who) = Ends who
unqueued (Attaches m n) = Attaches m n

-- HAVE's 4 is not heard
abbrev pub deaf_to_four : List Turn → List Entry
deaf_to_four us = read_but (λ u ev. cond (eqb u.number 4) (unqueued ev) ev) us

-- where an ENQ queued anything, its whole list is read as queued
abbrev wholly : Turn → Effect → Effect
wholly u NoEffect = NoEffect
wholly u (Queues t asks) = Queues t u.names.asks
wholly u (Releases t ns) = Releases t ns
wholly u (Changes t ns) = Changes t ns
wholly u (Ends who) = Ends who
wholly u (Attaches m n) = Attaches m n

-- HAVE skips nothing
abbrev pub skips_nothing : List Turn → List Entry
skips_nothing us = read_but wholly us

-- A SERVICE: demand 3 of whatever is asked of it from a fresh step on
abbrev pub Meets : (Step → Asked → Outcome Step) → Type 0
Meets f = (l : List Asked) → Demand3 (turns_by f start l) (comes_to f start l)

-- what the rules answer, with other tables
abbrev pub but : Step → Asked → (Step → Step) → Outcome Step
but s a f = kept_by f (serve_of s a).outcome

-- the tables come back untouched
abbrev pub leaves_all : Step → Asked → Outcome Step
leaves_all s a = but s a (λ t. s)

-- a DETACH, like every ending, forgets one entry: of those whose task is gone the first stays
abbrev pub forgets_one : Step → Asked → Outcome Step
forgets_one s a =
    but s a (λ t. with_queue t (take 1 (keep (λ (e : Entry). not (live t.tasks e.task)) s.queue) ++ t.queue))

-- ENQ grants all queued names at once, so that DEQ has nothing to grant
abbrev pub grants_all : Step → Asked → Outcome Step
grants_all s a = but s a (λ t. with_tasks t (map (λ (x : Task). with_condition x (let_go x.condition)) t.tasks))
