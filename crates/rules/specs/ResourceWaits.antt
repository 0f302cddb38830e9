-- RESOURCE WAITS: whenever the queue changes, each task's resource wait becomes what control says.
use Rattle.std.specs.Prelude.{ℕ, List}
use Rattle.lists.specs.Pick.{pick}
use Rattle.lists.specs.Lists.{map_at}
use Rattle.kinds.specs.Tasks.{with_condition}
use Rattle.kinds.specs.declared.tasks.Task.{Task}
use Rattle.kinds.specs.declared.tasks.Condition.{Condition}
use Rattle.kinds.specs.declared.tasks.Condition.TheVariants.{Free, Ready, ResourceWait, EcbWait, Ended}
use Rattle.rules.specs.Control.{Entry, lacks}
use Rattle.rules.specs.Steps.{Step, with_tasks, with_queue}

-- a ready task that lacks control waits, whatever else it was doing stays
abbrev pub held_up : Condition → Condition
held_up Free = Free
held_up Ready = ResourceWait
held_up ResourceWait = ResourceWait
held_up (EcbWait n) = EcbWait n
held_up Ended = Ended

-- a task in a resource wait that lacks nothing is ready
abbrev pub let_go : Condition → Condition
let_go Free = Free
let_go Ready = Ready
let_go ResourceWait = Ready
let_go (EcbWait n) = EcbWait n
let_go Ended = Ended

-- "the caller waits until all its entries have control"; "exactly when an entry of its lacks control"
unfoldable pub wait_at : List Entry → ℕ → Task → Task
wait_at q n x = pick (lacks n q) (with_condition x (held_up x.condition)) (with_condition x (let_go x.condition))

abbrev pub waits_by : List Entry → List Task → List Task
waits_by q ts = map_at (wait_at q) 1 ts

-- the queue becomes q, and every resource wait what control says
abbrev pub requeued : Step → List Entry → Step
requeued s q = with_queue (with_tasks s (waits_by q s.tasks)) q
