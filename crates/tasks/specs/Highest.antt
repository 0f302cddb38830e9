-- The highest dispatching priority of the ready tasks, as a pass over the places finds it.
use Rattle.std.specs.Prelude.{ℕ, Bool, ◌&&◌, List, leb, max}
use Rattle.std.specs.List.{fold}
use Rattle.lists.specs.Pick.{pick}
use Rattle.kinds.specs.Tasks.{is_ready}
use Rattle.kinds.specs.declared.tasks.Task.{Task}

-- the higher of h and the dispatching priority of x, if x is ready
unfoldable pub raised_to : ℕ → Task → ℕ
raised_to h x = pick (is_ready x.condition) (max h x.dispatching) h

-- the highest of h and the ready ones
abbrev pub highest : ℕ → List Task → ℕ
highest = fold raised_to

-- x is ready, and its dispatching priority reaches h
abbrev pub reaching : ℕ → Task → Bool
reaching h x = is_ready x.condition && leb h x.dispatching
