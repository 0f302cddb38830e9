-- The tasks under a task: its direct subtasks and all below them.
use Rattle.std.specs.Prelude.{ℕ, Bool, List}
use Rattle.kinds.specs.Limits.{highest_task}
use Rattle.kinds.specs.declared.tasks.Task.{Task}
use Rattle.rules.specs.Family.{chain, direct_subtask}

-- task m is a direct subtask of n or below one: its chain of mothers reaches a direct subtask of n
unfoldable pub under : List Task → ℕ → ℕ → Bool
under ts n = chain highest_task ts (direct_subtask ts n)
