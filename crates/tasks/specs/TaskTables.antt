-- The task table's struct and the list that it stands for.
use Rattle.std.specs.Prelude.{List, replicate}
use Rattle.kinds.specs.Limits.{highest_task}
use Rattle.kinds.specs.Tasks.{no_task}
use Rattle.kinds.specs.declared.tasks.Task.{Task}
use Rattle.tasks.specs.declared.TaskTable.{TaskTable}

abbrev pub task_table_of : List Task → TaskTable
task_table_of ts = record { places = ts }

-- the places of a step that is over
abbrev pub nobody : List Task
nobody = replicate highest_task no_task
