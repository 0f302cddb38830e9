-- What an ending asks, and what it leaves.
use Rattle.kinds.specs.declared.numbers.TaskNumber.{TaskNumber}
use Rattle.kinds.specs.declared.tasks.Task.{Task}
use Rattle.rules.specs.Steps.{Step}
use Rattle.rules.specs.Ending.{end_tasks, left_by}
use Rattle.tables.specs.Tables.{step_of}
use Rattle.tables.specs.declared.AllTables.{AllTables}

-- the step that is left where task n ends and all below it, and n's place becomes `last`
abbrev pub left_with : AllTables → TaskNumber → Task → Step
left_with t n last = left_by (step_of t) (end_tasks t.tasks.places n.0 last)
