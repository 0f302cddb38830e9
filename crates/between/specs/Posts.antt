-- What the rules say of a post, in the two tables' structs.
use Rattle.rules.specs.Events as rules
use Rattle.ecbs.specs.Blocks.{ecb_table_of}
use Rattle.tasks.specs.TaskTables.{task_table_of}
use Rattle.between.specs.declared.waiters.Signals.{Signals}

unfoldable pub signals_of : rules.Signals → Signals
signals_of s = record { ecbs = ecb_table_of s.ecbs; tasks = task_table_of s.tasks }
