-- All of the tables: the step that they stand for, the tables that keep a step, and when they break no rule.
use Rattle.std.specs.Prelude.{◌≡◌, Bool, true, false}
use Rattle.lists.specs.Pick.{pick}
use Rattle.kinds.specs.declared.numbers.TaskNumber.{TaskNumber}
use Rattle.std.specs.Prelude.{Ok}
use Rattle.rules.specs.Steps.{Step}
use Rattle.rules.specs.Admission.{gate_of}
use Rattle.rules.specs.Sound.{sound_step}
use Rattle.tasks.specs.TaskTables.{task_table_of}
use Rattle.tasks.specs.declared.TaskTable.{TaskTable}
use Rattle.queue.specs.Queues.{entries_in, stored_entries, packed_entries, PackedEntries}
use Rattle.queue.specs.declared.Queue.{Queue}
use Rattle.ecbs.specs.Blocks.{ecb_table_of}
use Rattle.ecbs.specs.declared.EcbTable.{EcbTable}
use Rattle.storage.specs.Stored.{areas_in, stored_areas, packed_areas, PackedAreas}
use Rattle.storage.specs.declared.Storage.{Storage}
use Rattle.tables.specs.declared.AllTables.{AllTables}

abbrev pub step_of : AllTables → Step
step_of t = record {
  over = t.over;
  code = t.code;
  tasks = t.tasks.places;
  queue = entries_in t.queue;
  ecbs = t.ecbs.ecbs;
  areas = areas_in t.storage;
}

abbrev pub tables_of : Step → AllTables
tables_of s = record {
  over = s.over;
  code = s.code;
  tasks = task_table_of s.tasks;
  queue = stored_entries s.queue;
  ecbs = ecb_table_of s.ecbs;
  storage = stored_areas s.areas;
}

-- the tables keep their step: nothing else stands in them
pub record Packed (t : AllTables) : Type 0 where
  pub queue : PackedEntries t.queue
  pub storage : PackedAreas t.storage

-- the tables keep a step, and it breaks no rule
unfoldable pub sound_tables : AllTables → Bool
sound_tables t =
    pick (packed_entries t.queue) (pick (packed_areas t.storage) (sound_step (step_of t)) false) false

-- what an open gate gives to the service behind it
pub record Admitted (t : AllTables) (c : TaskNumber) : Type 0 where
  pub sound : sound_tables t ≡ true
  pub gate : gate_of (step_of t) c ≡ Ok tt

-- with one table put in the place of another
abbrev pub put_tasks : AllTables → TaskTable → AllTables
put_tasks t f = record {
  over = t.over;
  code = t.code;
  tasks = f;
  queue = t.queue;
  ecbs = t.ecbs;
  storage = t.storage;
}

abbrev pub put_queue : AllTables → Queue → AllTables
put_queue t q = record {
  over = t.over;
  code = t.code;
  tasks = t.tasks;
  queue = q;
  ecbs = t.ecbs;
  storage = t.storage;
}

abbrev pub put_ecbs : AllTables → EcbTable → AllTables
put_ecbs t e = record {
  over = t.over;
  code = t.code;
  tasks = t.tasks;
  queue = t.queue;
  ecbs = e;
  storage = t.storage;
}

abbrev pub put_storage : AllTables → Storage → AllTables
put_storage t s = record {
  over = t.over;
  code = t.code;
  tasks = t.tasks;
  queue = t.queue;
  ecbs = t.ecbs;
  storage = s;
}
