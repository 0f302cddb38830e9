-- The list of queues as it grows: the entries for a name from some place on.
use Rattle.std.specs.Prelude.{List, map, ℕ, drop}
use Rattle.kinds.specs.declared.names.NameOffset.{NameOffset}
use Rattle.names.specs.Pointers.{pointer}
use Rattle.rules.specs.Names.{Resource}
use Rattle.rules.specs.Control.{Entry}
use Rattle.rules.specs.Reports.{Standing, standing, standing_for}
use Rattle.queue.specs.declared.Queue.{Queue}
use Rattle.queue.specs.Queues.{entries_in}

abbrev pub entry_names : List Entry → List Resource
entry_names q = map (λ (e : Entry). e.name) q

-- from place i on
abbrev pub queue_from : Queue → ℕ → NameOffset → List Standing
queue_from q i n = standing_for (pointer n.0) (drop i (standing (entries_in q)))
