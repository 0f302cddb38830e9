-- The marks of those in a resource wait, and waking by a mark.
use Rattle.std.specs.Prelude.{ℕ, Bool, List}
use Rattle.lists.specs.Pick.{pick}
use Rattle.kinds.specs.Tasks.{in_resource_wait, with_condition}
use Rattle.kinds.specs.declared.tasks.Task.{Task}
use Rattle.kinds.specs.declared.tasks.Condition.TheVariants.{Ready}
use Rattle.rules.specs.Family.{condition_of}
use Rattle.queue.specs.Marking.{marked_by}
use Rattle.queue.specs.declared.marks.Marks.{Marks}

abbrev pub waits_at : List Task → ℕ → Bool
waits_at ts t = in_resource_wait (condition_of ts t)

abbrev pub wait_marks : List Task → Marks
wait_marks ts = marked_by (waits_at ts)

-- a task in a resource wait that lacks nothing is ready
unfoldable pub wake_if : Bool → Task → Task
wake_if lacking x = pick (in_resource_wait x.condition) (pick lacking x (with_condition x Ready)) x
