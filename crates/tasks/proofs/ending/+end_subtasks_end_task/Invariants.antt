-- The rest of the walk makes what the whole makes (invariant); places in use fall (measures).
use Rattle.std.proofs.Common.{◌≡◌, ◌+◌, ◌*◌, ◌≤◌, length}
use Rattle.kinds.specs.Limits.{highest_task}
use Rattle.laws.specs.Wiping.{wiped}
use Rattle.laws.specs.Chains.{used_places}
use Rattle.tasks.specs.Under.{under}
use Rattle.tasks.proofs.Walks.{under_above}
use Rattle.tasks.proofs.ending.+end_subtasks_end_task.Given as goal

-- `end_task` frees a place in use before it walks: 2 for each such place, and 1 more for the walk
abbrev pub decreases-end_subtasks : goal.decreases-end_subtasks
decreases-end_subtasks l = used_places l.f.now.places * 2 + 1

abbrev pub decreases-end_task : goal.decreases-end_task
decreases-end_task l = used_places l.f.now.places * 2

abbrev pub invariant-end_subtasks-loop-k : goal.invariant-end_subtasks-loop-k
invariant-end_subtasks-loop-k l = record {
  long : length l.f.places ≡ highest_task;
  fewer : used_places l.f.places ≤ used_places l.initial.f.places;
  same :
      wiped (under_above l.f.places l.n.0 l.k) l.f.places ≡ wiped (under l.initial.f.places l.n.0) l.initial.f.places;
}
