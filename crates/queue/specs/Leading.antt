-- The leading run of a name's queue, read entry by entry.
use Rattle.std.specs.Prelude.{false, not, ◌&&◌, ℕ}
use Rattle.lists.specs.Pick.{pick}
use Rattle.rules.specs.Names.{Resource, same_name}
use Rattle.rules.specs.Control.{Entry, of_task}
use Rattle.queue.specs.declared.lead.Lead.{Lead}

-- one more entry of the queue: for another name; behind others and exclusive, so that the run has ended; or in the run
unfoldable pub lead_next : Lead → ℕ → Resource → Entry → Lead
lead_next s t n e =
    pick (not (same_name e.name n)) s
    (pick (not s.first && e.exclusive) (record { first = false; going = false; sole = s.sole })
    (record { first = false; going = not e.exclusive; sole = s.sole && of_task t e }))
