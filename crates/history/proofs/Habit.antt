-- Under the habit each task's entries stand together in the queue that a run tells of.
use mathlib.Core.Path.{◌≡◌}
use mathlib.Core.Bool.{true, not}
use mathlib.Core.List.{List, [], ◌∷◌}
use borrow.Author.Tests.{not-true}
use Rattle.lists.specs.Bools.{both}
use Rattle.rules.specs.Reading.{Turn, effect_of, Reading, nothing, reads, reading, queue_read, breaks}
use Rattle.rules.specs.Reading.{one_at_a_time}
use Rattle.history.proofs.Grouped.{Grouped}
use Rattle.history.proofs.KeptGroups.{after_grouped}

run_grouped : (r : Reading) (us : List Turn) → one_at_a_time r us ≡ true → Grouped r.queue
    → Grouped (reading r us).queue
run_grouped r [] o g = g
run_grouped r (u ∷ us) o g =
    let ev = effect_of r u in
    let k = both (not (breaks ev r.queue)) (one_at_a_time (reads r u) us) o in
    run_grouped (reads r u) us k.1 (after_grouped r.queue g ev (not-true (breaks ev r.queue) k.0))

pub habit_grouped : (us : List Turn) → one_at_a_time nothing us ≡ true → Grouped (queue_read us)
habit_grouped us o = run_grouped nothing us o tt
