-- EXAMPLES of runs: demand 3 speaks of something.
use mathlib.Core.Path.{refl}
use mathlib.Core.List.{List, [], ◌∷◌, ◌++◌}
use Rattle.lists.specs.Pick.{pick}
use Rattle.lists.specs.Bools.{never}
use Rattle.rules.specs.Rings.{step, then, Ring}
use Rattle.rules.specs.Steps.{Step}
use Rattle.rules.specs.Fresh.{fresh_good, fresh_of}
use Rattle.rules.specs.Serve.{Asked}
use Rattle.rules.specs.Reading.{queue_read}
use Rattle.rules.specs.DemandThree.{Run, stop, turn, Fresh}
use Rattle.history.specs.Samples.{turns_by, comes_to, start, x, y, served, orderly, crossed, behind_owners}
use Rattle.history.specs.Samples.{have_crossed, owner_detached}
use Rattle.history.specs.Told.{StillQueued}
use Rattle.history.proofs.Told.{queue_told}
use Rattle.history.proofs.Computed.{turns, crossed_run, have_crossed_run, told_entries}

-- requests, however many, are a run
pub run_of : (s : Step) (l : List Asked) → Run s (turns_by served s l) (comes_to served s l)
run_of s [] = stop
run_of s (a ∷ l) = turn a (run_of (served s a).tables l)

pub starts : Fresh start
unfolding fresh_of fresh_good pick
starts = record { limit = 200; dispatching = 150; starts = refl }

-- the tasks that wait for each other are a ring
pub crossed_ring : Ring (queue_read (turns crossed))
crossed_ring = (2, then crossed_run.2 (step crossed_run.3))

pub have_crossed_ring : Ring (queue_read (turns have_crossed))
have_crossed_ring = (2, then have_crossed_run.3 (step have_crossed_run.4))

-- 3 is still queued for y, 2 has released x, and 5 ended when its mother was detached
pub told_run : StillQueued 3 y (turns orderly) × (StillQueued 2 x (turns orderly) → ⊥)
    × (StillQueued 5 y (turns (behind_owners ++ owner_detached)) → ⊥)
told_run = (
  (queue_told (turns orderly) 3 y).0 told_entries.0,
  λ s. never _ ((queue_told (turns orderly) 2 x).1 s) told_entries.1,
  λ s. never _ ((queue_told (turns (behind_owners ++ owner_detached)) 5 y).1 s) told_entries.2,
)
