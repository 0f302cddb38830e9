-- NO IMPOSTOR MEETS DEMAND 3: a run of each, and what is false of it that holds of the rules' own where demand 3 does.
use mathlib.Core.Path.{◌≡◌, sym, ap, ◌∙◌}
use mathlib.Core.Bool.{Bool, true, false, not}
use mathlib.Core.List.{List, ◌++◌}
use Rattle.lists.specs.Lists.{some}
use Rattle.lists.specs.Bools.{never}
use Rattle.rules.specs.Control.{Entry, of_task, is_for}
use Rattle.rules.specs.DemandThree.{DemandThree}
use Rattle.rules.specs.Reading.{queue_read, one_at_a_time}
use Rattle.history.specs.Samples.{turns_by, comes_to, start, x, y, served, crossed, have_crossed, have_skipped}
use Rattle.history.specs.Samples.{behind_owners, owner_detached, asks_once, changes, two_ask, second}
use Rattle.history.specs.Impostors.{Ringless, weak_habit, deaf_habit, Tells, deaf_read, deaf_to_four, skips_nothing}
use Rattle.history.specs.Impostors.{Meets, leaves_all, forgets_one, grants_all}
use Rattle.history.proofs.Computed.{turns, left, crossed_run, have_crossed_run, deaf_run, deaf_to_four_run}
use Rattle.history.proofs.Computed.{skips_nothing_run, leaving_run, forgetting_run, granting_run}
use Rattle.history.proofs.Examples.{run_of, starts, crossed_ring, have_crossed_ring}

-- WHAT DEMAND 3 GIVES of the habit, the reading and the services

pub habit_ringless : DemandThree → Ringless one_at_a_time
habit_ringless d s t us f r = (d s t us f r).ringless

pub reading_tells : DemandThree → Tells queue_read
reading_tells d s t us f r = (d s t us f r).stored

pub services_meet : DemandThree → Meets served
services_meet d l = d start (comes_to served start l) (turns_by served start l) starts (run_of start l)

-- THE IMPOSTORS

-- two queues that a test tells apart
differ : (f : Entry → Bool) (p q : List Entry) → some f p ≡ true → some f q ≡ false → p ≡ q → ⊥
differ f p q h k e = never (some f p) h (ap (some f) e ∙ k)

-- to ask only while nothing is waited for leaves rings
pub weak_habit_rings : Ringless weak_habit → ⊥
weak_habit_rings h = h start (left crossed) (turns crossed) starts (run_of start crossed) crossed_run.1 crossed_ring

-- and so does to count only what is answered 0
pub deaf_habit_rings : Ringless deaf_habit → ⊥
deaf_habit_rings h =
    h start (left have_crossed) (turns have_crossed) starts (run_of start have_crossed) have_crossed_run.2
    have_crossed_ring

-- a reading that is deaf to CHNG does not tell the queue
pub deaf_reading_fails : Tells deaf_read → ⊥
deaf_reading_fails h =
    differ (λ (e : Entry). e.exclusive) _ _ deaf_run.0 deaf_run.1 (h start _ _ starts (run_of start changes))

-- nor does one that is deaf to HAVE's 4, nor one that queues what HAVE skips
pub deaf_to_four_fails : Tells deaf_to_four → ⊥
deaf_to_four_fails h =
    differ (is_for 2 y) _ _ deaf_to_four_run.0 deaf_to_four_run.1 (h start _ _ starts (run_of start have_crossed))

pub skips_nothing_fails : Tells skips_nothing → ⊥
skips_nothing_fails h =
    differ (λ (e : Entry). not e.exclusive) _ _ skips_nothing_run.1 skips_nothing_run.0
    (sym (h start _ _ starts (run_of start have_skipped)))

-- a service that copies the tables back loses the queue, although nobody then lacks control
pub leaving_all_fails : Meets leaves_all → ⊥
leaving_all_fails h = differ (of_task 1) _ _ leaving_run.0 leaving_run.1 (sym (h asks_once).stored)

-- an ending (here a DETACH) that forgets one entry keeps what nobody asks for any more
pub forgetting_fails : Meets forgets_one → ⊥
forgetting_fails h =
    differ (of_task 2) _ _ forgetting_run.0 forgetting_run.1 (h (behind_owners ++ owner_detached)).stored

-- a service that grants all queued names at the first call breaks the leading run
pub granting_all_fails : Meets grants_all → ⊥
granting_all_fails h = never _ ((h two_ask).among x second granting_run.0 granting_run.1) granting_run.2
