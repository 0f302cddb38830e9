-- RUNS COMPUTED, with every definition open: what the services and the impostors make of them.
use mathlib.Core.Path.{◌≡◌, refl}
use mathlib.Core.Bool.{true, false, not}
use mathlib.Core.List.{List, [], ◌∷◌, ◌++◌, map}
use Rattle.lists.specs.Lists.{some}
use Rattle.rules.specs.Control.{Entry, of_task, has_entry, queue_of}
use Rattle.rules.specs.Rings.{waits_for}
use Rattle.rules.specs.Steps.{Step}
use Rattle.rules.specs.Serve.{Asked}
use Rattle.rules.specs.Reading.{Turn, nothing, queue_read, one_at_a_time}
use Rattle.rules.specs.DemandThree.{leading_run, waits_in, stands_in}
use Rattle.rules.specs.Opened.{rules_open}
use Rattle.history.specs.Samples.{turns_by, comes_to, start, x, y, served, owners_of, orderly, crossed, behind_owners}
use Rattle.history.specs.Samples.{have_crossed, have_skipped, owner_detached, asks_once, changes, two_ask, second}
use Rattle.history.specs.Impostors.{weak_habit, deaf_habit, deaf_read, deaf_to_four, skips_nothing, leaves_all}
use Rattle.history.specs.Impostors.{forgets_one, grants_all}

-- what is told of requests that the services answer from the fresh step on, and the step then

abbrev pub turns : List Asked → List Turn
turns l = turns_by served start l

abbrev pub left : List Asked → Step
left l = comes_to served start l

-- 1: the habit is kept and there are waiters, so that one who is not waiting must be there: 3 is
pub orderly_run : (one_at_a_time nothing (turns orderly) ≡ true)
    × (map (waits_in (left orderly)) (2 ∷ 3 ∷ 4 ∷ []) ≡ true ∷ false ∷ true ∷ []) × (owners_of y (left orderly) ≡ 3 ∷ [])
unfolding rules_open
orderly_run = (refl, refl, refl)

-- 2: the habit is broken, a weaker one is kept, and the tasks wait for each other
pub crossed_run : (one_at_a_time nothing (turns crossed) ≡ false) × (weak_habit nothing (turns crossed) ≡ true)
    × (waits_for (queue_read (turns crossed)) 2 3 ≡ true) × (waits_for (queue_read (turns crossed)) 3 2 ≡ true)
unfolding rules_open
crossed_run = (refl, refl, refl, refl)

-- with HAVE: both are answered 4, what they queue breaks the habit, and the tasks wait for each other. A habit that
-- does not hear the 4 is kept.
pub have_crossed_run : (map (λ (u : Turn). u.number) (turns have_crossed) ≡ 0 ∷ 0 ∷ 0 ∷ 0 ∷ 4 ∷ 4 ∷ [])
    × (one_at_a_time nothing (turns have_crossed) ≡ false) × (deaf_habit nothing (turns have_crossed) ≡ true)
    × (waits_for (queue_read (turns have_crossed)) 2 3 ≡ true) × (waits_for (queue_read (turns have_crossed)) 3 2 ≡ true)
unfolding rules_open
have_crossed_run = (refl, refl, refl, refl, refl)

-- a HAVE that queues nothing is answered 4 too, and the habit is kept
pub have_skipped_run : (map (λ (u : Turn). u.number) (turns have_skipped) ≡ 0 ∷ 0 ∷ 0 ∷ 0 ∷ 4 ∷ [])
    × (one_at_a_time nothing (turns have_skipped) ≡ true)
    × (map (λ (e : Entry). e.task) (left have_skipped).queue ≡ 2 ∷ 3 ∷ [])
    × (map (waits_in (left have_skipped)) (2 ∷ 3 ∷ []) ≡ false ∷ true ∷ [])
unfolding rules_open
have_skipped_run = (refl, refl, refl, refl)

-- 3: when an owner is detached, they own who waited behind him and behind his daughter
pub detached_run : (map (waits_in (left behind_owners)) (3 ∷ 4 ∷ []) ≡ true ∷ true ∷ [])
    × (map (waits_in (left (behind_owners ++ owner_detached))) (3 ∷ 4 ∷ []) ≡ false ∷ false ∷ [])
    × (map (λ n. owners_of n (left (behind_owners ++ owner_detached))) (x ∷ y ∷ []) ≡ (3 ∷ []) ∷ (4 ∷ []) ∷ [])
unfolding rules_open
detached_run = (refl, refl, refl)

-- 4: an entry that was queued, one that was released, and one whose task ended with its mother
pub told_entries : (has_entry (queue_read (turns orderly)) 3 y ≡ true)
    × (has_entry (queue_read (turns orderly)) 2 x ≡ false)
    × (has_entry (queue_read (turns (behind_owners ++ owner_detached))) 5 y ≡ false)
unfolding rules_open
told_entries = (refl, refl, refl)

-- THE IMPOSTORS

-- the reading that is deaf to CHNG: the entry is exclusive, and it says shared
pub deaf_run : (some (λ (e : Entry). e.exclusive) (left changes).queue ≡ true)
    × (some (λ (e : Entry). e.exclusive) (deaf_read (turns changes)) ≡ false)
unfolding rules_open
deaf_run = (refl, refl)

-- the reading that is deaf to HAVE's 4: 2 is queued for y, and it says nothing of it
pub deaf_to_four_run : (has_entry (left have_crossed).queue 2 y ≡ true)
    × (has_entry (deaf_to_four (turns have_crossed)) 2 y ≡ false)
unfolding rules_open
deaf_to_four_run = (refl, refl)

-- the reading that skips nothing: it has 2's shared request for x, which was skipped
pub skips_nothing_run : (some (λ (e : Entry). not e.exclusive) (left have_skipped).queue ≡ false)
    × (some (λ (e : Entry). not e.exclusive) (skips_nothing (turns have_skipped)) ≡ true)
unfolding rules_open
skips_nothing_run = (refl, refl)

-- the service that leaves all tables: the entry is told of and not there
pub leaving_run : (some (of_task 1) (queue_read (turns_by leaves_all start asks_once)) ≡ true)
    × (some (of_task 1) (comes_to leaves_all start asks_once).queue ≡ false)
unfolding rules_open
leaving_run = (refl, refl)

-- the DETACH that forgets an entry: it is there and not told of
pub forgetting_run : (some (of_task 2) (comes_to forgets_one start (behind_owners ++ owner_detached)).queue ≡ true)
    × (some (of_task 2) (queue_read (turns_by forgets_one start (behind_owners ++ owner_detached))) ≡ false)
unfolding rules_open
forgetting_run = (refl, refl)

-- the service that grants all: 2 goes on, and is not in the leading run
pub granting_run : (stands_in second (queue_of x (queue_read (turns_by grants_all start two_ask))) ≡ true)
    × (waits_in (comes_to grants_all start two_ask) 2 ≡ false)
    × (stands_in second (leading_run (queue_of x (queue_read (turns_by grants_all start two_ask)))) ≡ false)
unfolding rules_open
granting_run = (refl, refl, refl)
