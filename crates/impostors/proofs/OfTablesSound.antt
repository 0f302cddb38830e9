-- Wrong answers that the contract of the sound test rules out.
use Prim.Native.Nat.{ℕ, zero, suc}
use mathlib.Core.Path.{◌≡◌, refl}
use mathlib.Core.Bool.{Bool, true, false, not, ◌&&◌}
use mathlib.Core.List.{List, [], ◌∷◌}
use lib.Dec.{eqb}
use lib.ListN.{set}
use Rattle.lists.specs.Pick.{pick}
use Rattle.lists.specs.Lists.{every, none}
use Rattle.kinds.specs.Ranges.{end_code_good}
use Rattle.kinds.specs.Tasks.{in_resource_wait}
use Rattle.kinds.specs.declared.tasks.Task.{Task}
use Rattle.kinds.specs.declared.tasks.Condition.{Condition}
use Rattle.kinds.specs.declared.tasks.Condition.TheVariants.{Free, Ready, EcbWait, Ended}
use Rattle.std.specs.Prelude.{Option, Some, None}
use Rattle.kinds.specs.declared.numbers.EcbNumber.{EcbNumber}
use Rattle.rules.specs.Control.{Entry}
use Rattle.rules.specs.Steps.{Step, with_tasks, with_queue, with_ecbs, with_areas, with_state, over_step}
use Rattle.rules.specs.Family.{with_place}
use Rattle.rules.specs.Enq.{entry_for}
use Rattle.rules.specs.SoundTasks.{job_step_good, mothers_good, priorities_good, task_ecbs_good, ended_tasks_good}
use Rattle.rules.specs.SoundTasks.{free_places_good, zero_task}
use Rattle.rules.specs.SoundQueue.{entries_live, entries_once, entry_names_good, waits_good}
use Rattle.rules.specs.SoundEcbs.{waiters_good, needs_good, ecb_words_good, zero_ecb}
use Rattle.rules.specs.SoundAreas.{area_shapes_good, area_owners_good, areas_rise, areas_apart}
use Rattle.rules.specs.Sound.{sizes_good}
use Rattle.rules.specs.HandCases.{area}
use Rattle.rules.specs.Table.{row_of, shr, exc}
use Rattle.history.specs.Samples.{start, x}
use Rattle.queue.specs.Queues.{entries_in, stored_entries, packed_entries}
use Rattle.queue.specs.declared.Queue.{Queue}
use Rattle.storage.specs.Stored.{areas_in, stored_areas, packed_areas}
use Rattle.storage.specs.declared.Storage.{Storage}
use Rattle.tables.specs.Tables.{step_of, tables_of, sound_tables, put_queue, put_storage}
use Rattle.tables.specs.declared.AllTables.{AllTables}
use Rattle.tables.proofs.sound.sound.Reads as sound
use Rattle.impostors.specs.Fitting.{◌⊗◌, fits-AllTables, fits_end}
use Rattle.impostors.specs.Opened.{tables_open}
use Rattle.impostors.specs.Wrong.{RuledOut, wrong_at}
use Rattle.impostors.specs.Samples.{task, ecb, after, one_daughter, awaited}

-- what `sound` is given, that it fits its type, and the step in it
abbrev pub Given : Type 0
Given = AllTables × Unit {0}

abbrev takes : (k : Unit {0}) → Given → Bool
takes k = fits-AllTables ⊗ fits_end

abbrev with_tables : Step → Queue → Storage → Given
with_tables s q l = (put_storage (put_queue (tables_of s) q) l, tt)

abbrev given : Step → Given
given s = (tables_of s, tt)

abbrev step_in : Given → Step
step_in a = step_of a.0

-- what is promised
abbrev sound_in : Given → Bool
sound_in a = sound_tables a.0

-- THE RULES ONE BY ONE, on a step that runs: 0 on the code, 1 to 6 on tasks, 7 to 10 on the queue, 11 to 13 on ECBs,
-- 14 to 17 on areas. That at most 128 entries and areas are counted is in the test of packed tables.
abbrev rules : Step → List Bool
rules s =
    eqb s.code 0
    ∷ job_step_good s.tasks
    ∷ mothers_good s.tasks
    ∷ priorities_good s.tasks
    ∷ task_ecbs_good s.tasks
    ∷ ended_tasks_good s.tasks
    ∷ free_places_good s.tasks
    ∷ entries_live s.tasks s.queue
    ∷ entries_once s.queue
    ∷ entry_names_good s.queue
    ∷ waits_good s.queue s.tasks
    ∷ waiters_good s.tasks s.ecbs
    ∷ needs_good s.ecbs s.tasks
    ∷ ecb_words_good s.ecbs
    ∷ area_shapes_good s.areas
    ∷ area_owners_good s.tasks s.areas
    ∷ areas_rise s.areas
    ∷ areas_apart s.areas
    ∷ []

-- and on one that is over
abbrev over_rules : Step → List Bool
over_rules s =
    end_code_good s.code
    ∷ every zero_task s.tasks
    ∷ none s.queue
    ∷ every zero_ecb s.ecbs
    ∷ none s.areas
    ∷ []

-- all but the n-th, from 0 on
abbrev all_but : ℕ → List Bool → Bool
all_but n [] = true
all_but zero (b ∷ l) = every (λ r. r) l
all_but (suc n) (b ∷ l) = b && all_but n l

-- packed tables, and a step judged in another way
abbrev pub judged : (Step → Bool) → Given → Bool
judged f a =
    packed_entries a.0.queue
    && (packed_areas a.0.storage && (sizes_good (step_in a).tasks (step_in a).ecbs && f (step_in a)))

-- by all rules but the n-th of a step that runs, or of one that is over
abbrev while_running : ℕ → Step → Bool
while_running n s = pick s.over (all_but 5 (over_rules s)) (all_but n (rules s))

abbrev when_over : ℕ → Step → Bool
when_over n s = pick s.over (all_but n (over_rules s)) (all_but 18 (rules s))

-- STEPS: 2 is a daughter of task 1; then both ask for x, and 2 waits
abbrev two : Step
two = after start one_daughter

abbrev held : Step
held = after start awaited

-- with another place of task n, another ECB, entries, areas
abbrev row : Step → ℕ → Condition → ℕ → ℕ → ℕ → Option EcbNumber → Step
row s n k mother limit dispatching e = with_tasks s (with_place s.tasks n (row_of k mother limit dispatching e))

abbrev word : Step → ℕ → ℕ → Bool → ℕ → Step
word s n waiter complete code =
    with_ecbs s (set s.ecbs n (record { waiter = task waiter; complete = complete; code = code }))

abbrev entries : Step → List Entry → Step
entries s q = with_queue s q

abbrev coded : Step → ℕ → Step
coded s code = with_state s s.over code

-- an entry and an area that are not counted
abbrev uncounted : Queue
uncounted = record { slots = (stored_entries (entry_for 1 (exc x) ∷ [])).slots; count = 0 }

abbrev left_over : Storage
left_over = record { areas = (stored_areas (area 0 8 5 1 ∷ [])).areas; count = 0 }

-- A RULE IS NOT LOOKED AT: on the tasks

-- task 1 may have an ECB
pub sound_with_an_ecb_of_task_1 : RuledOut takes sound.Pre sound.Post (λ k a. judged (while_running 1) a)
unfolding tables_open
sound_with_an_ecb_of_task_1 =
    wrong_at tt (given (row start 1 Ready 0 200 150 (Some (ecb 0)))) refl tt (λ b. b) refl refl

-- a mother need not be live: task 9 is 2's
pub sound_with_a_mother_not_live : RuledOut takes sound.Pre sound.Post (λ k a. judged (while_running 2) a)
unfolding tables_open
sound_with_a_mother_not_live = wrong_at tt (given (row two 2 Ready 9 200 150 None)) refl tt (λ b. b) refl refl

-- dispatching may be above limit: 200/201
pub sound_with_dispatching_above_limit : RuledOut takes sound.Pre sound.Post (λ k a. judged (while_running 3) a)
unfolding tables_open
sound_with_dispatching_above_limit = wrong_at tt (given (row two 2 Ready 1 200 201 None)) refl tt (λ b. b) refl refl

-- a task may have been attached with ECB 64
pub sound_with_ecb_64 : RuledOut takes sound.Pre sound.Post (λ k a. judged (while_running 4) a)
unfolding tables_open
sound_with_ecb_64 = wrong_at tt (given (row two 2 Ready 1 200 150 (Some (ecb 64)))) refl tt (λ b. b) refl refl

-- an ended task need not have an ECB
pub sound_with_an_ended_task_without_ecb : RuledOut takes sound.Pre sound.Post (λ k a. judged (while_running 5) a)
unfolding tables_open
sound_with_an_ended_task_without_ecb = wrong_at tt (given (row two 2 Ended 1 200 150 None)) refl tt (λ b. b) refl refl

-- a free place need not be zero: it has a limit
pub sound_with_a_free_place_not_zero : RuledOut takes sound.Pre sound.Post (λ k a. judged (while_running 6) a)
unfolding tables_open
sound_with_a_free_place_not_zero = wrong_at tt (given (row two 3 Free 0 200 0 None)) refl tt (λ b. b) refl refl

-- on entries and resource waits

-- an entry may be of a task that is not live: 3
pub sound_with_an_entry_of_nobody : RuledOut takes sound.Pre sound.Post (λ k a. judged (while_running 7) a)
unfolding tables_open
sound_with_an_entry_of_nobody = wrong_at tt (given (entries two (entry_for 3 (exc x) ∷ []))) refl tt (λ b. b) refl refl

-- a task may have two entries for a name
pub sound_with_two_entries_for_a_name : RuledOut takes sound.Pre sound.Post (λ k a. judged (while_running 8) a)
unfolding tables_open
sound_with_two_entries_for_a_name =
    wrong_at tt (given (entries two (entry_for 1 (shr x) ∷ entry_for 1 (shr x) ∷ []))) refl tt (λ b. b) refl refl

-- 2, whose entry lacks control, may be ready
pub sound_with_a_ready_task_that_lacks_control : RuledOut takes sound.Pre sound.Post (λ k a. judged (while_running 10) a)
unfolding tables_open
sound_with_a_ready_task_that_lacks_control =
    wrong_at tt (given (row held 2 Ready 1 200 150 None)) refl tt (λ b. b) refl refl

-- on ECBs and ECB waits

-- a waiter may be ready: task 1 at ECB 5
pub sound_with_a_waiter_that_is_ready : RuledOut takes sound.Pre sound.Post (λ k a. judged (while_running 11) a)
unfolding tables_open
sound_with_a_waiter_that_is_ready = wrong_at tt (given (word two 5 1 false 0)) refl tt (λ b. b) refl refl

-- 2 needs two posts, and waits on ECB 5 alone
abbrev needy : Step
needy = row (word two 5 2 false 0) 2 (EcbWait 2) 1 200 150 None

passes_needy : judged (while_running 12) (given needy) ≡ true
unfolding tables_open
passes_needy = refl

unsound_needy : sound_in (given needy) ≡ false
unfolding tables_open
unsound_needy = refl

fits_needy : takes tt (given needy) ≡ true
unfolding tables_open
fits_needy = refl

-- a waiter may need more posts than it has ECBs
pub sound_with_too_many_posts_needed : RuledOut takes sound.Pre sound.Post (λ k a. judged (while_running 12) a)
sound_with_too_many_posts_needed = wrong_at tt (given needy) fits_needy tt (λ b. b) passes_needy unsound_needy

-- an incomplete ECB may have a code
pub sound_with_a_code_of_an_incomplete_ecb : RuledOut takes sound.Pre sound.Post (λ k a. judged (while_running 13) a)
unfolding tables_open
sound_with_a_code_of_an_incomplete_ecb = wrong_at tt (given (word two 5 0 false 1)) refl tt (λ b. b) refl refl

-- on areas

-- an area may have no bytes
pub sound_with_an_area_of_no_bytes : RuledOut takes sound.Pre sound.Post (λ k a. judged (while_running 14) a)
unfolding tables_open
sound_with_an_area_of_no_bytes = wrong_at tt (given (with_areas two (area 0 0 5 1 ∷ []))) refl tt (λ b. b) refl refl

-- an area may be of a task that is not live: 3
pub sound_with_an_area_of_nobody : RuledOut takes sound.Pre sound.Post (λ k a. judged (while_running 15) a)
unfolding tables_open
sound_with_an_area_of_nobody = wrong_at tt (given (with_areas two (area 0 8 5 3 ∷ []))) refl tt (λ b. b) refl refl

-- areas may stand in any order
pub sound_with_areas_out_of_order : RuledOut takes sound.Pre sound.Post (λ k a. judged (while_running 16) a)
unfolding tables_open
sound_with_areas_out_of_order =
    wrong_at tt (given (with_areas two (area 8 8 5 1 ∷ area 0 8 5 1 ∷ []))) refl tt (λ b. b) refl refl

-- areas may meet
pub sound_with_areas_that_meet : RuledOut takes sound.Pre sound.Post (λ k a. judged (while_running 17) a)
unfolding tables_open
sound_with_areas_that_meet =
    wrong_at tt (given (with_areas two (area 0 16 5 1 ∷ area 8 8 5 1 ∷ []))) refl tt (λ b. b) refl refl

-- on fields and places that are not used

-- a step that runs may have a code
pub sound_with_a_code_while_it_runs : RuledOut takes sound.Pre sound.Post (λ k a. judged (while_running 0) a)
unfolding tables_open
sound_with_a_code_while_it_runs = wrong_at tt (given (coded two 1)) refl tt (λ b. b) refl refl

-- whether the queue is packed is not tested: an unused place is not zero
pub sound_with_an_unused_entry_not_zero :
    RuledOut takes sound.Pre sound.Post
    (λ k a. sound_in (with_tables (step_in a) (stored_entries (entries_in a.0.queue)) a.0.storage))
unfolding tables_open
sound_with_an_unused_entry_not_zero = wrong_at tt (with_tables two uncounted (stored_areas [])) refl tt (λ b. b) refl refl

-- whether the area table is packed is not tested: an unused place is not zero
pub sound_with_an_unused_area_not_zero :
    RuledOut takes sound.Pre sound.Post
    (λ k a. sound_in (with_tables (step_in a) a.0.queue (stored_areas (areas_in a.0.storage))))
unfolding tables_open
sound_with_an_unused_area_not_zero = wrong_at tt (with_tables two (stored_entries []) left_over) refl tt (λ b. b) refl refl

-- on a step that is over

-- its code may be above 4,095
pub sound_over_with_code_4096 : RuledOut takes sound.Pre sound.Post (λ k a. judged (when_over 0) a)
unfolding tables_open
sound_over_with_code_4096 = wrong_at tt (given (over_step 4096)) refl tt (λ b. b) refl refl

-- a task may be left
pub sound_over_with_a_task : RuledOut takes sound.Pre sound.Post (λ k a. judged (when_over 1) a)
unfolding tables_open
sound_over_with_a_task = wrong_at tt (given (with_tasks (over_step 7) start.tasks)) refl tt (λ b. b) refl refl

-- an entry may be left
pub sound_over_with_an_entry : RuledOut takes sound.Pre sound.Post (λ k a. judged (when_over 2) a)
unfolding tables_open
sound_over_with_an_entry =
    wrong_at tt (given (entries (over_step 7) (entry_for 1 (exc x) ∷ []))) refl tt (λ b. b) refl refl

-- an ECB may be left complete
pub sound_over_with_an_ecb : RuledOut takes sound.Pre sound.Post (λ k a. judged (when_over 3) a)
unfolding tables_open
sound_over_with_an_ecb = wrong_at tt (given (word (over_step 7) 5 0 true 0)) refl tt (λ b. b) refl refl

-- an area of the step may be left
pub sound_over_with_an_area : RuledOut takes sound.Pre sound.Post (λ k a. judged (when_over 4) a)
unfolding tables_open
sound_over_with_an_area = wrong_at tt (given (with_areas (over_step 7) (area 0 8 0 0 ∷ []))) refl tt (λ b. b) refl refl

-- SOUND TABLES ARE REFUSED

-- a step that is over is never sound
pub sound_never_when_over : RuledOut takes sound.Pre sound.Post
    (λ k a. judged (λ s. not s.over && all_but 18 (rules s)) a)
unfolding tables_open
sound_never_when_over = wrong_at tt (given (over_step 7)) refl tt not refl refl

-- nobody may wait for control: 2 waits for x
pub sound_never_while_one_waits :
    RuledOut takes sound.Pre sound.Post
    (λ k a. judged (λ s. while_running 18 s && every (λ (y : Task). not (in_resource_wait y.condition)) s.tasks) a)
unfolding tables_open
sound_never_while_one_waits = wrong_at tt (given held) refl tt not refl refl
