-- Wrong answers that the contracts of `subtasks` rule out.
use Prim.Native.Nat.{ℕ}
use mathlib.Core.Path.{refl}
use mathlib.Core.Bool.{Bool, true, false, not, ◌&&◌}
use mathlib.Core.List.{List, [], ◌∷◌, map}
use lib.Dec.{eqb}
use lib.IntN.{ℤ, pos}
use Rattle.lists.specs.Pick.{pick}
use Rattle.lists.specs.Lists.{some, numbers}
use Rattle.kinds.specs.Limits.{highest_task}
use Rattle.kinds.specs.Tasks.{no_task, is_live, in_resource_wait}
use Rattle.kinds.specs.declared.numbers.TaskNumber.{TaskNumber}
use Rattle.kinds.specs.declared.tasks.Task.{Task}
use Rattle.std.specs.Prelude.{Option, None}
use Rattle.kinds.specs.Replies.{Verdict}
use Rattle.kinds.specs.declared.numbers.EcbNumber.{EcbNumber}
use Rattle.kinds.specs.declared.replies.Refusal.TheVariants.{OutOfRange, NoTaskFree}
use Rattle.kinds.specs.declared.replies.Fault.TheVariants.{HasSubtasks, NotSubtask}
use Rattle.rules.specs.Tests.{refuse, fail, first_of}
use Rattle.rules.specs.Steps.{Step, done, over_step}
use Rattle.rules.specs.Family.{place, live, direct_subtask, has_subtasks, is_subtask_of, below}
use Rattle.rules.specs.Ending.{detached, ended as ended_of}
use Rattle.rules.specs.Attach.{attach_good, attach_verdict, attach_done, lowest_free}
use Rattle.rules.specs.Detach.{detach_good, detach_verdict}
use Rattle.rules.specs.End.{end_good, end_verdict}
use Rattle.rules.specs.Abend.{abend_verdict}
use Rattle.rules.specs.Alike.{kind_of}
use Rattle.history.specs.Samples.{start}
use Rattle.tasks.specs.TaskTables.{task_table_of}
use Rattle.tasks.specs.declared.TaskTable.{TaskTable}
use Rattle.tables.specs.Tables.{step_of, tables_of, Admitted, put_tasks}
use Rattle.tables.specs.Bodies.{Told}
use Rattle.tables.specs.declared.AllTables.{AllTables}
use Rattle.tables.specs.declared.made.Made.{Made}
use Rattle.subtasks.proofs.attach.served.Reads as attach_served
use Rattle.subtasks.proofs.detach.detach_verdict.Reads as detach_verdict_fn
use Rattle.subtasks.proofs.detach.served.Reads as detach_served
use Rattle.subtasks.proofs.end.end_verdict.Reads as end_verdict_fn
use Rattle.subtasks.proofs.end.served.Reads as end_served
use Rattle.subtasks.proofs.abend.served.Reads as abend_served
use Rattle.impostors.specs.Fitting.{◌⊗◌, fits-AllTables, fits-TaskTable, fits-MaybeEcb, fits-TaskNumber}
use Rattle.impostors.specs.Fitting.{fits_bool, fits_i16, fits_u16, fits_end}
use Rattle.impostors.specs.Opened.{tables_open}
use Rattle.impostors.specs.Wrong.{RuledOut, wrong_at, Heeds, heeds}
use Rattle.impostors.specs.Samples.{task}
use Rattle.impostors.specs.Answers.{retold}
use Rattle.impostors.specs.Parts.{verdict_number, goes, tasks, first, ready, ended, making}
use Rattle.impostors.proofs.OfTablesEnding.{four, one_left, task_1_alone, task_2_of_three, task_1_of_four}
use Rattle.impostors.proofs.OfTablesEnding.{task_2_of_four, task_2_of_one_left, condition_in, posted_in, left_with}
use Rattle.impostors.proofs.OfTablesEnding.{left_alone, left_waiting, ending, Ending, ended_as, end_of_1, end_of_2}

-- 2 is task 1's daughter, 3 is 2's, 4 is 3's
abbrev line : TaskTable
line = tasks (first ∷ ready 1 ∷ ready 2 ∷ ready 3 ∷ [])

-- 2 is task 1's daughter, 3 is 2's and has ended, and is not detached
abbrev one_ended : TaskTable
one_ended = tasks (first ∷ ready 1 ∷ ended 2 ∷ [])

-- ATTACH: task 1 of a fresh step, 200/150, with LPMOD 30 and a DPMOD
abbrev Asks : Type 0
Asks = AllTables × (TaskNumber × (ℕ × (ℤ × ((Option EcbNumber) × Unit {0}))))

abbrev fits-Asks : Asks → Bool
fits-Asks = fits-AllTables ⊗ fits-TaskNumber ⊗ fits_u16 ⊗ fits_i16 ⊗ fits-MaybeEcb ⊗ fits_end

abbrev asks : ℕ → Asks
asks dpmod = (tables_of start, (task 1, (30, (pos dpmod, (None, tt)))))

-- what is made by this verdict, with this LPMOD
abbrev attached_by : Verdict → ℕ → Asks → Made
attached_by v lpmod a = making v a.0 (attach_done (step_of a.0) a.1.0 lpmod a.1.1.1.0 a.1.1.1.1.0)

abbrev by_rules : Asks → Verdict
by_rules a = attach_verdict a.0.tasks.places a.1.1.0 a.1.1.1.0 a.1.1.1.1.0

abbrev priorities : ℕ → ℕ → ℕ → Told → Bool
priorities n limit dispatching o =
    eqb (place o.outcome.tables.tasks.places n).limit limit
    && eqb (place o.outcome.tables.tasks.places n).dispatching dispatching

-- the new limit is the mother's, so that DPMOD 40 makes 200/190 and not 170/170
pub attach_served_at_her_limit : RuledOut (λ k. fits-Asks) attach_served.Pre attach_served.Post
    (λ k a. attached_by (by_rules a) 0 a)
unfolding tables_open
attach_served_at_her_limit = wrong_at tt (asks 40) refl task_1_alone (priorities 2 200 190) refl refl

-- DPMOD counts for nothing: no answer fits DPMOD 40 and DPMOD 0
pub attach_served_heeds_dpmod : Heeds (λ k. fits-Asks) attach_served.Pre attach_served.Post
unfolding tables_open
attach_served_heeds_dpmod =
    heeds tt (asks 40) (asks 0) refl refl task_1_alone task_1_alone (priorities 2 170 170) refl refl

-- 106 before 101: LPMOD 256 where every place is in use
abbrev full_first : Asks → Verdict
full_first a =
    first_of
    (refuse NoTaskFree (eqb (lowest_free a.0.tasks.places) 0)
    ∷ refuse OutOfRange (not (attach_good a.1.1.0 a.1.1.1.0 a.1.1.1.1.0))
    ∷ [])

-- task 1 has a daughter in every other place
abbrev all_used : AllTables
all_used = put_tasks (tables_of start) (task_table_of (map ready (numbers 0 highest_task)))

full_admits : Admitted all_used (task 1)
unfolding tables_open
full_admits = record { sound = refl; gate = refl }

pub attach_served_106_before_101 : RuledOut (λ k. fits-Asks) attach_served.Pre attach_served.Post
    (λ k a. attached_by (full_first a) a.1.1.0 a)
unfolding tables_open
attach_served_106_before_101 =
    wrong_at tt (all_used, (task 1, (256, (pos 0, (None, tt))))) refl full_admits
    (λ o. eqb (verdict_number o.verdict) 106) refl refl

-- the number of the new task is told as an address: 2
abbrev told_as_address : Made → Made
told_as_address r = record { verdict = r.verdict; reply = retold r.reply; tables = r.tables }

pub attach_served_answers_an_address : RuledOut (λ k. fits-Asks) attach_served.Pre attach_served.Post
    (λ k a. told_as_address (attached_by (by_rules a) a.1.1.0 a))
unfolding tables_open
attach_served_answers_an_address =
    wrong_at tt (asks 0) refl task_1_alone (λ o. eqb (kind_of o.outcome.besides) 2) refl refl

-- 207 before 101: code 4,096, and 2 has a subtask
abbrev subtasks_first : List Task → TaskNumber → ℕ → Verdict
subtasks_first ts c code =
    first_of (fail HasSubtasks (has_subtasks ts c.0) ∷ refuse OutOfRange (not (end_good code)) ∷ [])

pub end_verdict_207_before_101 :
    RuledOut (λ k. fits-TaskTable ⊗ fits-TaskNumber ⊗ fits_u16 ⊗ fits_end) end_verdict_fn.Pre end_verdict_fn.Post
    (λ k a. subtasks_first a.0.places a.1.0 a.1.1.0)
unfolding tables_open
end_verdict_207_before_101 = wrong_at tt (line, (task 2, (4096, tt))) refl tt (λ v. eqb (verdict_number v) 207) refl refl

-- a subtask that has ended and is not detached does not count: 2 goes on
abbrev end_over_live : List Task → ℕ → ℕ → Verdict
end_over_live ts c code =
    first_of
    (refuse OutOfRange (not (end_good code))
    ∷ fail HasSubtasks (some (λ (x : Task). is_live x.condition && eqb x.mother.0 c) ts)
    ∷ [])

pub end_verdict_only_live_subtasks :
    RuledOut (λ k. fits-TaskTable ⊗ fits-TaskNumber ⊗ fits_u16 ⊗ fits_end) end_verdict_fn.Pre end_verdict_fn.Post
    (λ k a. end_over_live a.0.places a.1.0.0 a.1.1.0)
unfolding tables_open
end_verdict_only_live_subtasks =
    wrong_at tt (one_ended, (task 2, (0, tt))) refl tt (λ v. eqb (verdict_number v) 0) refl refl

-- DETACH of task n, with another test of who may be detached
abbrev detach_if : Bool → TaskNumber → Verdict
detach_if may n = first_of (refuse OutOfRange (not (detach_good n)) ∷ fail NotSubtask (not may) ∷ [])

-- every task below may be detached: 3, the daughter of a daughter, by task 1
pub detach_verdict_all_below :
    RuledOut (λ k. fits-TaskTable ⊗ fits-TaskNumber ⊗ fits-TaskNumber ⊗ fits_end) detach_verdict_fn.Pre detach_verdict_fn.Post
    (λ k a. detach_if (not (eqb a.1.1.0.0 a.1.0.0) && below a.0.places a.1.0.0 a.1.1.0.0)
    a.1.1.0)
unfolding tables_open
detach_verdict_all_below = wrong_at tt (line, (task 1, (task 3, tt))) refl tt (λ v. eqb (verdict_number v) 0) refl refl

-- a subtask that has ended cannot be detached: 3 by 2
abbrev live_subtask : List Task → ℕ → ℕ → Bool
live_subtask ts c n = live ts n && direct_subtask ts c n

pub detach_verdict_only_live_subtasks :
    RuledOut (λ k. fits-TaskTable ⊗ fits-TaskNumber ⊗ fits-TaskNumber ⊗ fits_end) detach_verdict_fn.Pre detach_verdict_fn.Post
    (λ k a. detach_if (live_subtask a.0.places a.1.0.0 a.1.1.0.0) a.1.1.0)
unfolding tables_open
detach_verdict_only_live_subtasks =
    wrong_at tt (one_ended, (task 2, (task 3, tt))) refl tt (λ v. eqb (verdict_number v) 208) refl refl

-- DETACH: task 1 of the four detaches 2
abbrev Detaching : Type 0
Detaching = AllTables × (TaskNumber × (TaskNumber × Unit {0}))

abbrev detach : ℕ → Detaching
detach n = (tables_of four, (task 1, (task n, tt)))

-- by the verdict of the rules, and another ending
abbrev detached_as : (Step → ℕ → Step) → Detaching → Made
detached_as f a =
    making (detach_verdict a.0.tasks.places a.1.0 a.1.1.0) a.0
    (done (f (step_of a.0) a.1.1.0.0))

-- the subtask ends as by ABEND with code 0: its ECB is posted and its place is kept
pub detach_served_and_posted :
    RuledOut (λ k. fits-AllTables ⊗ fits-TaskNumber ⊗ fits-TaskNumber ⊗ fits_end)
    detach_served.Pre detach_served.Post
    (λ k a. detached_as (λ s n. ended_of s n 0) a)
unfolding tables_open
detach_served_and_posted =
    wrong_at tt (detach 2) refl task_1_of_four (λ r. posted_in r.outcome.tables 10 0) refl refl

-- whoever is below the caller may be detached
abbrev below_verdict : Detaching → Verdict
below_verdict a =
    first_of
    (refuse OutOfRange (not (detach_good a.1.1.0))
    ∷ fail NotSubtask (not (below a.0.tasks.places a.1.0.0 a.1.1.0.0))
    ∷ [])

-- 3, a daughter of 2, is detached by task 1
pub detach_served_further_down :
    RuledOut (λ k. fits-AllTables ⊗ fits-TaskNumber ⊗ fits-TaskNumber ⊗ fits_end)
    detach_served.Pre detach_served.Post
    (λ k a. making (below_verdict a) a.0 (done (detached (step_of a.0) a.1.1.0.0)))
unfolding tables_open
detach_served_further_down = wrong_at tt (detach 3) refl task_1_of_four (λ r. goes r.verdict) refl refl

-- the subtask goes alone: 3, below 2, stays
pub detach_served_alone :
    RuledOut (λ k. fits-AllTables ⊗ fits-TaskNumber ⊗ fits-TaskNumber ⊗ fits_end)
    detach_served.Pre detach_served.Post
    (λ k a. detached_as (λ s n. left_alone s n no_task) a)
unfolding tables_open
detach_served_alone =
    wrong_at tt (detach 2) refl task_1_of_four (λ r. is_live (condition_in r.outcome.tables 3)) refl refl

-- 4, whom the entry of 3 held back, waits on
pub detach_served_others_wait_on :
    RuledOut (λ k. fits-AllTables ⊗ fits-TaskNumber ⊗ fits-TaskNumber ⊗ fits_end)
    detach_served.Pre detach_served.Post
    (λ k a. detached_as (λ s n. left_waiting s n no_task) a)
unfolding tables_open
detach_served_others_wait_on =
    wrong_at tt (detach 2) refl task_1_of_four (λ r. in_resource_wait (condition_in r.outcome.tables 4)) refl refl

-- END: a verdict and an ending
abbrev by_end : Verdict → (Step → ℕ → ℕ → Step) → Ending → Made
by_end v f a = making v a.0 (done (ended_as f a))

-- by another test of subtasks
abbrev unless_has : (Task → Bool) → Ending → Verdict
unless_has is_one a =
    first_of
    (refuse OutOfRange (not (end_good a.1.1.0))
    ∷ fail HasSubtasks (some is_one a.0.tasks.places)
    ∷ [])

-- subtasks do not stand in the way: 2, who has a daughter, ends
pub end_served_with_subtasks :
    RuledOut (λ k. fits-AllTables ⊗ fits-TaskNumber ⊗ fits_u16 ⊗ fits_end)
    end_served.Pre end_served.Post
    (λ k a. by_end (unless_has (λ y. false) a) ended_of a)
unfolding tables_open
end_served_with_subtasks = wrong_at tt end_of_2 refl task_2_of_three (λ r. goes r.verdict) refl refl

-- only live subtasks stand in the way: 2 ends, whose daughter has ended and is not detached
pub end_served_with_ended_subtasks :
    RuledOut (λ k. fits-AllTables ⊗ fits-TaskNumber ⊗ fits_u16 ⊗ fits_end)
    end_served.Pre end_served.Post
    (λ k a. by_end (unless_has (λ y. is_live y.condition && is_subtask_of a.1.0.0 y) a) ended_of a)
unfolding tables_open
end_served_with_ended_subtasks =
    wrong_at tt (tables_of one_left, (task 2, (7, tt))) refl task_2_of_one_left (λ r. goes r.verdict) refl refl

-- the end of task 1 does not end the step
pub end_served_but_the_step :
    RuledOut (λ k. fits-AllTables ⊗ fits-TaskNumber ⊗ fits_u16 ⊗ fits_end)
    end_served.Pre end_served.Post
    (λ k a. by_end (end_verdict a.0.tasks.places a.1.0 a.1.1.0) (ending left_with) a)
unfolding tables_open
end_served_but_the_step = wrong_at tt end_of_1 refl task_1_alone (λ r. not r.outcome.tables.over) refl refl

-- ABEND: 2 of the four, with code 7, with or without STEP
abbrev Abending : Type 0
Abending = AllTables × (TaskNumber × (ℕ × (Bool × Unit {0})))

abbrev abend : Bool → Abending
abend step = (tables_of four, (task 2, (7, (step, tt))))

abbrev task_ended : Abending → Step
task_ended a = ended_of (step_of a.0) a.1.0.0 a.1.1.0

-- STEP is not looked at: 2 ends, and the step goes on
pub abend_served_but_the_step :
    RuledOut (λ k. fits-AllTables ⊗ fits-TaskNumber ⊗ fits_u16 ⊗ fits_bool ⊗ fits_end)
    abend_served.Pre abend_served.Post
    (λ k a. making (abend_verdict a.1.1.0) a.0 (done (task_ended a)))
unfolding tables_open
abend_served_but_the_step = wrong_at tt (abend true) refl task_2_of_four (λ r. not r.outcome.tables.over) refl refl

-- without STEP too the step ends
pub abend_served_always_the_step :
    RuledOut (λ k. fits-AllTables ⊗ fits-TaskNumber ⊗ fits_u16 ⊗ fits_bool ⊗ fits_end)
    abend_served.Pre abend_served.Post
    (λ k a. making (abend_verdict a.1.1.0) a.0 (done (over_step a.1.1.0)))
unfolding tables_open
abend_served_always_the_step = wrong_at tt (abend false) refl task_2_of_four (λ r. r.outcome.tables.over) refl refl

-- subtasks stand in the way, as they do of END
pub abend_served_not_with_subtasks :
    RuledOut (λ k. fits-AllTables ⊗ fits-TaskNumber ⊗ fits_u16 ⊗ fits_bool ⊗ fits_end)
    abend_served.Pre abend_served.Post
    (λ k a. making (end_verdict a.0.tasks.places a.1.0 a.1.1.0) a.0
    (done (pick a.1.1.1.0 (over_step a.1.1.0) (task_ended a))))
unfolding tables_open
abend_served_not_with_subtasks = wrong_at tt (abend false) refl task_2_of_four (λ r. not (goes r.verdict)) refl refl

-- whoever does not look at STEP: no answer fits ABEND with it and without it
pub abend_served_heeds_step :
    Heeds (λ k. fits-AllTables ⊗ fits-TaskNumber ⊗ fits_u16 ⊗ fits_bool ⊗ fits_end)
    abend_served.Pre abend_served.Post
unfolding tables_open
abend_served_heeds_step =
    heeds tt (abend true) (abend false) refl refl task_2_of_four task_2_of_four (λ r. r.outcome.tables.over) refl
    refl
