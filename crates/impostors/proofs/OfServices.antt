-- Wrong answers that the contracts of `services` rule out. Each is right but for one
-- thing: 100, the gate, the numbers and the tables are those of the rules wherever the
-- mistake doesn't show. Whole services that are wrong stand in Impostors and Slips.
use Prim.Native.Nat.{ℕ, ◌+◌, ◌-◌, ◌*◌, ◌/◌}
use mathlib.Core.Path.{◌≡◌, refl, ap, ◌∙◌}
use mathlib.Core.Bool.{Bool, true, false, not, cond, ◌&&◌, ◌||◌}
use mathlib.Core.List.{List, [], ◌∷◌, ◌++◌, map}
use lib.Dec.{eqb, ltb}
use lib.IntN.{ℤ, pos}
use lib.ListN.{length, get_or, set, take, replicate}
use denote.Ref.{MutBor, at_last}
use Rattle.lists.specs.Lists.{some, keep, numbers, gathered, every}
use Rattle.lists.specs.Pick.{pick, pick_true}
use Rattle.kinds.specs.Limits.{highest_task, most_entries, region, doubleword, name_area}
use Rattle.kinds.specs.Ranges.{end_code_good, priority_good}
use Rattle.kinds.specs.Replies.{value_of, number_of, reply_of}
use Rattle.kinds.specs.Replies.Besides.{TheNumber, TheCount}
use Rattle.kinds.specs.Tasks.{no_task, is_free, is_ready, in_resource_wait}
use Rattle.kinds.specs.declared.numbers.TaskNumber.{TaskNumber}
use Rattle.kinds.specs.declared.numbers.EcbNumber.{EcbNumber}
use Rattle.kinds.specs.declared.numbers.Address.{Address}
use Rattle.kinds.specs.declared.areas.Area.{Area}
use Rattle.std.specs.Prelude.{Option, Ok, Err}
use Rattle.std.specs.Prelude.{None as NoEcb}
use Rattle.kinds.specs.Replies.{Verdict, Gate}
use Rattle.kinds.specs.declared.names.NameList.{NameList}
use Rattle.kinds.specs.declared.ecbs.EcbList.{EcbList}
use Rattle.kinds.specs.declared.requests.Request.{Request}
use Rattle.kinds.specs.declared.requests.Request.TheVariants.{Attach, End, Enq, Getmain}
use Rattle.kinds.specs.declared.requests.Ret.{Ret}
use Rattle.kinds.specs.declared.requests.Ret.TheVariants.{None, Test, Have}
use Rattle.kinds.specs.declared.requests.DeqRet.{DeqRet}
use Rattle.kinds.specs.declared.requests.DeqRet.TheVariants.{None as DeqNone, Have as DeqHave}
use Rattle.kinds.specs.declared.replies.Refusal.TheVariants.{OutOfRange}
use Rattle.kinds.specs.declared.replies.Fault.TheVariants.{NotSubtask, NoSuchArea}
use Rattle.names.specs.Named.{names_in}
use Rattle.ecbs.specs.Blocks.{ecbs_in}
use Rattle.kinds.specs.declared.replies.Reply.TheVariants.{Refused}
use Rattle.kinds.specs.declared.replies.Refusal.TheVariants.{ShortArea}
use Rattle.rules.specs.Names as asked
use Rattle.rules.specs.Names.{Resource, Ask, Names, names_of as resources, legal}
use Rattle.rules.specs.Control.{Entry}
use Rattle.rules.specs.Rings.{waits_for, leads_by, tasks_queued, stuck as stuck_of}
use Rattle.rules.specs.Reports.{StuckTask, first_stuck_at, stuck_item, standing, queues_of, queue_item, ItemList, itemised}
use Rattle.rules.specs.Reports.{stuck_list, queues_list, report_gate, reported, report_of, stuck_report}
use Rattle.rules.specs.Reports.{queues_report}
use Rattle.rules.specs.Family.{place, with_place, condition_of, below}
use Rattle.rules.specs.Steps.{Step, Outcome, Served, done, done_with, refused, kept_by, over_step, with_tasks, with_queue}
use Rattle.rules.specs.Steps.{with_ecbs, with_areas, untouched}
use Rattle.rules.specs.Table.{named, shr, exc}
use Rattle.rules.specs.SystemCases.{beginning, sysdsn, sysdsn_with}
use Rattle.rules.specs.Alike.{kind_of}
use Rattle.rules.specs.Tests.{refuse, fail, first_of}
use Rattle.rules.specs.Admission.{gate_of, open_gate, through, settled, codes_through}
use Rattle.rules.specs.Codes.{written_on}
use Rattle.rules.specs.Ending.{left_by}
use Rattle.rules.specs.Events.{Ecbs, ecb_at, posted}
use Rattle.rules.specs.ResourceWaits.{requeued}
use Rattle.rules.specs.Attach.{attach_body, attach_of}
use Rattle.rules.specs.Detach.{detach_good, detach_done, detach_of}
use Rattle.rules.specs.End.{end_good, end_done, end_of}
use Rattle.rules.specs.Abend.{abend_verdict}
use Rattle.rules.specs.Enq.{entry_for, enq_codes, enq_verdict, enq_of}
use Rattle.rules.specs.Deq.{released, deq_verdict, deq_of}
use Rattle.rules.specs.Wait.{wait_of}
use Rattle.rules.specs.Post.{post_verdict, post_of}
use Rattle.rules.specs.Clear.{clear_good, clear_done, clear_of}
use Rattle.rules.specs.Storage.{start_of, one_holder, area_at, lowest_from}
use Rattle.rules.specs.Getmain.{wanted, given, getmain_verdict, getmain_of}
use Rattle.rules.specs.Freemain.{freemain_good, freemain_of}
use Rattle.rules.specs.Dispatch.{dispatch_of}
use Rattle.rules.specs.Sound.{sound_step}
use Rattle.rules.specs.Fresh.{fresh_step}
use Rattle.rules.specs.Serve.{service_of}
use Rattle.history.specs.Samples.{start, x, y}
use Rattle.tables.specs.Tables.{put_queue, sound_tables}
use Rattle.tables.specs.Tables as all
use Rattle.services.specs.Kept.{in_tables, step_of, tables_of, soundb, answered, answered_with, said_with, served_by}
use Rattle.services.specs.declared.Tables.{Tables}
use Rattle.services.specs.declared.Answer.{Answer}
use Rattle.services.proofs.Tables.sound.Reads as sound
use Rattle.services.proofs.Tables.fresh.Reads as fresh
use Rattle.services.proofs.Tables.dispatch.Reads as dispatch
use Rattle.services.proofs.Tables.attach.Reads as attach
use Rattle.services.proofs.Tables.detach.Reads as detach
use Rattle.services.proofs.Tables.end.Reads as end
use Rattle.services.proofs.Tables.abend.Reads as abend
use Rattle.services.proofs.Tables.enq.Reads as enq
use Rattle.services.proofs.Tables.deq.Reads as deq
use Rattle.services.proofs.Tables.wait.Reads as wait
use Rattle.services.proofs.Tables.post.Reads as post
use Rattle.services.proofs.Tables.clear.Reads as clear
use Rattle.services.proofs.Tables.getmain.Reads as getmain
use Rattle.services.proofs.Tables.freemain.Reads as freemain
use Rattle.services.proofs.Tables.serve.Reads as serve
use Rattle.services.proofs.Tables.stuck.Reads as stuck
use Rattle.services.proofs.Tables.queues.Reads as queues
use Rattle.lists.specs.Tables.{padded}
use Rattle.laws.specs.NamesAfter.{entry_names}
use Rattle.laws.specs.RenamedSteps.{re_step}
use Rattle.namearea.specs.Areas.{area_of, holds}
use Rattle.namearea.specs.Firsts.{is_in}
use Rattle.namearea.specs.Naming.{point_to}
use Rattle.queue.specs.Queues.{zero_slot}
use Rattle.queue.specs.Pointing.{offsets_in}
use Rattle.rules.specs.Examples.{filled}
use Rattle.services.proofs.Names.{sound_kept, step_tables}
use Rattle.namearea.specs.Scanning.{area_for}
use Rattle.impostors.specs.Fitting.{◌⊗◌, fits_bool, fits_end, fits_i16, fits_mut_lent, fits_u16, fits_u32, fits_u8}
use Rattle.impostors.specs.Fitting.{fits-Address, fits-DeqRet, fits-EcbList, fits-EcbNumber, fits-MaybeEcb}
use Rattle.impostors.specs.Fitting.{fits-NameList, fits-Request, fits-Ret, fits-Tables, fits-TaskNumber}
use Rattle.impostors.specs.Opened.{tables_open}
use Rattle.impostors.specs.Wrong.{told_apart, RuledOut, wrong_at, RuledOutWith, wrong_with, Heeds, heeds}
use Rattle.impostors.specs.Samples.{Asking, task, ecb, names_of, ecbs_of, after, one_daughter, two_generations}
use Rattle.impostors.specs.Samples.{with_ecb, daughter_owns, owned, awaited, shares_and_owns, z, posted_once, waited_on}
use Rattle.impostors.specs.Samples.{one_area, both_asked}
use Rattle.impostors.specs.Samples.{ring_of_two, behind_another, shared_ahead, ring_of_last}
use Rattle.impostors.specs.Parts.{mut_lent, address, last_best, incomplete}
use Rattle.impostors.specs.Impostors.{by_service}
use Rattle.impostors.specs.Answers.{answer_of, answering, but, but_served, retelling, coding, reporting}
use Rattle.impostors.specs.Verdicts.{Judge, keeping_off, never110, first_only, two_bytes, in_minor_too, by_name}
use Rattle.impostors.specs.Verdicts.{unless_test, after104, before101, short_first, deq_keeping_off}
use Rattle.impostors.specs.Verdicts.{enq_judged, deq_judged}
use Rattle.impostors.specs.Haves.{Doing, all_or_nothing, skipped_queued, skips_nothing, last_first}
use Rattle.impostors.specs.Haves.{skipped_made_exclusive, never_waits, answers_zero, enq_doing, full_by, whole_list}
use Rattle.impostors.specs.Haves.{none_free}

-- the tables after a run from a fresh step
abbrev tables : List Asking → Tables
tables l = tables_of (after start l)

-- task n is in a resource wait; is ready
abbrev waits : ℕ → Tables → Bool
waits n t = in_resource_wait (condition_of t.all.tasks.places n)

abbrev runs : ℕ → Tables → Bool
runs n t = is_ready (condition_of t.all.tasks.places n)

-- WHAT IS GIVEN to the services of many parameters, and that it fits
abbrev Attaches : Type 0
Attaches = Tables × (TaskNumber × (ℕ × (ℤ × ((Option EcbNumber) × Unit {0}))))

abbrev fits-Attaches : Attaches → Bool
fits-Attaches = fits-Tables ⊗ fits-TaskNumber ⊗ fits_u16 ⊗ fits_i16 ⊗ fits-MaybeEcb ⊗ fits_end

abbrev Coded : Type 0 → Type 0
Coded R = Tables × (TaskNumber × (R × (NameList × (MutBor (List ℕ) × Unit {0}))))

abbrev fits-Coded : {R : Type 0} → (R → Bool) → Coded R → Bool
fits-Coded ret = fits-Tables ⊗ fits-TaskNumber ⊗ ret ⊗ fits-NameList ⊗ fits_mut_lent ⊗ fits_end

abbrev Gets : Type 0
Gets = Tables × (TaskNumber × (ℕ × (ℕ × (Bool × Unit {0}))))

abbrev fits-Gets : Gets → Bool
fits-Gets = fits-Tables ⊗ fits-TaskNumber ⊗ fits_u32 ⊗ fits_u8 ⊗ fits_bool ⊗ fits_end

abbrev Frees : Type 0
Frees = Tables × (TaskNumber × (Address × (ℕ × (ℕ × Unit {0}))))

abbrev fits-Frees : Frees → Bool
fits-Frees = fits-Tables ⊗ fits-TaskNumber ⊗ fits-Address ⊗ fits_u32 ⊗ fits_u8 ⊗ fits_end

abbrev Serves : Type 0
Serves = Tables × (Request × (NameList × (EcbList × (MutBor (List ℕ) × Unit {0}))))

abbrev fits-Serves : Serves → Bool
fits-Serves = fits-Tables ⊗ fits-Request ⊗ fits-NameList ⊗ fits-EcbList ⊗ fits_mut_lent ⊗ fits_end

-- what a service does for a caller that the gate lets through
abbrev behind_gate : Step → TaskNumber → Verdict → Outcome Step → Outcome Step
behind_gate s c v o = through (gate_of s c) s (settled v s c o)

-- SOUND

-- only the step is judged, and not how the tables keep it: an entry stands behind the count of the queue
pub sound_behind_the_count : RuledOut (λ k. fits-Tables ⊗ fits_end) sound.Pre sound.Post
    (λ k a. sound_step (step_of a.0))
unfolding tables_open
sound_behind_the_count =
    wrong_at tt (
      in_tables (put_queue (tables owned).all (record { slots = (tables owned).all.queue.slots; count = 0 }))
          (tables owned).names.bytes,
      tt,
    )
    refl tt (λ b. b) refl refl

-- of a step that is over only the code is looked at: it has tasks
pub sound_over_with_tasks : RuledOut (λ k. fits-Tables ⊗ fits_end) sound.Pre sound.Post
    (λ k a. cond a.0.all.over (end_code_good a.0.all.code) (soundb a.0))
unfolding tables_open
sound_over_with_tasks =
    wrong_at tt
    (tables_of (record { over = true; code = 0; tasks = start.tasks; queue = []; ecbs = start.ecbs; areas = [] }), tt)
    refl tt (λ b. b) refl refl

-- names are not judged: a minor part may be empty
abbrev names_unjudged : Tables → Bool
names_unjudged t = sound_tables t.all && holds t.names (offsets_in t.all.queue)

pub sound_with_an_empty_name : RuledOut (λ k. fits-Tables ⊗ fits_end) sound.Pre sound.Post (λ k a. names_unjudged a.0)
unfolding tables_open
sound_with_an_empty_name =
    wrong_at tt (tables_of (with_queue start (entry_for 1 (exc (named 88 [])) ∷ [])), tt) refl tt (λ b. b) refl refl

-- an entry may be for a system name: of names only the lengths are looked at
pub sound_with_a_system_name : RuledOut (λ k. fits-Tables ⊗ fits_end) sound.Pre sound.Post
    (λ k a. names_unjudged a.0 && every legal (entry_names (step_of a.0).queue))
unfolding tables_open
sound_with_a_system_name =
    wrong_at tt (tables_of (with_queue start (entry_for 1 (exc sysdsn) ∷ [])), tt) refl tt (λ b. b) refl refl

-- the name area is not looked at: a byte is left in that of a step that has no entry
pub sound_with_a_byte_left : RuledOut (λ k. fits-Tables ⊗ fits_end) sound.Pre sound.Post
    (λ k a. sound_tables a.0.all)
unfolding tables_open
sound_with_a_byte_left =
    wrong_at tt (in_tables (tables_of start).all (padded name_area 0 (1 ∷ [])), tt) refl tt (λ b. b) refl refl

-- FRESH START

-- that dispatching is not above limit is not tested
abbrev fresh_anyhow : ℕ → ℕ → Outcome Step
fresh_anyhow limit dispatching =
    pick (not (priority_good limit && priority_good dispatching)) (refused OutOfRange (over_step 0))
    (done (fresh_step limit dispatching))

pub fresh_above_the_limit : RuledOut (λ k. fits_u16 ⊗ fits_u16 ⊗ fits_end) fresh.Pre fresh.Post
    (λ k a. answer_of (kept_by tables_of (fresh_anyhow a.0 a.1.0)))
unfolding tables_open
fresh_above_the_limit = wrong_at tt (100, (101, tt)) refl tt (λ o. eqb o.number 0) refl refl

-- the dispatching priority counts for nothing: no answer fits 100/100 and 100/101
pub fresh_heeds_dispatching : Heeds (λ k. fits_u16 ⊗ fits_u16 ⊗ fits_end) fresh.Pre fresh.Post
unfolding tables_open
fresh_heeds_dispatching =
    heeds tt (100, (100, tt)) (100, (101, tt)) refl refl tt tt (λ o. eqb o.number 0) refl refl

-- DISPATCH

-- nobody is chosen, although task 1 is ready
pub dispatch_answers_0 : RuledOut (λ k. fits-Tables ⊗ fits_end) dispatch.Pre dispatch.Post
    (λ k a. answering a.0 (λ s. through (open_gate s) s (done_with (TheNumber (task 0)) s)))
unfolding tables_open
dispatch_answers_0 = wrong_at tt (tables_of start, tt) refl tt (λ o. eqb (value_of o.besides) 0) refl refl

-- the highest number among equals: 2 and not 1, which both have 150
pub dispatch_the_last_among_equals : RuledOut (λ k. fits-Tables ⊗ fits_end) dispatch.Pre dispatch.Post
    (λ k a. answering a.0 (λ s. through (open_gate s) s (done_with (TheNumber (task (last_best s.tasks))) s)))
unfolding tables_open
dispatch_the_last_among_equals =
    wrong_at tt (tables one_daughter, tt) refl tt (λ o. eqb (value_of o.besides) 2) refl refl

-- the number of the task is told as that of a new one: 1
pub dispatch_answers_a_new_number : RuledOut (λ k. fits-Tables ⊗ fits_end) dispatch.Pre dispatch.Post
    (λ k a. answering a.0 (λ s. retelling (dispatch_of s)))
unfolding tables_open
dispatch_answers_a_new_number =
    wrong_at tt (tables_of start, tt) refl tt (λ o. eqb (kind_of o.besides) 1) refl refl

-- ATTACH

-- there is no gate: 2, which waits for x, attaches
pub attach_with_no_gate : RuledOut (λ k. fits-Attaches) attach.Pre attach.Post
    (λ k a. answering a.0 (λ s. attach_body s a.1.0 a.1.1.0 a.1.1.1.0 a.1.1.1.1.0))
unfolding tables_open
attach_with_no_gate =
    wrong_at tt (tables awaited, (task 2, (0, (pos 0, (NoEcb, tt))))) refl tt (λ o. eqb o.number 0) refl refl

-- LPMOD counts for nothing: no answer fits LPMOD 30 and LPMOD 0
abbrev with_lpmod : ℕ → Attaches
with_lpmod n = (tables_of start, (task 1, (n, (pos 0, (NoEcb, tt)))))

pub attach_heeds_lpmod : Heeds (λ k. fits-Attaches) attach.Pre attach.Post
unfolding tables_open
attach_heeds_lpmod =
    heeds tt (with_lpmod 30) (with_lpmod 0) refl refl tt tt
    (λ o. eqb (place o.tables.all.tasks.places 2).limit 170) refl refl

-- the number of the new task is told as an address: 2
pub attach_answers_an_address : RuledOut (λ k. fits-Attaches) attach.Pre attach.Post
    (λ k a. answering a.0 (λ s. retelling (attach_of s a.1.0 a.1.1.0 a.1.1.1.0 a.1.1.1.1.0)))
unfolding tables_open
attach_answers_an_address =
    wrong_at tt (with_lpmod 0) refl tt (λ o. eqb (kind_of o.besides) 2) refl refl

-- DETACH

-- every task below may be detached: 3, the daughter of 2, by 1
abbrev detach_below : Step → TaskNumber → TaskNumber → Outcome Step
detach_below s c n =
    behind_gate s c
    (first_of
    (refuse OutOfRange (not (detach_good n))
    ∷ fail NotSubtask (eqb n.0 c.0 || not (below s.tasks c.0 n.0))
    ∷ []))
    (detach_done s n)

pub detach_of_a_granddaughter :
    RuledOut (λ k. fits-Tables ⊗ fits-TaskNumber ⊗ fits-TaskNumber ⊗ fits_end) detach.Pre detach.Post
    (λ k a. answering a.0 (λ s. detach_below s a.1.0 a.1.1.0))
unfolding tables_open
detach_of_a_granddaughter =
    wrong_at tt (tables two_generations, (task 1, (task 3, tt))) refl tt (λ o. eqb o.number 0) refl refl

-- the queue stays as it was: 2 owned x, and is detached
pub detach_leaves_the_entries :
    RuledOut (λ k. fits-Tables ⊗ fits-TaskNumber ⊗ fits-TaskNumber ⊗ fits_end) detach.Pre detach.Post
    (λ k a. answering a.0 (λ s. but (detach_of s a.1.0 a.1.1.0) (λ u. with_queue u s.queue)))
unfolding tables_open
detach_leaves_the_entries =
    wrong_at tt (tables daughter_owns, (task 1, (task 2, tt))) refl tt (λ o. eqb o.tables.all.queue.count 1) refl
    refl

-- END

-- there is no 207: 2 ends, and has a daughter
pub end_with_a_subtask : RuledOut (λ k. fits-Tables ⊗ fits-TaskNumber ⊗ fits_u16 ⊗ fits_end) end.Pre end.Post
    (λ k a. answering a.0 (λ s. behind_gate s a.1.0
    (first_of (refuse OutOfRange (not (end_good a.1.1.0)) ∷ [])) (end_done s a.1.0 a.1.1.0)))
unfolding tables_open
end_with_a_subtask = wrong_at tt (tables two_generations, (task 2, (0, tt))) refl tt (λ o. eqb o.number 0) refl refl

-- no ECB is posted: 2 was attached with ECB 0
pub end_posts_nothing : RuledOut (λ k. fits-Tables ⊗ fits-TaskNumber ⊗ fits_u16 ⊗ fits_end) end.Pre end.Post
    (λ k a. answering a.0 (λ s. but (end_of s a.1.0 a.1.1.0) (λ u. with_ecbs u s.ecbs)))
unfolding tables_open
end_posts_nothing =
    wrong_at tt (tables with_ecb, (task 2, (7, tt))) refl tt
    (λ o. not (ecb_at o.tables.all.ecbs.ecbs 0).complete) refl refl

-- ABEND

-- STEP counts for nothing: no answer fits both of 2's
pub abend_heeds_step : Heeds (λ k. fits-Tables ⊗ fits-TaskNumber ⊗ fits_u16 ⊗ fits_bool ⊗ fits_end) abend.Pre abend.Post
unfolding tables_open
abend_heeds_step =
    heeds tt (tables one_daughter, (task 2, (0, (true, tt)))) (tables one_daughter, (task 2, (0, (false, tt)))) refl refl
    tt tt
    (λ o. o.tables.all.over) refl refl

-- the caller ends alone: 3, the daughter of 2, stays
abbrev abend_alone : Step → TaskNumber → ℕ → Bool → Outcome Step
abend_alone s c code step =
    behind_gate s c (abend_verdict code)
    (pick step (done (over_step code)) (done (left_by s (with_place s.tasks c.0 no_task))))

pub abend_leaves_the_daughters :
    RuledOut (λ k. fits-Tables ⊗ fits-TaskNumber ⊗ fits_u16 ⊗ fits_bool ⊗ fits_end) abend.Pre abend.Post
    (λ k a. answering a.0 (λ s. abend_alone s a.1.0 a.1.1.0 a.1.1.1.0))
unfolding tables_open
abend_leaves_the_daughters =
    wrong_at tt (tables two_generations, (task 2, (0, (false, tt)))) refl tt
    (λ o. not (is_free (condition_of o.tables.all.tasks.places 3))) refl refl

-- ENQ

-- no task comes to wait: 2 asks for what 1 owns, and goes on
pub enq_goes_on_without_control : RuledOutWith (λ k. fits-Coded fits-Ret) enq.Pre enq.Post
    (λ k a. coding a (λ s area.
    but_served (enq_of s a.1.0 a.1.1.0 (names_in a.1.1.1.0) area) (λ u. with_tasks u s.tasks)))
unfolding tables_open
enq_goes_on_without_control =
    wrong_with ([], tt) (tables owned, (task 2, (None, (names_of (exc x ∷ []), (mut_lent [], tt))))) refl tt
    (λ o. not (waits 2 o.outcome.tables)) refl refl

-- codes are written under every RET kind: NONE for x
abbrev enq_writes : Step → TaskNumber → Ret → Names → List ℕ → Served Step
enq_writes s c ret l area = record {
  outcome = (enq_of s c ret l area).outcome;
  codes =
      codes_through (gate_of s c) (enq_verdict s.queue c ret l (length area)) area
      (written_on (enq_codes ret s.queue c.0 l) area);
}

pub enq_writes_codes_under_none : RuledOutWith (λ k. fits-Coded fits-Ret) enq.Pre enq.Post
    (λ k a. coding a (λ s area. enq_writes s a.1.0 a.1.1.0 (names_in a.1.1.1.0) area))
unfolding tables_open
enq_writes_codes_under_none =
    wrong_with ([], tt) (tables_of start, (task 1, (None, (names_of (exc x ∷ []), (mut_lent (238 ∷ []), tt))))) refl tt
    (λ o. eqb (get_or o.codes 0 238) 0) refl refl

-- system names, document 02 §2: ENQ by a verdict that is wrong in one of the ways of Verdicts. On a fresh step task 1
-- asks for these names, with these bytes as codes area.
abbrev enq_by : Judge Ret → Coded Ret → Answer × Coded Ret
enq_by f a = coding a (λ s area. enq_judged f s a.1.0 a.1.1.0 (names_in a.1.1.1.0) area)

abbrev asking : Ret → List Ask → List ℕ → Coded Ret
asking ret l area = (tables_of start, (task 1, (ret, (names_of l, (mut_lent area, tt)))))

-- there is no 110: a system name is queued, as document 01 alone would have it
pub enq_no_110 : RuledOutWith (λ k. fits-Coded fits-Ret) enq.Pre enq.Post (λ k a. enq_by (keeping_off never110) a)
unfolding tables_open
enq_no_110 =
    wrong_with ([], tt) (asking None (exc sysdsn ∷ []) []) refl tt
    (λ o. eqb o.outcome.tables.all.queue.count 1) refl
    refl

-- TEST for a system name, with no codes area, is 104
pub enq_110_after_104 : RuledOutWith (λ k. fits-Coded fits-Ret) enq.Pre enq.Post (λ k a. enq_by after104 a)
unfolding tables_open
enq_110_after_104 =
    wrong_with ([], tt) (asking Test (shr sysdsn ∷ []) []) refl tt (λ o. eqb o.outcome.number 104) refl refl

-- TEST for x twice, with no codes area, is 104
pub enq_104_before_101 : RuledOutWith (λ k. fits-Coded fits-Ret) enq.Pre enq.Post (λ k a. enq_by short_first a)
unfolding tables_open
enq_104_before_101 =
    wrong_with ([], tt) (asking Test (exc x ∷ exc x ∷ []) []) refl tt (λ o. eqb o.outcome.number 104) refl refl

-- NONE for a system name without a minor part is 110
pub enq_110_before_101 : RuledOutWith (λ k. fits-Coded fits-Ret) enq.Pre enq.Post (λ k a. enq_by before101 a)
unfolding tables_open
enq_110_before_101 =
    wrong_with ([], tt) (asking None (exc (sysdsn_with []) ∷ []) []) refl tt (λ o. eqb o.outcome.number 110) refl
    refl

-- only the first name is looked at: a system name is queued behind x
pub enq_first_name_only : RuledOutWith (λ k. fits-Coded fits-Ret) enq.Pre enq.Post
    (λ k a. enq_by (keeping_off first_only) a)
unfolding tables_open
enq_first_name_only =
    wrong_with ([], tt) (asking None (exc x ∷ exc sysdsn ∷ []) []) refl tt (λ o. eqb o.outcome.number 0) refl refl

-- only two bytes are compared: E2 E8 E3 is refused
pub enq_two_bytes_compared : RuledOutWith (λ k. fits-Coded fits-Ret) enq.Pre enq.Post
    (λ k a. enq_by (keeping_off (by_name two_bytes)) a)
unfolding tables_open
enq_two_bytes_compared =
    wrong_with ([], tt) (asking None (exc (beginning (0xE2 ∷ 0xE8 ∷ 0xE3 ∷ [])) ∷ []) []) refl tt
    (λ o. eqb o.outcome.number 110) refl refl

-- the bytes are looked for in the minor part too: x's major part with E2 E8 E2 is refused
pub enq_in_the_minor_part : RuledOutWith (λ k. fits-Coded fits-Ret) enq.Pre enq.Post
    (λ k a. enq_by (keeping_off (by_name in_minor_too)) a)
unfolding tables_open
enq_in_the_minor_part =
    wrong_with ([], tt) (asking None (exc (named 88 (0xE2 ∷ 0xE8 ∷ 0xE2 ∷ [])) ∷ []) []) refl tt
    (λ o. eqb o.outcome.number 110) refl refl

-- TEST lets a system name pass: 0, and the code 0
pub enq_test_passes : RuledOutWith (λ k. fits-Coded fits-Ret) enq.Pre enq.Post
    (λ k a. enq_by (keeping_off unless_test) a)
unfolding tables_open
enq_test_passes =
    wrong_with ([], tt) (asking Test (shr sysdsn ∷ []) (238 ∷ [])) refl tt (λ o. eqb (get_or o.codes 0 238) 0) refl
    refl

-- HAVE, document 02 §3: ENQ that does what is wrong in one of the ways of Haves. 1 shares x, 2 owns y, and 1 asks for x
-- exclusive, for y, and for z: the codes are 8, 0 and 0, and it waits for y.
abbrev enq_having : Doing → Coded Ret → Answer × Coded Ret
enq_having f a = coding a (λ s area. enq_doing f s a.1.0 a.1.1.0 (names_in a.1.1.1.0) area)

abbrev asks_mixed : Coded Ret
asks_mixed =
    (tables shares_and_owns, (task 1, (Have, (names_of (exc x ∷ exc y ∷ shr z ∷ []), (mut_lent (238 ∷ 238 ∷ 238 ∷ []), tt)))))

-- so many entries are queued
abbrev many : ℕ → Served Tables → Bool
many n o = eqb o.outcome.tables.all.queue.count n

-- the entry behind n others
abbrev entry_behind : ℕ → Served Tables → Entry
entry_behind n o = get_or (step_of o.outcome.tables).queue n (entry_for 0 (exc x))

-- the first byte of its name
abbrev first_byte_behind : ℕ → Served Tables → ℕ
first_byte_behind n o =
    let t = o.outcome.tables in
    get_or t.names.bytes (get_or t.all.queue.slots n zero_slot).name.0 0

-- all or nothing, as document 01 alone would have it: no entry comes
pub enq_have_all_or_nothing : RuledOutWith (λ k. fits-Coded fits-Ret) enq.Pre enq.Post (λ k a. enq_having all_or_nothing a)
unfolding tables_open
enq_have_all_or_nothing = wrong_with ([], tt) asks_mixed refl tt (many 2) refl refl

-- the skipped are queued, and the others left out: one entry comes
pub enq_have_queues_the_skipped : RuledOutWith (λ k. fits-Coded fits-Ret) enq.Pre enq.Post
    (λ k a. enq_having skipped_queued a)
unfolding tables_open
enq_have_queues_the_skipped = wrong_with ([], tt) asks_mixed refl tt (many 3) refl refl

-- nothing is skipped: three entries come
pub enq_have_skips_nothing : RuledOutWith (λ k. fits-Coded fits-Ret) enq.Pre enq.Post (λ k a. enq_having skips_nothing a)
unfolding tables_open
enq_have_skips_nothing = wrong_with ([], tt) asks_mixed refl tt (many 5) refl refl

-- list order is lost: z comes before y
pub enq_have_last_first : RuledOutWith (λ k. fits-Coded fits-Ret) enq.Pre enq.Post (λ k a. enq_having last_first a)
unfolding tables_open
enq_have_last_first =
    wrong_with ([], tt) asks_mixed refl tt (λ o. eqb (first_byte_behind 2 o) (get_or z.major 0 0)) refl refl

-- the skipped shared entry for x is made exclusive
pub enq_have_makes_exclusive : RuledOutWith (λ k. fits-Coded fits-Ret) enq.Pre enq.Post
    (λ k a. enq_having skipped_made_exclusive a)
unfolding tables_open
enq_have_makes_exclusive = wrong_with ([], tt) asks_mixed refl tt (λ o. (entry_behind 0 o).exclusive) refl refl

-- 1 is not made to wait
pub enq_have_never_waits : RuledOutWith (λ k. fits-Coded fits-Ret) enq.Pre enq.Post (λ k a. enq_having never_waits a)
unfolding tables_open
enq_have_never_waits = wrong_with ([], tt) asks_mixed refl tt (λ o. runs 1 o.outcome.tables) refl refl

-- 0 is answered, where a code is 8
pub enq_have_answers_0 : RuledOutWith (λ k. fits-Coded fits-Ret) enq.Pre enq.Post (λ k a. enq_having answers_zero a)
unfolding tables_open
enq_have_answers_0 = wrong_with ([], tt) asks_mixed refl tt (λ o. eqb o.outcome.number 0) refl refl

-- what is promised of a sound step's tables, by the law that they keep it: to compute it would be to read each of so
-- many names from the area, again and again
kept_answer : (s : Step) → sound_step s ≡ true → (area : List ℕ) (f : Step → List ℕ → Served Step)
    → answered_with (tables_of s) area f ≡ served_by (f s area)
unfolding answered_with
kept_answer s h area f =
    pick_true (soundb (tables_of s)) _ _ (sound_kept s h)
    ∙ ap (λ (u : Step). served_by (f u area)) (step_tables s h)

-- so many entries of task 1, which asks by HAVE for these names
abbrev full_asking : ℕ → List Ask → List ℕ → Coded Ret
full_asking n l area = (tables_of (filled n), (task 1, (Have, (names_of l, (mut_lent area, tt)))))

-- the number of the reply that says an outcome
abbrev reply_number : {T : Type 0} → Outcome T → ℕ
reply_number o = number_of (reply_of o.number o.besides)

filled_sound : (sound_step (filled 127) ≡ true) × (sound_step (filled 128) ≡ true)
unfolding tables_open
filled_sound = (refl, refl)

-- the number that is promised
abbrev full_number : ℕ → List Ask → List ℕ → ℕ
full_number n l area = (enq_of (filled n) (task 1) Have (names_in (names_of l)) area).outcome.number

full_promised : (n : ℕ) (l : List Ask) (area : List ℕ) → sound_step (filled n) ≡ true
    → (answered_with (tables_of (filled n)) area (λ s lent. enq_of s (task 1) Have (names_in (names_of l)) lent)).outcome.number
    ≡ full_number n l area
full_promised n l area h =
    ap (λ (o : Served Tables). o.outcome.number)
    (kept_answer (filled n) h area (λ s lent. enq_of s (task 1) Have (names_in (names_of l)) lent))

-- the first of them
abbrev first_held : Resource
first_held = named 1 (0 ∷ [])

-- 105 by the whole list: 127 entries, and one of them and y are asked for
abbrev one_more : Coded Ret
one_more = full_asking 127 (exc first_held ∷ exc y ∷ []) (238 ∷ 238 ∷ [])

one_more_fits : fits-Coded fits-Ret one_more ≡ true
unfolding tables_open
one_more_fits = refl

one_more_counted_105 : reply_number
    (enq_judged (full_by whole_list) (filled 127) (task 1) Have (names_in (names_of (exc first_held ∷ exc y ∷ [])))
    (238 ∷ 238 ∷ [])).outcome
    ≡ 105
unfolding tables_open
one_more_counted_105 = refl

one_more_counted : eqb (number_of (enq_by (full_by whole_list) one_more).0.reply) 105 ≡ true
one_more_counted =
    ap (λ (m : ℕ). eqb m 105)
    (ap (λ (o : Served Tables). reply_number o.outcome)
    (kept_answer (filled 127) filled_sound.0 (238 ∷ 238 ∷ [])
    (λ s lent. enq_judged (full_by whole_list) s (task 1) Have (names_in (names_of (exc first_held ∷ exc y ∷ []))) lent))
    ∙ one_more_counted_105)

one_more_taken : full_number 127 (exc first_held ∷ exc y ∷ []) (238 ∷ 238 ∷ []) ≡ 4
unfolding tables_open
one_more_taken = refl

pub enq_105_by_the_whole_list : RuledOutWith (λ k. fits-Coded fits-Ret) enq.Pre enq.Post
    (λ k a. enq_by (full_by whole_list) a)
enq_105_by_the_whole_list =
    wrong_with ([], tt) one_more one_more_fits tt (λ o. eqb o.outcome.number 105) one_more_counted
    (ap (λ (m : ℕ). eqb m 105)
    (full_promised 127 (exc first_held ∷ exc y ∷ []) (238 ∷ 238 ∷ []) filled_sound.0 ∙ one_more_taken))

-- 105 with nothing to queue: 128 entries, and one of them is asked for
abbrev none_more : Coded Ret
none_more = full_asking 128 (exc first_held ∷ []) (238 ∷ [])

none_more_fits : fits-Coded fits-Ret none_more ≡ true
unfolding tables_open
none_more_fits = refl

none_more_counted_105 : reply_number
    (enq_judged (full_by none_free) (filled 128) (task 1) Have (names_in (names_of (exc first_held ∷ []))) (238 ∷ [])
    ).outcome
    ≡ 105
unfolding tables_open
none_more_counted_105 = refl

none_more_counted : eqb (number_of (enq_by (full_by none_free) none_more).0.reply) 105 ≡ true
none_more_counted =
    ap (λ (m : ℕ). eqb m 105)
    (ap (λ (o : Served Tables). reply_number o.outcome)
    (kept_answer (filled 128) filled_sound.1 (238 ∷ [])
    (λ s lent. enq_judged (full_by none_free) s (task 1) Have (names_in (names_of (exc first_held ∷ []))) lent))
    ∙ none_more_counted_105)

none_more_skipped : full_number 128 (exc first_held ∷ []) (238 ∷ []) ≡ 4
unfolding tables_open
none_more_skipped = refl

pub enq_105_with_nothing_to_queue : RuledOutWith (λ k. fits-Coded fits-Ret) enq.Pre enq.Post
    (λ k a. enq_by (full_by none_free) a)
enq_105_with_nothing_to_queue =
    wrong_with ([], tt) none_more none_more_fits tt (λ o. eqb o.outcome.number 105) none_more_counted
    (ap (λ (m : ℕ). eqb m 105)
    (full_promised 128 (exc first_held ∷ []) (238 ∷ []) filled_sound.1 ∙ none_more_skipped))

-- a refused ENQ leaves its name in the area: 104, and x stands there
pub enq_refused_leaves_its_name : RuledOutWith (λ k. fits-Coded fits-Ret) enq.Pre enq.Post
    (λ k a. (
      record {
        tables = in_tables a.0.all (area_for name_area (asked.names_of (names_in a.1.1.1.0)));
        reply = Refused ShortArea;
      },
      a,
    ))
unfolding tables_open
enq_refused_leaves_its_name =
    wrong_with ([], tt) (asking Test (exc x ∷ []) []) refl tt
    (λ o. eqb (get_or o.outcome.tables.names.bytes 0 0) (get_or x.major 0 0)) refl refl

-- DEQ

-- a system name is refused, although DEQ isn't changed: HAVE of one gives 8
pub deq_refuses_a_system_name : RuledOutWith (λ k. fits-Coded fits-DeqRet) deq.Pre deq.Post
    (λ k a. coding a (λ s area. deq_judged deq_keeping_off s a.1.0 a.1.1.0 (names_in a.1.1.1.0) area))
unfolding tables_open
deq_refuses_a_system_name =
    wrong_with ([], tt) (tables_of start, (task 1, (DeqHave, (names_of (exc sysdsn ∷ []), (mut_lent (238 ∷ []), tt))))) refl
    tt (λ o. eqb o.outcome.number 110) refl refl

-- The names in the area, document 02 §5: what DEQ leaves is stored with other names there, or in another order.
abbrev stored_by : List Resource → Step → Tables
stored_by ns u = record { all = all.tables_of (re_step (point_to ns) u); names = area_of ns }

abbrev deq_storing : (List Resource → List Resource → List Resource) → Coded DeqRet → Answer × Coded DeqRet
deq_storing names a =
    let right = coding a (λ s area. deq_of s a.1.0 a.1.1.0 (names_in a.1.1.1.0) area) in
    let left = step_of right.0.tables in
    let ns = names (entry_names (step_of a.0).queue) (entry_names left.queue) in
    (record { tables = pick (soundb a.0) (stored_by ns left) right.0.tables; reply = right.0.reply }, right.1)

abbrev releasing : List Asking → ℕ → Coded DeqRet
releasing run c = (tables run, (task c, (DeqNone, (names_of (exc x ∷ []), (mut_lent [], tt)))))

-- names keep the order that they had: 2 releases x, which 4 waits for behind the first entry for y, and x stays in front
pub deq_in_the_old_order : RuledOutWith (λ k. fits-Coded fits-DeqRet) deq.Pre deq.Post
    (λ k a. deq_storing (λ before now. keep (λ n. is_in n now) before) a)
unfolding tables_open
deq_in_the_old_order =
    wrong_with ([], tt) (releasing both_asked 2) refl tt
    (λ o. eqb (get_or o.outcome.tables.names.bytes 0 0) (get_or x.major 0 0)) refl refl

-- a name stays to which no entry points: 1 releases x, and it stands there
pub deq_keeps_a_name_without_entries : RuledOutWith (λ k. fits-Coded fits-DeqRet) deq.Pre deq.Post
    (λ k a. deq_storing (λ before now. now ++ before) a)
unfolding tables_open
deq_keeps_a_name_without_entries =
    wrong_with ([], tt) (releasing owned 1) refl tt
    (λ o. eqb (get_or o.outcome.tables.names.bytes 0 0) (get_or x.major 0 0)) refl refl

-- nobody is granted what was released: 2 waits on
pub deq_grants_nothing : RuledOutWith (λ k. fits-Coded fits-DeqRet) deq.Pre deq.Post
    (λ k a. coding a (λ s area.
    but_served (deq_of s a.1.0 a.1.1.0 (names_in a.1.1.1.0) area) (λ u. with_tasks u s.tasks)))
unfolding tables_open
deq_grants_nothing =
    wrong_with ([], tt) (tables awaited, (task 1, (DeqNone, (names_of (exc x ∷ []), (mut_lent [], tt))))) refl tt
    (λ o. waits 2 o.outcome.tables) refl refl

-- 0 although a code is 8: x, which nobody has an entry for
abbrev deq_says_zero : Step → TaskNumber → DeqRet → Names → List ℕ → Served Step
deq_says_zero s c ret l area = record {
  outcome =
      behind_gate s c (deq_verdict s.queue c ret l (length area))
      (done (requeued s (released c.0 (resources l) s.queue)));
  codes = (deq_of s c ret l area).codes;
}

pub deq_says_0_with_a_code_8 : RuledOutWith (λ k. fits-Coded fits-DeqRet) deq.Pre deq.Post
    (λ k a. coding a (λ s area. deq_says_zero s a.1.0 a.1.1.0 (names_in a.1.1.1.0) area))
unfolding tables_open
deq_says_0_with_a_code_8 =
    wrong_with ([], tt) (tables_of start, (task 1, (DeqHave, (names_of (exc x ∷ []), (mut_lent (238 ∷ []), tt))))) refl tt
    (λ o. eqb o.outcome.number 0) refl refl

-- WAIT

-- nobody ever waits: 1 goes on although ECB 3 is not complete
pub wait_goes_on_with_too_few :
    RuledOut (λ k. fits-Tables ⊗ fits-TaskNumber ⊗ fits-EcbList ⊗ fits_u32 ⊗ fits_end) wait.Pre wait.Post
    (λ k a. answering a.0 (λ s. but (wait_of s a.1.0 (ecbs_in a.1.1.0) a.1.1.1.0)
    (λ u. with_ecbs (with_tasks u s.tasks) s.ecbs)))
unfolding tables_open
wait_goes_on_with_too_few =
    wrong_at tt (tables_of start, (task 1, (ecbs_of (3 ∷ []), (1, tt)))) refl tt (λ o. runs 1 o.tables) refl refl

-- the count is not looked at: 0 goes on, and 1 waits
pub wait_heeds_the_count :
    Heeds (λ k. fits-Tables ⊗ fits-TaskNumber ⊗ fits-EcbList ⊗ fits_u32 ⊗ fits_end) wait.Pre wait.Post
unfolding tables_open
wait_heeds_the_count =
    heeds tt (tables_of start, (task 1, (ecbs_of (3 ∷ []), (0, tt))))
    (tables_of start, (task 1, (ecbs_of (3 ∷ []), (1, tt))))
    refl refl tt tt (λ o. runs 1 o.tables) refl refl

-- POST

-- a complete ECB is posted again: 5 is replaced by 7
abbrev posts_again : Step → TaskNumber → EcbNumber → ℕ → Outcome Step
posts_again s c e code =
    behind_gate s c (post_verdict e code)
    (done (posted (with_ecbs s (set s.ecbs e.0 (incomplete (ecb_at s.ecbs e.0)))) e.0 code))

pub post_replaces_the_code :
    RuledOut (λ k. fits-Tables ⊗ fits-TaskNumber ⊗ fits-EcbNumber ⊗ fits_u32 ⊗ fits_end) post.Pre post.Post
    (λ k a. answering a.0 (λ s. posts_again s a.1.0 a.1.1.0 a.1.1.1.0))
unfolding tables_open
post_replaces_the_code =
    wrong_at tt (tables posted_once, (task 1, (ecb 3, (7, tt)))) refl tt
    (λ o. eqb (ecb_at o.tables.all.ecbs.ecbs 3).code 7) refl refl

-- no task goes on: 2 waits for ECB 3
abbrev posts_to : Step → TaskNumber → EcbNumber → ℕ → Outcome Step
posts_to s c e code = but (post_of s c e code) (λ u. with_tasks u s.tasks)

still_waits : not (runs 2 (answered (tables waited_on) (λ s. posts_to s (task 1) (ecb 3) 5)).tables) ≡ true
unfolding tables_open
still_waits = refl

goes_on : not (runs 2 (answered (tables waited_on) (λ s. post_of s (task 1) (ecb 3) 5)).tables) ≡ false
unfolding tables_open
goes_on = refl

pub post_leaves_the_waiter :
    RuledOut (λ k. fits-Tables ⊗ fits-TaskNumber ⊗ fits-EcbNumber ⊗ fits_u32 ⊗ fits_end) post.Pre post.Post
    (λ k a. answering a.0 (λ s. posts_to s a.1.0 a.1.1.0 a.1.1.1.0))
unfolding tables_open
post_leaves_the_waiter = record {
  lifetimes = tt;
  given = (tables waited_on, (task 1, (ecb 3, (5, tt))));
  fitting = refl;
  asked = tt;
  broken = λ e p. told_apart p (λ o. not (runs 2 o.tables)) still_waits goes_on;
}

-- CLEAR

-- there is no 109: 2 waits on ECB 3
pub clear_of_one_waited_on :
    RuledOut (λ k. fits-Tables ⊗ fits-TaskNumber ⊗ fits-EcbNumber ⊗ fits_end) clear.Pre clear.Post
    (λ k a. answering a.0 (λ s. behind_gate s a.1.0
    (first_of (refuse OutOfRange (not (clear_good a.1.1.0)) ∷ [])) (clear_done s a.1.1.0)))
unfolding tables_open
clear_of_one_waited_on = wrong_at tt (tables waited_on, (task 1, (ecb 3, tt))) refl tt (λ o. eqb o.number 0) refl refl

-- no word changes: ECB 3 stays complete
pub clear_leaves_the_word :
    RuledOut (λ k. fits-Tables ⊗ fits-TaskNumber ⊗ fits-EcbNumber ⊗ fits_end) clear.Pre clear.Post
    (λ k a. answering a.0 (λ s. but (clear_of s a.1.0 a.1.1.0) (λ u. with_ecbs u s.ecbs)))
unfolding tables_open
clear_leaves_the_word =
    wrong_at tt (tables posted_once, (task 1, (ecb 3, tt))) refl tt (λ o. (ecb_at o.tables.all.ecbs.ecbs 3).complete)
    refl refl

-- GETMAIN

-- the search begins at 8, and address 0 is never given
abbrev getmain_from8 : Step → TaskNumber → ℕ → ℕ → Bool → Outcome Step
getmain_from8 s c bytes subpool conditional =
    let w = wanted bytes subpool c.0 in
    behind_gate s c (getmain_verdict s.areas c bytes subpool conditional)
    (given s w (lowest_from (region / doubleword) s.areas w doubleword))

pub getmain_never_at_0 : RuledOut (λ k. fits-Gets) getmain.Pre getmain.Post
    (λ k a. answering a.0 (λ s. getmain_from8 s a.1.0 a.1.1.0 a.1.1.1.0 a.1.1.1.1.0))
unfolding tables_open
getmain_never_at_0 =
    wrong_at tt (tables_of start, (task 1, (100, (10, (false, tt))))) refl tt
    (λ o. eqb (value_of o.besides) 8) refl refl

-- the subpool counts for nothing: behind 100 bytes of subpool 10 there
-- is room at 104 for subpool 10, and for another on the next page only
pub getmain_heeds_the_subpool : Heeds (λ k. fits-Gets) getmain.Pre getmain.Post
unfolding tables_open
getmain_heeds_the_subpool =
    heeds tt (tables one_area, (task 1, (8, (10, (false, tt))))) (tables one_area, (task 1, (8, (5, (false, tt))))) refl
    refl tt tt
    (λ o. eqb (value_of o.besides) 104) refl refl

-- the address is told as the number of a task: 104
pub getmain_answers_a_number : RuledOut (λ k. fits-Gets) getmain.Pre getmain.Post
    (λ k a. answering a.0 (λ s. retelling (getmain_of s a.1.0 a.1.1.0 a.1.1.1.0 a.1.1.1.1.0)))
unfolding tables_open
getmain_answers_a_number =
    wrong_at tt (tables one_area, (task 1, (8, (10, (false, tt))))) refl tt (λ o. eqb (kind_of o.besides) 3) refl refl

-- FREEMAIN

-- the length is not compared: 8 bytes are named, and an area of 100 is freed
abbrev starts_as : Area → Area → Bool
starts_as a b = eqb (start_of a) (start_of b) && one_holder a b

abbrev frees_any_length : Step → TaskNumber → Address → ℕ → ℕ → Outcome Step
frees_any_length s c at bytes subpool =
    let a = area_at at.0 bytes subpool c.0 in
    behind_gate s c
    (first_of
    (refuse OutOfRange (not (freemain_good at bytes subpool))
    ∷ fail NoSuchArea (not (some (starts_as a) s.areas))
    ∷ []))
    (done (with_areas s (keep (λ (b : Area). not (starts_as a b)) s.areas)))

pub freemain_of_a_part : RuledOut (λ k. fits-Frees) freemain.Pre freemain.Post
    (λ k a. answering a.0 (λ s. frees_any_length s a.1.0 a.1.1.0 a.1.1.1.0 a.1.1.1.1.0))
unfolding tables_open
freemain_of_a_part =
    wrong_at tt (tables one_area, (task 1, (address 0, (8, (10, tt))))) refl tt (λ o. eqb o.number 0) refl refl

-- no area goes
pub freemain_leaves_the_area : RuledOut (λ k. fits-Frees) freemain.Pre freemain.Post
    (λ k a. answering a.0 (λ s. but (freemain_of s a.1.0 a.1.1.0 a.1.1.1.0 a.1.1.1.1.0)
    (λ u. with_areas u s.areas)))
unfolding tables_open
freemain_leaves_the_area =
    wrong_at tt (tables one_area, (task 1, (address 0, (100, (10, tt))))) refl tt
    (λ o. eqb o.tables.all.storage.count 1) refl refl

-- SERVE

-- the code of an END is lost on the way: the ECB of 2 is to have 7
abbrev codeless : Request → Request
codeless r =
    by_service r r (λ c code. End c 0) r r (λ e. r) (λ c bytes subpool conditional. r) r r

pub serve_loses_the_code : RuledOutWith (λ k. fits-Serves) serve.Pre serve.Post
    (λ k a. coding a (λ s area. service_of s (codeless a.1.0) (names_in a.1.1.0) (ecbs_in a.1.1.1.0) area))
unfolding tables_open
serve_loses_the_code =
    wrong_with ([], tt) (tables with_ecb, (End (task 2) 7, (names_of [], (ecbs_of [], (mut_lent [], tt))))) refl tt
    (λ o. eqb (ecb_at o.outcome.tables.all.ecbs.ecbs 0).code 0) refl refl

-- no code is ever written: TEST of a name that is available is to write 0
abbrev uncoded : Step → Request → Names → Ecbs → List ℕ → Served Step
uncoded s r ns es area = record { outcome = (service_of s r ns es area).outcome; codes = area }

pub serve_writes_no_code : RuledOutWith (λ k. fits-Serves) serve.Pre serve.Post
    (λ k a. coding a (λ s area. uncoded s a.1.0 (names_in a.1.1.0) (ecbs_in a.1.1.1.0) area))
unfolding tables_open
serve_writes_no_code =
    wrong_with ([], tt)
    (tables_of start, (Enq (task 1) Test, (names_of (exc x ∷ []), (ecbs_of [], (mut_lent (238 ∷ []), tt))))) refl tt
    (λ o. eqb (get_or o.codes 0 0) 238) refl refl

-- 0 is answered for 110, with nothing done: task 1 asks for a system name
abbrev zero_for110 : Step → Request → Names → Ecbs → List ℕ → Served Step
zero_for110 s r ns es area =
    cond (eqb (service_of s r ns es area).outcome.number 110) (untouched area (done s)) (service_of s r ns es area)

pub serve_says_0_for_110 : RuledOutWith (λ k. fits-Serves) serve.Pre serve.Post
    (λ k a. coding a (λ s area. zero_for110 s a.1.0 (names_in a.1.1.0) (ecbs_in a.1.1.1.0) area))
unfolding tables_open
serve_says_0_for_110 =
    wrong_with ([], tt) (tables_of start, (Enq (task 1) None, (names_of (exc sysdsn ∷ []), (ecbs_of [], (mut_lent [], tt)))))
    refl tt (λ o. eqb o.outcome.number 0) refl refl

-- values are told by another kind: the number of ATTACH as an address, the address of GETMAIN as a number
abbrev retold : Step → Request → Names → Ecbs → List ℕ → Served Step
retold s r ns es area = record {
  outcome = retelling (service_of s r ns es area).outcome;
  codes = (service_of s r ns es area).codes;
}

pub serve_answers_an_address : RuledOutWith (λ k. fits-Serves) serve.Pre serve.Post
    (λ k a. coding a (λ s area. retold s a.1.0 (names_in a.1.1.0) (ecbs_in a.1.1.1.0) area))
unfolding tables_open
serve_answers_an_address =
    wrong_with ([], tt)
    (tables_of start, (Attach (task 1) 0 (pos 0) NoEcb, (names_of [], (ecbs_of [], (mut_lent [], tt))))) refl tt
    (λ o. eqb (kind_of o.outcome.besides) 2) refl refl

pub serve_answers_a_number : RuledOutWith (λ k. fits-Serves) serve.Pre serve.Post
    (λ k a. coding a (λ s area. retold s a.1.0 (names_in a.1.1.0) (ecbs_in a.1.1.1.0) area))
unfolding tables_open
serve_answers_a_number =
    wrong_with ([], tt)
    (tables one_area, (Getmain (task 1) 8 10 false, (names_of [], (ecbs_of [], (mut_lent [], tt))))) refl tt
    (λ o. eqb (kind_of o.outcome.besides) 3) refl refl

-- THE REPORTS

-- tables, and a list area of so many bytes of 238
abbrev Reports : Type 0
Reports = Tables × (MutBor (List ℕ) × Unit {0})

abbrev fits-Reports : Reports → Bool
fits-Reports = fits-Tables ⊗ fits_mut_lent ⊗ fits_end

abbrev on : Tables → ℕ → Reports
on t n = (t, (mut_lent (replicate n 238), tt))

-- a byte of the list area at the end, the number that is answered, and the number of items
abbrev byte_is : ℕ → ℕ → Served Tables → Bool
byte_is place b o = eqb (get_or o.codes place 238) b

abbrev number_is : ℕ → Served Tables → Bool
number_is n o = eqb o.outcome.number n

abbrev items_are : ℕ → Served Tables → Bool
items_are n o = eqb (value_of o.outcome.besides) n

-- what our report and another say of the tables after a run
abbrev report_says : (Step → List ℕ → Served Step) → List Asking → ℕ → Served Tables
report_says f l n = answered_with (tables l) (replicate n 238) f

abbrev other_says : (Step → List ℕ → Served Step) → List Asking → ℕ → Served Tables
other_says f l n =
    let o = answered_with (tables l) (replicate n 238) f in
    said_with (answer_of o.outcome) o.codes

-- another report than ours, where a test tells what they say apart
stuck_otherwise : (f : Step → List ℕ → Served Step) (l : List Asking) (n : ℕ) → fits-Reports (on (tables l) n) ≡ true
    → (test : Served Tables → Bool) → test (other_says f l n) ≡ true → test (report_says stuck_report l n) ≡ false
    → RuledOutWith (λ k. fits-Reports) stuck.Pre stuck.Post (λ k a. reporting a f)
stuck_otherwise f l n h test t u = wrong_with ([], tt) (on (tables l) n) h tt test t u

queues_otherwise : (f : Step → List ℕ → Served Step) (l : List Asking) (n : ℕ) → fits-Reports (on (tables l) n) ≡ true
    → (test : Served Tables → Bool) → test (other_says f l n) ≡ true → test (report_says queues_report l n) ≡ false
    → RuledOutWith (λ k. fits-Reports) queues.Pre queues.Post (λ k a. reporting a f)
queues_otherwise f l n h test t u = wrong_with ([], tt) (on (tables l) n) h tt test t u

-- a report of another list
abbrev other_list : (List Entry → List StuckTask) → Step → List ℕ → Served Step
other_list list = report_of (λ q. itemised stuck_item (list q))

-- the items of those tasks that pass a test, each with a task that passes another
abbrev items_by : (ℕ → Bool) → (ℕ → Bool) → List ℕ → List Entry → List StuckTask
items_by these partners numbered q = gathered (first_stuck_at partners q) (keep these numbered)

abbrev all_tasks : List ℕ
all_tasks = numbers 1 highest_task

-- a task that waits for a stuck one is listed: 4 stands behind 2 and 3
abbrev stuck_or_behind : List Entry → ℕ → Bool
stuck_or_behind q t = stuck_of q t || some (λ (k : ℕ). stuck_of q k && waits_for q t k) all_tasks

abbrev listing_behind : Step → List ℕ → Served Step
listing_behind = other_list (λ q. items_by (stuck_or_behind q) (stuck_of q) all_tasks q)

pub stuck_lists_who_is_behind : RuledOutWith (λ k. fits-Reports) stuck.Pre stuck.Post (λ k a. reporting a listing_behind)
unfolding tables_open
stuck_lists_who_is_behind = stuck_otherwise listing_behind ring_of_two 9 refl (items_are 3) refl refl

-- in falling order: 3 comes first
abbrev falling : List ℕ
falling = map (λ (n : ℕ). (highest_task + 1) - n) all_tasks

abbrev listing_falling : Step → List ℕ → Served Step
listing_falling = other_list (λ q. items_by (stuck_of q) (stuck_of q) falling q)

pub stuck_in_falling_order : RuledOutWith (λ k. fits-Reports) stuck.Pre stuck.Post (λ k a. reporting a listing_falling)
unfolding tables_open
stuck_in_falling_order = stuck_otherwise listing_falling ring_of_two 6 refl (byte_is 0 3) refl refl

-- the partner is any task that is waited for: 4, for whom 2 waits first, is not stuck
abbrev any_partner : Step → List ℕ → Served Step
any_partner = other_list (λ q. items_by (stuck_of q) (λ t. true) all_tasks q)

pub stuck_any_partner : RuledOutWith (λ k. fits-Reports) stuck.Pre stuck.Post (λ k a. reporting a any_partner)
unfolding tables_open
stuck_any_partner = stuck_otherwise any_partner behind_another 6 refl (byte_is 2 4) refl refl

-- a shared entry before a shared one counts: 3, who shares y, is named as the partner of 2, who asks for it shared
abbrev made_exclusive : Entry → Entry
made_exclusive e = record { task = e.task; exclusive = true; name = e.name }

abbrev shared_counts : Step → List ℕ → Served Step
shared_counts = other_list (λ q. items_by (stuck_of q) (stuck_of q) all_tasks (map made_exclusive q))

pub stuck_shared_before_shared : RuledOutWith (λ k. fits-Reports) stuck.Pre stuck.Post (λ k a. reporting a shared_counts)
unfolding tables_open
stuck_shared_before_shared = stuck_otherwise shared_counts shared_ahead 9 refl (byte_is 2 3) refl refl

-- a ring is not seen when it passes task 32: 31 and 32 wait for each other
abbrev step_below_last : List Entry → ℕ → ℕ → Bool
step_below_last q a b = waits_for q a b && (ltb a highest_task && ltb b highest_task)

abbrev without_last : List Entry → ℕ → Bool
without_last q t = leads_by (step_below_last q) (tasks_queued q) t t

abbrev not_by_last : Step → List ℕ → Served Step
not_by_last = other_list (λ q. items_by (without_last q) (without_last q) all_tasks q)

pub stuck_not_by_way_of_task_32 : RuledOutWith (λ k. fits-Reports) stuck.Pre stuck.Post (λ k a. reporting a not_by_last)
unfolding tables_open
stuck_not_by_way_of_task_32 = stuck_otherwise not_by_last ring_of_last 6 refl (items_are 0) refl refl

-- 104 by the longest list: six bytes are room enough for two items
abbrev longest : ItemList
longest = record { items = highest_task; bytes = replicate (3 * highest_task) 0 }

abbrev as_long_as_any : Step → List ℕ → Served Step
as_long_as_any s area = reported (report_gate s longest (length area)) s (stuck_list s.queue) area

pub stuck_104_by_the_longest_list : RuledOutWith (λ k. fits-Reports) stuck.Pre stuck.Post
    (λ k a. reporting a as_long_as_any)
unfolding tables_open
stuck_104_by_the_longest_list = stuck_otherwise as_long_as_any ring_of_two 6 refl (number_is 104) refl refl

-- a byte behind the list, where the area has one: a zero after the two items
abbrev with_end : List ℕ → List ℕ → List ℕ
with_end bytes area = take (length area) (written_on (bytes ++ (0 ∷ [])) area)

abbrev ended_by : Gate → Step → ItemList → List ℕ → Served Step
ended_by (Err why) s r area = untouched area (refused why s)
ended_by (Ok _) s r area = record { outcome = done_with (TheCount r.items) s; codes = with_end r.bytes area }

abbrev with_byte_behind : Step → List ℕ → Served Step
with_byte_behind s area = ended_by (report_gate s (stuck_list s.queue) (length area)) s (stuck_list s.queue) area

pub stuck_a_byte_behind : RuledOutWith (λ k. fits-Reports) stuck.Pre stuck.Post (λ k a. reporting a with_byte_behind)
unfolding tables_open
stuck_a_byte_behind = stuck_otherwise with_byte_behind ring_of_two 7 refl (byte_is 6 0) refl refl

-- the list of a step that breaks a rule: 2 has an entry and is not live
abbrev unguarded : Reports → Answer × Reports
unguarded a =
    let o = stuck_report (step_of a.0) a.1.0.now in
    (answer_of (kept_by tables_of o.outcome), (a.0, (at_last a.1.0 o.codes, tt)))

pub stuck_of_unsound_tables : RuledOutWith (λ k. fits-Reports) stuck.Pre stuck.Post
    (λ k a. unguarded a)
unfolding tables_open
stuck_of_unsound_tables =
    wrong_with ([], tt) (on (tables_of (with_queue start (record { task = 2; exclusive = true; name = x } ∷ []))) 0) refl
    tt (λ o. eqb o.outcome.number 0) refl refl

-- the number of items is told as that of a new task: 2
abbrev retold_report : (Step → List ℕ → Served Step) → Step → List ℕ → Served Step
retold_report f s area = record { outcome = retelling (f s area).outcome; codes = (f s area).codes }

pub stuck_answers_a_new_number : RuledOutWith (λ k. fits-Reports) stuck.Pre stuck.Post
    (λ k a. reporting a (retold_report stuck_report))
unfolding tables_open
stuck_answers_a_new_number =
    stuck_otherwise (retold_report stuck_report) ring_of_two 6 refl (λ o. eqb (kind_of o.outcome.besides) 1) refl refl

-- a waiter is shown as owner: 3, who waits for x
abbrev all_owners : Step → List ℕ → Served Step
all_owners = report_of (λ q. itemised (λ x. x.place ∷ 1 ∷ []) (queues_of q))

pub queues_a_waiter_owns : RuledOutWith (λ k. fits-Reports) queues.Pre queues.Post (λ k a. reporting a all_owners)
unfolding tables_open
queues_a_waiter_owns = queues_otherwise all_owners ring_of_two 10 refl (byte_is 3 1) refl refl

-- entries in queue order, not grouped: after 2's for x comes 3's for y
abbrev in_queue_order : Step → List ℕ → Served Step
in_queue_order = report_of (λ q. itemised queue_item (standing q))

pub queues_not_by_name : RuledOutWith (λ k. fits-Reports) queues.Pre queues.Post (λ k a. reporting a in_queue_order)
unfolding tables_open
queues_not_by_name = queues_otherwise in_queue_order ring_of_two 10 refl (byte_is 2 1) refl refl

-- 104 by the longest list: two bytes are room enough for one item
abbrev fullest : ItemList
fullest = record { items = most_entries; bytes = replicate (2 * most_entries) 0 }

abbrev as_many_as_any : Step → List ℕ → Served Step
as_many_as_any s area = reported (report_gate s fullest (length area)) s (queues_list s.queue) area

pub queues_104_by_the_longest_list : RuledOutWith (λ k. fits-Reports) queues.Pre queues.Post
    (λ k a. reporting a as_many_as_any)
unfolding tables_open
queues_104_by_the_longest_list = queues_otherwise as_many_as_any owned 2 refl (number_is 104) refl refl

-- the number of bytes is told for the number of items
abbrev counting_bytes : Step → List ℕ → Served Step
counting_bytes = report_of (λ q. record { items = length (queues_list q).bytes; bytes = (queues_list q).bytes })

pub queues_tells_the_bytes : RuledOutWith (λ k. fits-Reports) queues.Pre queues.Post (λ k a. reporting a counting_bytes)
unfolding tables_open
queues_tells_the_bytes = queues_otherwise counting_bytes owned 2 refl (items_are 2) refl refl

-- the number of items is told as that of a new task: 1
pub queues_answers_a_new_number : RuledOutWith (λ k. fits-Reports) queues.Pre queues.Post
    (λ k a. reporting a (retold_report queues_report))
unfolding tables_open
queues_answers_a_new_number =
    queues_otherwise (retold_report queues_report) owned 2 refl (λ o. eqb (kind_of o.outcome.besides) 1) refl refl
