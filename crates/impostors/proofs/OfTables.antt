-- Wrong answers that the contracts of `tables` and of `tables::made` rule out. The empty step and the ending are in
-- OfTablesEnding, the sound test in OfTablesSound.
use mathlib.Core.Path.{refl}
use mathlib.Core.Bool.{not}
use mathlib.Core.List.{[]}
use lib.Dec.{eqb}
use Rattle.lists.specs.Lists.{none}
use Rattle.kinds.specs.Replies.{number_of}
use Rattle.kinds.specs.declared.replies.Refusal.TheVariants.{OutOfRange}
use Rattle.kinds.specs.declared.replies.Reply.TheVariants.{Done, Four}
use Rattle.std.specs.Prelude.{Ok, Err}
use Rattle.kinds.specs.declared.replies.No.TheVariants.{Refuse}
use Rattle.rules.specs.Events.{ecb_at}
use Rattle.rules.specs.Family.{live}
use Rattle.rules.specs.Steps.{over_step}
use Rattle.history.specs.Samples.{start}
use Rattle.queue.specs.Queues.{entries_in, stored_entries}
use Rattle.storage.specs.Stored.{stored_areas}
use Rattle.tables.specs.Tables.{tables_of, put_tasks, put_queue, put_ecbs, put_storage}
use Rattle.tables.specs.declared.AllTables.{AllTables}
use Rattle.tables.proofs.put_tasks.Reads as put_tasks_fn
use Rattle.tables.proofs.put_queue.Reads as put_queue_fn
use Rattle.tables.proofs.put_ecbs.Reads as put_ecbs_fn
use Rattle.tables.proofs.put_storage.Reads as put_storage_fn
use Rattle.tables.proofs.made.goes.Reads as goes
use Rattle.tables.proofs.made.stays.Reads as stays
use Rattle.impostors.specs.Fitting.{◌⊗◌, fits-AllTables, fits-EcbTable, fits-Queue, fits-Reply, fits-Storage}
use Rattle.impostors.specs.Fitting.{fits-TaskTable, fits-Verdict, fits_end}
use Rattle.impostors.specs.Opened.{tables_open}
use Rattle.impostors.specs.Wrong.{RuledOut, wrong_at}
use Rattle.impostors.specs.Samples.{after, owned, posted_once, one_area}
use Rattle.impostors.specs.Parts.{goes as goes_on}

-- SAMPLES: a fresh step; tasks 1 and 2, and 1 owns x; ECB 3 is complete with code 5; an area at 0; a step that is over
-- with code 7
abbrev fresh : AllTables
fresh = tables_of start

abbrev with_entry : AllTables
with_entry = tables_of (after start owned)

abbrev with_post : AllTables
with_post = tables_of (after start posted_once)

abbrev with_area : AllTables
with_area = tables_of (after start one_area)

abbrev over : AllTables
over = tables_of (over_step 7)

-- its code lost
abbrev without_code : AllTables → AllTables
without_code t = record {
  over = t.over;
  code = 0;
  tasks = t.tasks;
  queue = t.queue;
  ecbs = t.ecbs;
  storage = t.storage;
}

-- A TABLE PUT IN

-- the table is not put in: 2 is no task
pub put_tasks_lost :
    RuledOut (λ k. fits-AllTables ⊗ fits-TaskTable ⊗ fits_end) put_tasks_fn.Pre put_tasks_fn.Post (λ k a. a.0)
unfolding tables_open
put_tasks_lost =
    wrong_at tt (fresh, (with_entry.tasks, tt)) refl tt (λ t. not (live t.tasks.places 2)) refl refl

-- the queue goes with the tasks that it was of: the entry is lost
pub put_tasks_and_no_entries :
    RuledOut (λ k. fits-AllTables ⊗ fits-TaskTable ⊗ fits_end) put_tasks_fn.Pre put_tasks_fn.Post
    (λ k a. put_queue (put_tasks a.0 a.1.0) (stored_entries []))
unfolding tables_open
put_tasks_and_no_entries =
    wrong_at tt (with_entry, (with_entry.tasks, tt)) refl tt (λ t. none (entries_in t.queue)) refl refl

-- the table is not put in: 1 has no entry
pub put_queue_lost :
    RuledOut (λ k. fits-AllTables ⊗ fits-Queue ⊗ fits_end) put_queue_fn.Pre put_queue_fn.Post (λ k a. a.0)
unfolding tables_open
put_queue_lost =
    wrong_at tt (fresh, (with_entry.queue, tt)) refl tt (λ t. none (entries_in t.queue)) refl refl

-- the code of a step that is over is lost: 7
pub put_queue_code_lost :
    RuledOut (λ k. fits-AllTables ⊗ fits-Queue ⊗ fits_end) put_queue_fn.Pre put_queue_fn.Post
    (λ k a. without_code (put_queue a.0 a.1.0))
unfolding tables_open
put_queue_code_lost = wrong_at tt (over, (over.queue, tt)) refl tt (λ t. eqb t.code 0) refl refl

-- the table is not put in: ECB 3 is not complete
pub put_ecbs_lost :
    RuledOut (λ k. fits-AllTables ⊗ fits-EcbTable ⊗ fits_end) put_ecbs_fn.Pre put_ecbs_fn.Post (λ k a. a.0)
unfolding tables_open
put_ecbs_lost =
    wrong_at tt (fresh, (with_post.ecbs, tt)) refl tt (λ t. not (ecb_at t.ecbs.ecbs 3).complete) refl refl

-- the storage is emptied too
pub put_ecbs_and_no_areas :
    RuledOut (λ k. fits-AllTables ⊗ fits-EcbTable ⊗ fits_end) put_ecbs_fn.Pre put_ecbs_fn.Post
    (λ k a. put_storage (put_ecbs a.0 a.1.0) (stored_areas []))
unfolding tables_open
put_ecbs_and_no_areas =
    wrong_at tt (with_area, (with_post.ecbs, tt)) refl tt (λ t. eqb t.storage.count 0) refl refl

-- the table is not put in: there is no area
pub put_storage_lost :
    RuledOut (λ k. fits-AllTables ⊗ fits-Storage ⊗ fits_end) put_storage_fn.Pre put_storage_fn.Post (λ k a. a.0)
unfolding tables_open
put_storage_lost = wrong_at tt (fresh, (with_area.storage, tt)) refl tt (λ t. eqb t.storage.count 0) refl refl

-- the ECBs are those of a fresh step: ECB 3 is no longer complete
pub put_storage_and_fresh_ecbs :
    RuledOut (λ k. fits-AllTables ⊗ fits-Storage ⊗ fits_end) put_storage_fn.Pre put_storage_fn.Post
    (λ k a. put_ecbs (put_storage a.0 a.1.0) fresh.ecbs)
unfolding tables_open
put_storage_and_fresh_ecbs =
    wrong_at tt (with_post, (with_area.storage, tt)) refl tt (λ t. not (ecb_at t.ecbs.ecbs 3).complete) refl refl

-- WHAT A BODY MAKES

-- the service is refused
pub goes_by_a_refusal : RuledOut (λ k. fits-Reply ⊗ fits-AllTables ⊗ fits_end) goes.Pre goes.Post
    (λ k a. record { verdict = Err (Refuse OutOfRange); reply = a.0; tables = a.1.0 })
unfolding tables_open
goes_by_a_refusal = wrong_at tt (Done, (fresh, tt)) refl tt (λ r. not (goes_on r.verdict)) refl refl

-- 0 is answered, whatever the reply: 4
pub goes_answers_0 : RuledOut (λ k. fits-Reply ⊗ fits-AllTables ⊗ fits_end) goes.Pre goes.Post
    (λ k a. record { verdict = Ok tt; reply = Done; tables = a.1.0 })
unfolding tables_open
goes_answers_0 = wrong_at tt (Four, (fresh, tt)) refl tt (λ r. eqb (number_of r.reply) 0) refl refl

-- the tables are those of a fresh step: 2 is no task
pub goes_with_fresh_tables : RuledOut (λ k. fits-Reply ⊗ fits-AllTables ⊗ fits_end) goes.Pre goes.Post
    (λ k a. record { verdict = Ok tt; reply = a.0; tables = fresh })
unfolding tables_open
goes_with_fresh_tables =
    wrong_at tt (Done, (with_entry, tt)) refl tt (λ r. not (live r.tables.tasks.places 2)) refl refl

-- it goes on, whatever the verdict: 101
pub stays_goes_on : RuledOut (λ k. fits-Verdict ⊗ fits-AllTables ⊗ fits_end) stays.Pre stays.Post
    (λ k a. record { verdict = Ok tt; reply = Done; tables = a.1.0 })
unfolding tables_open
stays_goes_on = wrong_at tt (Err (Refuse OutOfRange), (fresh, tt)) refl tt (λ r. goes_on r.verdict) refl refl

-- the reply beside a refusal is 4
pub stays_answers_4 : RuledOut (λ k. fits-Verdict ⊗ fits-AllTables ⊗ fits_end) stays.Pre stays.Post
    (λ k a. record { verdict = a.0; reply = Four; tables = a.1.0 })
unfolding tables_open
stays_answers_4 = wrong_at tt (Err (Refuse OutOfRange), (fresh, tt)) refl tt (λ r. eqb (number_of r.reply) 4) refl refl

-- a refusal leaves a fresh step: 2 is no task
pub stays_with_fresh_tables : RuledOut (λ k. fits-Verdict ⊗ fits-AllTables ⊗ fits_end) stays.Pre stays.Post
    (λ k a. record { verdict = a.0; reply = Done; tables = fresh })
unfolding tables_open
stays_with_fresh_tables =
    wrong_at tt (Err (Refuse OutOfRange), (with_entry, tt)) refl tt (λ r. not (live r.tables.tasks.places 2)) refl refl
