-- Sound tables keep their step; what an open gate says of the tables and of the caller.
use mathlib.Core.Path.{◌≡◌, sym, ap}
use mathlib.Core.Bool.{true}
use mathlib.Core.List.{List}
use Prim.Native.Nat.{◌≤◌}
use native.Mathlib.Omega.{arith}
use Rattle.lists.specs.Pick.{chain_and}
use Rattle.kinds.specs.Limits.{lowest_task, highest_task}
use Rattle.kinds.specs.declared.tasks.Task.{Task}
use Rattle.kinds.specs.declared.areas.Area.{Area}
use Rattle.kinds.specs.declared.numbers.TaskNumber.{TaskNumber}
use Rattle.rules.specs.Control.{Entry}
use Rattle.rules.specs.Steps.{Step, with_tasks, with_queue, with_areas}
use Rattle.rules.specs.Sound.{sound_step}
use Rattle.laws.specs.Running.{Running, running_parts}
use Rattle.laws.specs.Chains.{used_pos, used_within}
use Rattle.laws.specs.Mothers.{fits_length}
use Rattle.laws.specs.Admitted.{open_running, open_used}
use Rattle.tasks.specs.TaskTables.{task_table_of}
use Rattle.queue.specs.Queues.{packed_entries, stored_entries}
use Rattle.queue.proofs.Views.{Pointing, packed_kept as queue-kept, live_stored}
use Rattle.storage.specs.Stored.{packed_areas, stored_areas}
use Rattle.storage.specs.Kept.{packed_kept as areas-kept, live_stored as live-areas}
use Rattle.tables.specs.Tables.{step_of, tables_of, Packed, sound_tables, Admitted, put_tasks, put_queue}
use Rattle.tables.specs.Tables.{put_storage}
use Rattle.tables.specs.declared.AllTables.{AllTables}

-- SOUND TABLES KEEP THEIR STEP

pub sound_packed : (t : AllTables) → sound_tables t ≡ true → Packed t
unfolding sound_tables
sound_packed t h =
    let a = chain_and (packed_entries t.queue) _ h in
    let b = chain_and (packed_areas t.storage) _ a.1 in
    record { queue = queue-kept t.queue a.0; storage = areas-kept t.storage b.0 }

pub sound_step_lem : (t : AllTables) → sound_tables t ≡ true → sound_step (step_of t) ≡ true
unfolding sound_tables
sound_step_lem t h = (chain_and (packed_areas t.storage) _ (chain_and (packed_entries t.queue) _ h).1).1

pub packed_tables : (t : AllTables) → Packed t → tables_of (step_of t) ≡ t
packed_tables t p = λ i. record {
  over = t.over;
  code = t.code;
  tasks = t.tasks;
  queue = sym p.queue.form i;
  ecbs = t.ecbs;
  storage = sym p.storage.form i;
}

-- the law that inner functions live on
pub sound_tables_lem : (t : AllTables) → sound_tables t ≡ true → tables_of (step_of t) ≡ t
sound_tables_lem t h = packed_tables t (sound_packed t h)

-- whatever step is kept shows again, where its entries point to their names
pub step_tables : (s : Step) → Pointing s.queue → step_of (tables_of s) ≡ s
step_tables s p = λ i. record {
  over = s.over;
  code = s.code;
  tasks = s.tasks;
  queue = live_stored s.queue p i;
  ecbs = s.ecbs;
  areas = live-areas s.areas i;
}

-- A TABLE PUT IN, kept as the rules keep it in the step

module _ (t : AllTables) (p : Packed t) where
  pub tasks_put : (ts : List Task) → put_tasks t (task_table_of ts) ≡ tables_of (with_tasks (step_of t) ts)
  tasks_put ts = ap (λ (u : AllTables). put_tasks u (task_table_of ts)) (sym (packed_tables t p))

  pub queue_put : (q : List Entry) (ts : List Task)
      → put_tasks (put_queue t (stored_entries q)) (task_table_of ts) ≡ tables_of (with_queue (with_tasks (step_of t) ts) q)
  queue_put q ts =
      ap (λ (u : AllTables). put_tasks (put_queue u (stored_entries q)) (task_table_of ts)) (sym (packed_tables t p))

  pub areas_put : (l : List Area) → put_storage t (stored_areas l) ≡ tables_of (with_areas (step_of t) l)
  areas_put l = ap (λ (u : AllTables). put_storage u (stored_areas l)) (sym (packed_tables t p))

-- WHAT AN OPEN GATE GIVES

module _ (t : AllTables) (c : TaskNumber) (a : Admitted t c) where
  pub admitted_packed : Packed t
  admitted_packed = sound_packed t a.sound

  pub admitted_running : Running (step_of t)
  admitted_running = running_parts (step_of t) (sound_step_lem t a.sound) (open_running (step_of t) c a.gate)

  -- an admitted caller has a place
  pub caller_place : (lowest_task ≤ c.0) × (c.0 ≤ highest_task)
  caller_place =
      let u = open_used (step_of t) c a.gate in (
        omega (arith, used_pos t.tasks.places c.0 u),
        omega (
          arith,
          used_within t.tasks.places c.0 u,
          fits_length t.tasks.places
              admitted_running.tasks.fits,
        ),
      )

pub ruleset admits = (admitted_packed, admitted_running)
