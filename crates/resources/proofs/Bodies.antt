-- What the bodies of ENQ and DEQ make, by their verdict v, is what the rules make of the step.
use mathlib.Core.Path.{◌≡◌, refl, sym, ◌∙◌}
use mathlib.Core.Bool.{Bool, true, false, false≢true}
use mathlib.Core.List.{List}
use Prim.Native.Nat.{ℕ}
use Rattle.lists.specs.Pick.{pick}
use Rattle.std.specs.Prelude.{Ok, Err, is_err}
use Rattle.kinds.specs.Replies.{Verdict}
use Rattle.kinds.specs.declared.replies.Reply.{Reply}
use Rattle.kinds.specs.declared.replies.Reply.TheVariants.{Done}
use Rattle.kinds.specs.declared.tasks.Task.{Task}
use Rattle.rules.specs.Admission.{codes_through}
use Rattle.rules.specs.Codes.{all_zero, coded}
use Rattle.rules.specs.Control.{Entry}
use Rattle.rules.specs.Steps.{Step, Outcome, done, four, kept_by, with_tasks, with_queue}
use Rattle.tasks.specs.TaskTables.{task_table_of}
use Rattle.tasks.specs.declared.TaskTable.{TaskTable}
use Rattle.queue.specs.Queues.{stored_entries}
use Rattle.queue.specs.declared.Queue.{Queue}
use Rattle.tables.specs.Tables.{step_of, tables_of, Packed, put_tasks, put_queue}
use Rattle.tables.specs.Bodies.{replied, told, body_of}
use Rattle.tables.specs.declared.AllTables.{AllTables}
use Rattle.tables.specs.declared.made.Made.{Made}
use Rattle.tables.proofs.Admits.{queue_put}
use Rattle.tables.proofs.Bodies.{body_goes, body_stops}
use Rattle.resources.specs.Serving.{reply_to}

-- the answer to codes that are all 0, or not
coded_reply : (b : Bool) (s : Step) → replied (reply_to b) (tables_of s) ≡ kept_by tables_of (pick b (done s) (four s))
unfolding pick
coded_reply true s = refl
coded_reply false s = refl

-- what is told of a body, and what the codes area then holds
module _ {t : AllTables} {v : Verdict} {r : Made} (area written : List ℕ) where
  pub served_stops : (o : Outcome Step) (w : Verdict) {b : Bool} → w ≡ v → b ≡ is_err w → b ≡ true
      → r ≡ record { verdict = w; reply = Done; tables = t }
      → (told r ≡ body_of v t o) × (area ≡ codes_through (Ok tt) v area written)
  served_stops o (Ok _) e g h a = absurd (false≢true (sym g ∙ h))
  served_stops o (Err n) e g h a = (body_stops t v o r n e a, rw (sym e))

  -- queue k and tasks f, put among all tables, keep what the rules leave
  pub served_goes : (codes : List ℕ) (s : Step) {out : List ℕ} {es : List Entry} {ts : List Task} {k : Queue}
      {f : TaskTable} {x y : AllTables} {z : Bool} {p : Reply} → v ≡ Ok tt → Packed t
      → s ≡ with_queue (with_tasks (step_of t) ts) es → k ≡ stored_entries es → f ≡ task_table_of ts → x ≡ put_queue t k
      → y ≡ put_tasks x f → p ≡ reply_to z → z ≡ all_zero codes → r ≡ record { verdict = Ok tt; reply = p; tables = y }
      → out ≡ written → (told r ≡ body_of v t (coded codes s)) × (out ≡ codes_through (Ok tt) v area written)
  unfolding coded
  served_goes codes s {es = es} {ts} {y = y} h d e a b i j c m g o =
      let u : y ≡ tables_of s = rw (j, i, a, b, e) (queue_put t d es ts) in
      (body_goes t v _ r _ _ (sym h) g (rw (c, m, u) (coded_reply (all_zero codes) s)), rw h o)
