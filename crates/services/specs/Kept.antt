-- The step that tables stand for, the tables that keep a step, and what a service answers.
use Rattle.std.specs.Prelude.{Bool, false, List, ℕ}
use Rattle.lists.specs.Pick.{pick}
use Rattle.kinds.specs.declared.replies.Refusal.TheVariants.{Unsound}
use Rattle.rules.specs.Steps.{Step, Outcome, Served, refused, kept_by, untouched}
use Rattle.rules.specs.Sound.{sound_step}
use Rattle.laws.specs.RenamedSteps.{re_step}
use Rattle.laws.specs.NamesAfter.{entry_names}
use Rattle.namearea.specs.Areas.{area_of, holds}
use Rattle.namearea.specs.Naming.{shown_in, point_to}
use Rattle.queue.specs.Queues.{packed_entries}
use Rattle.queue.specs.Pointing.{offsets_in}
use Rattle.storage.specs.Stored.{packed_areas}
use Rattle.tables.specs.Tables as all
use Rattle.tables.specs.Bodies.{replied}
use Rattle.tables.specs.declared.AllTables.{AllTables}
use Rattle.services.specs.declared.Tables.{Tables}
use Rattle.services.specs.declared.Answer.{Answer}

-- all tables, and the bytes of the name area
abbrev pub in_tables : AllTables → List ℕ → Tables
in_tables t bytes = record { all = t; names = record { bytes = bytes } }

-- an entry points to its name: the step has the name that lies there
abbrev pub step_of : Tables → Step
step_of t = re_step (shown_in t.names.bytes) (all.step_of t.all)

-- document 02 §5: "Each different name is kept once, in a name area of 16,384 bytes, and entries point to it. They
-- stand packed, in the order of first entries"
abbrev pub tables_of : Step → Tables
tables_of s = record {
  all = all.tables_of (re_step (point_to (entry_names s.queue)) s);
  names = area_of (entry_names s.queue);
}

-- what an answer says
abbrev pub said : Answer → Outcome Tables
said r = replied r.reply r.tables

-- sound tables: they keep a step, the area holds the names of its entries and nothing else, and the step breaks no rule
unfoldable pub soundb : Tables → Bool
soundb t =
    pick (packed_entries t.all.queue)
    (pick (packed_areas t.all.storage)
    (pick (holds t.names (offsets_in t.all.queue)) (sound_step (step_of t)) false) false) false

-- 100, then what the rules say of the step that the tables stand for, kept in tables again
unfoldable pub answered : Tables → (Step → Outcome Step) → Outcome Tables
answered t f = pick (soundb t) (kept_by tables_of (f (step_of t))) (refused Unsound t)

-- the same with what a codes area or a list area then holds: 100 leaves it as it is
abbrev pub said_with : Answer → List ℕ → Served Tables
said_with r area = record { outcome = said r; codes = area }

abbrev pub served_by : Served Step → Served Tables
served_by o = record { outcome = kept_by tables_of o.outcome; codes = o.codes }

unfoldable pub answered_with : Tables → List ℕ → (Step → List ℕ → Served Step) → Served Tables
answered_with t area f = pick (soundb t) (served_by (f (step_of t) area)) (untouched area (refused Unsound t))
