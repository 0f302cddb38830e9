-- What the body of a service makes of the tables, and what a verdict makes of that.
use Rattle.kinds.specs.Replies.{number_of, besides_in}
use Rattle.kinds.specs.declared.replies.Reply.{Reply}
use Rattle.kinds.specs.Replies.{Verdict}
use Rattle.rules.specs.Steps.{Step, Outcome, done, kept_by}
use Rattle.rules.specs.Admission.{on_go}
use Rattle.tables.specs.Tables.{tables_of}
use Rattle.tables.specs.declared.AllTables.{AllTables}
use Rattle.tables.specs.declared.made.Made.{Made}

-- what is answered, by the paper's number and by what goes besides, with its kind, and the tables
abbrev pub replied : {T : Type 0} → Reply → T → Outcome T
replied p t = record { number = number_of p; besides = besides_in p; tables = t }

-- a verdict, and the answer beside it
pub record Told : Type 0 where
  pub verdict : Verdict
  pub outcome : Outcome AllTables

unfoldable pub told : Made → Told
told r = record { verdict = r.verdict; outcome = replied r.reply r.tables }

-- The promise of every body: its verdict v; where that is to go on, the outcome o that the rules give, kept in tables,
-- and else the tables as they were.
unfoldable pub body_of : Verdict → AllTables → Outcome Step → Told
body_of v t o = record { verdict = v; outcome = on_go v (kept_by tables_of o) (done t) }
