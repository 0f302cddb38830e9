-- DOCUMENT 02 §3 of the code: what a call of ENQ with HAVE that goes on, by the method or by `serve`, answers and
-- leaves.
use mathlib.Core.Path.{◌≡◌, ap, ◌∙◌}
use mathlib.Core.Bool.{true}
use mathlib.Core.List.{List, map}
use Prim.Native.Nat.{ℕ}
use lib.ListN.{length}
use Rattle.lists.specs.Lists.{every, some}
use Rattle.lists.specs.Pick.{pick}
use Rattle.kinds.specs.Replies.{number_of}
use Rattle.kinds.specs.declared.numbers.TaskNumber.{TaskNumber}
use Rattle.kinds.specs.declared.requests.Ret.TheVariants.{Have}
use Rattle.std.specs.Prelude.{Ok}
use Rattle.rules.specs.Names.{Ask, Names}
use Rattle.rules.specs.Codes.{written_on}
use Rattle.rules.specs.Events.{Ecbs}
use Rattle.rules.specs.Steps.{Served}
use Rattle.rules.specs.Admission.{gate_of}
use Rattle.rules.specs.Enq.{enq_verdict}
use Rattle.rules.specs.Serve.{Asked, serve_of}
use Rattle.laws.specs.SystemNames.{enq_asked}
use Rattle.laws.specs.ToQueue.{zero_coded}
use Rattle.laws.specs.NameByName.{had, step_with, NameByName, name_by_name, skips_all}
use Rattle.services.specs.Kept.{step_of, tables_of, said_with, served_by, soundb}
use Rattle.services.specs.declared.Tables.{Tables}
use Rattle.services.specs.declared.Answer.{Answer}
use Rattle.services.proofs.Names.{sound_step_lem, sound_tables_lem}
use Rattle.calls.specs.Calls.{Call}
use Rattle.calls.proofs.Runs.{promises, as_ruled}

module _ (t : Tables) (c : TaskNumber) (l : Names) (es : Ecbs) (area : List ℕ) (r : Answer) (codes : List ℕ)
    (k : Call t (enq_asked c Have l es area) r codes) (h : soundb t ≡ true) (o : gate_of (step_of t) c ≡ Ok tt)
    (g : enq_verdict (step_of t).queue c Have l (length area) ≡ Ok tt) where
  abbrev asked : Asked
  asked = enq_asked c Have l es area

  ruled : said_with r codes ≡ served_by (serve_of (step_of t) asked)
  ruled = as_ruled t asked r codes h (promises k)

  law : NameByName (step_of t) c l area (serve_of (step_of t) asked)
  law = name_by_name (step_of t) (sound_step_lem t h) c o l es area g

  -- the names with code 0 are queued, these and no others, and only the caller's wait can begin
  pub call_tables : r.tables ≡ tables_of (step_with (step_of t) c (zero_coded (step_of t).queue c.0 Have l))
  call_tables = ap (λ (v : Served Tables). v.outcome.tables) ruled ∙ ap tables_of law.tables

  -- 8 is written exactly where the caller had an entry before, and else 0
  pub call_codes : codes ≡ written_on (map (λ (a : Ask). pick (had (step_of t) c a) 8 0) l.asks) area
  call_codes = ap (λ (v : Served Tables). v.codes) ruled ∙ law.codes

  -- 4 is answered exactly where it had one, and else 0
  pub call_number : number_of r.reply ≡ pick (some (had (step_of t) c) l.asks) 4 0
  call_number = ap (λ (v : Served Tables). v.outcome.number) ruled ∙ law.number

  -- where all are skipped the very tables come back
  pub call_skips_all : every (had (step_of t) c) l.asks ≡ true → r.tables ≡ t
  call_skips_all e =
      ap (λ (v : Served Tables). v.outcome.tables) ruled
      ∙ ap tables_of (skips_all (step_of t) (sound_step_lem t h) c o l es area g e)
      ∙ sound_tables_lem t h
