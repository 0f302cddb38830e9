-- How a body comes out, by its verdict v: it makes what the rules make of the step.
use mathlib.Core.Path.{◌≡◌, sym, ap, ◌∙◌}
use Rattle.kinds.proofs.Once.{reply_once}
use Rattle.kinds.specs.declared.replies.Reply.{Reply}
use Rattle.kinds.specs.declared.replies.Reply.TheVariants.{Done}
use Rattle.std.specs.Prelude.{Ok, Err}
use Rattle.kinds.specs.Replies.{Verdict}
use Rattle.kinds.specs.declared.replies.No.{No}
use Rattle.rules.specs.Steps.{Step, Outcome, done, kept_by}
use Rattle.laws.specs.Decided.{judged}
use Rattle.tables.specs.Tables.{tables_of}
use Rattle.tables.specs.Bodies.{replied, Told, told, body_of}
use Rattle.tables.specs.declared.AllTables.{AllTables}
use Rattle.tables.specs.declared.made.Made.{Made}

module _ (t : AllTables) (v : Verdict) (o : Outcome Step) (r : Made) where
  -- it goes on, with the reply p and the tables u
  pub body_goes : (p : Reply) (u : AllTables) → Ok tt ≡ v → r ≡ record { verdict = Ok tt; reply = p; tables = u }
      → replied p u ≡ kept_by tables_of o → told r ≡ body_of v t o
  unfolding told body_of
  body_goes p u h a b = ap told a ∙ rw (sym h) (λ i. record { verdict = Ok tt; outcome = b i })

  -- it is refused or fails
  pub body_stops : (n : No) → Err n ≡ v → r ≡ record { verdict = Err n; reply = Done; tables = t } → told r ≡ body_of v t o
  unfolding told body_of
  body_stops n h a = ap told a ∙ rw (sym h)

-- it goes on, with nothing to say but that it is done, and its tables are those of the step s
pub body_done : (t : AllTables) (v : Verdict) (s : Step) (r : Made)
    → v ≡ Ok tt → r.verdict ≡ Ok tt → r.reply ≡ Done → r.tables ≡ tables_of s → told r ≡ body_of v t (done s)
body_done t v s r h a b e =
    body_goes t v (done s) r Done r.tables (sym h) (λ i. record { verdict = a i; reply = b i; tables = r.tables }) (ap done e)

pub ruleset bodies = (body_done, body_stops, judged)

-- what is told of a body leaves no room for a second one: number and what goes besides determine the reply
pub made_once : (r s : Made) → told r ≡ told s → r ≡ s
unfolding told
made_once r s e =
    let p =
    reply_once r.reply s.reply (ap (λ (x : Told). x.outcome.number) e)
    (ap (λ (x : Told). x.outcome.besides) e) in
    λ i. record { verdict = (e i).verdict; reply = p i; tables = (e i).outcome.tables }
