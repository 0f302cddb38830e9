-- DEMAND 3 of the code: whatever calls of `serve` and of the twelve services follow a `fresh` that was answered 0.
use Prim.Native.Nat.{ℕ}
use mathlib.Core.Path.{◌≡◌, refl, sym, ap, ◌∙◌, subst}
use mathlib.Core.Bool.{Bool, true, false}
use mathlib.Core.List.{List, [], ◌∷◌}
use Rattle.lists.specs.Pick.{pick, pick_true}
use Rattle.kinds.specs.Replies.{number_of, Besides, value_of, besides_in}
use Rattle.kinds.specs.declared.replies.Reply.TheVariants.{Done, Counted}
use Rattle.kinds.proofs.Once.{reply_once}
use Rattle.rules.specs.Steps.{Step, Outcome, Served, kept_by, untouched}
use Rattle.rules.specs.Fresh.{fresh_of}
use Rattle.rules.specs.Serve.{Asked, service_of, serve_of}
use Rattle.rules.specs.Reading.{Turn, nothing, one_at_a_time}
use Rattle.rules.specs.Reports.{stuck_tasks, stuck_report}
use Rattle.rules.specs.DemandThree.{Run, stop as ends, turn, turn_of, Fresh, Demand3}
use Rattle.laws.specs.Served.{sound_served, serve_sound}
use Rattle.history.proofs.Demand.{demand_three}
use Rattle.history.proofs.NobodyStuck.{nobody_stuck, nobody_stuck_report}
use Rattle.services.specs.Kept.{step_of, tables_of, said, said_with, served_by, soundb, answered, answered_with}
use Rattle.services.specs.Serve.{served_of}
use Rattle.services.specs.declared.Tables.{Tables}
use Rattle.services.specs.declared.Answer.{Answer}
use Rattle.laws.specs.Kept.{fresh_sound}
use Rattle.services.proofs.Names.{sound_step_lem, step_tables}
use Rattle.services.proofs.Leaves.{fresh_leaves_sound}
use Rattle.services.proofs.Serves.{sound_serves, serve_leaves_sound}
use Rattle.services.proofs.Tables.fresh.Reads as fresh
use Rattle.services.proofs.Tables.stuck.Reads as stuck
use Rattle.calls.specs.Called.{Called}
use Rattle.calls.specs.Calls.{Call, served, attached, detached, ended, abended, enqueued, dequeued, waited}
use Rattle.calls.specs.Calls.{posted, cleared, got, freed, dispatched, seen_of, Calls, stop, call}

-- THE CONTRACTS: what is promised of a call, in the words of the rules

-- a service with no codes area, as one that is lent an area of no bytes and leaves it
kept_or_refused : (b : Bool) (x y : Outcome Tables)
    → untouched [] (pick b x y) ≡ pick b (untouched [] x) (untouched [] y)
unfolding pick
kept_or_refused true x y = refl
kept_or_refused false x y = refl

uncoded : (t : Tables) (f : Step → Outcome Step) (r : Answer) → said r ≡ answered t f
    → said_with r [] ≡ answered_with t [] (λ s area. untouched area (f s))
unfolding answered answered_with
uncoded t f r e = ap (untouched []) e ∙ kept_or_refused (soundb t) _ _

pub promises : {t : Tables} {a : Asked} {r : Answer} {codes : List ℕ} → Call t a r codes
    → said_with r codes ≡ served_of t a
unfolding served_of service_of
promises (served c) = c.meets
promises (attached c) = uncoded _ _ c.result c.meets
promises (detached c) = uncoded _ _ c.result c.meets
promises (ended c) = uncoded _ _ c.result c.meets
promises (abended c) = uncoded _ _ c.result c.meets
promises (enqueued c) = c.meets
promises (dequeued c) = c.meets
promises (waited c) = uncoded _ _ c.result c.meets
promises (posted c) = uncoded _ _ c.result c.meets
promises (cleared c) = uncoded _ _ c.result c.meets
promises (got c) = uncoded _ _ c.result c.meets
promises (freed c) = uncoded _ _ c.result c.meets
promises (dispatched c) = uncoded _ _ c.result c.meets

pub fresh_promises : (c : Called fresh.Post)
    → said c.result ≡ kept_by tables_of (fresh_of c.given.0 c.given.1.0)
fresh_promises c = c.meets

-- on sound tables a call does to the step what the rules' `serveOf` does
module _ (t : Tables) (a : Asked) (r : Answer) (codes : List ℕ) (h : soundb t ≡ true)
    (e : said_with r codes ≡ served_of t a) where
  abbrev outcome : Outcome Step
  outcome = (serve_of (step_of t) a).outcome

  pub as_ruled : said_with r codes ≡ served_by (serve_of (step_of t) a)
  as_ruled = e ∙ (sound_serves t a h ∙ ap served_by (sym (sound_served (step_of t) a (sound_step_lem t h))))

  leaves : step_of r.tables ≡ outcome.tables
  leaves =
      ap (λ (o : Served Tables). step_of o.outcome.tables) as_ruled
      ∙ step_tables outcome.tables (serve_sound (step_of t) a (sound_step_lem t h))

  seen : turn_of a outcome ≡ seen_of a r
  seen = ap (λ (o : Served Tables). turn_at o.outcome.number o.outcome.besides) (sym as_ruled)
    where
      turn_at : ℕ → Besides → Turn
      turn_at n b = record { request = a.request; names = a.names; number = n; besides = value_of b }

  sound_after : soundb r.tables ≡ true
  sound_after = ap (λ (o : Served Tables). soundb o.outcome.tables) e ∙ serve_leaves_sound t a h

-- calls are a run of the steps that the tables stand for
pub calls_run : {t u : Tables} {us : List Turn} → Calls t us u → soundb t ≡ true → Run (step_of t) us (step_of u)
calls_run stop h = ends
calls_run (call {t} {u} {us} {a} {r} {codes} c k) h =
    let e = promises c in
    subst (λ (x : Turn). Run (step_of t) (x ∷ us) (step_of u)) (seen t a r codes h e)
    (turn a (subst (λ (s : Step). Run s us (step_of u)) (leaves t a r codes h e)
    (calls_run k (sound_after t a r codes h e))))

calls_sound : {t u : Tables} {us : List Turn} → Calls t us u → soundb t ≡ true → soundb u ≡ true
calls_sound stop h = h
calls_sound (call {t} {u} {us} {a} {r} {codes} c k) h = calls_sound k (sound_after t a r codes h (promises c))

-- DEMAND 3
module _ (f : Called fresh.Post) (z : f.result.reply ≡ Done) where
  abbrev begun : Outcome Step
  begun = fresh_of f.given.0 f.given.1.0

  begins : Fresh (step_of f.result.tables)
  begins = record {
    limit = f.given.0;
    dispatching = f.given.1.0;
    starts = λ i. record {
      number = (sym (ap (λ (o : Outcome Tables). o.number) (fresh_promises f)) ∙ ap number_of z) i;
      besides = (sym (ap (λ (o : Outcome Tables). o.besides) (fresh_promises f)) ∙ ap besides_in z) i;
      tables = sym (ap (λ (o : Outcome Tables). step_of o.tables) (fresh_promises f) ∙ step_tables begun.tables
          (fresh_sound f.given.0 f.given.1.0)) i;
    };
  }

  sound_start : soundb f.result.tables ≡ true
  sound_start =
      ap (λ (o : Outcome Tables). soundb o.tables) (fresh_promises f)
      ∙ fresh_leaves_sound f.given.0 f.given.1.0

  pub calls_demand_three : {t : Tables} {us : List Turn} → Calls f.result.tables us t → Demand3 us (step_of t)
  calls_demand_three {t} {us} k =
      demand_three (step_of f.result.tables) (step_of t) us begins (calls_run k sound_start)

  -- NOBODY IS STUCK where the calls kept the habit, and the report of document 02 §1 says so
  module _ {t : Tables} {us : List Turn} (k : Calls f.result.tables us t) (habit : one_at_a_time nothing us ≡ true)
    where
      pub calls_nobody_stuck : stuck_tasks (step_of t).queue ≡ []
      calls_nobody_stuck = nobody_stuck _ (step_of t) us begins (calls_run k sound_start) habit

      pub calls_stuck_says_none : (c : Called stuck.Post) → c.given.0 ≡ t → t.all.over ≡ false
          → c.result.reply ≡ Counted 0
      unfolding answered_with
      calls_stuck_says_none c e o =
          let area = c.given.1.0.now in
          let h = c.meets ∙ ap (λ (u : Tables). answered_with u area stuck_report) e
          ∙ pick_true (soundb t) _ _ (calls_sound k sound_start)
          ∙ ap served_by (nobody_stuck_report _ (step_of t) us begins (calls_run k sound_start) habit area o) in
          reply_once c.result.reply (Counted 0) (ap (λ (x : Served Tables). x.outcome.number) h)
          (ap (λ (x : Served Tables). x.outcome.besides) h)
