-- DEMANDS 1 AND 2 of what `serve` promises: for any tables, any request and any codes area; and of the fresh start.
use mathlib.Core.Path.{refl, sym, ap, subst}
use mathlib.Core.Bool.{Bool, true, false, not}
use mathlib.Core.List.{List, ◌∷◌}
use mathlib.Core.Logic.{inl}
use Prim.Native.Nat.{ℕ}
use lib.ListN.{length}
use Rattle.lists.specs.Pick.{pick}
use Rattle.kinds.specs.declared.areas.Area.{Area}
use Rattle.kinds.specs.declared.numbers.TaskNumber.{TaskNumber}
use Rattle.kinds.specs.declared.replies.Refusal.TheVariants.{Unsound}
use Rattle.rules.specs.Tests.{Check, refuse}
use Rattle.rules.specs.Form.{caller_of}
use Rattle.rules.specs.Steps.{Step, Outcome, Served, refused, kept_by, untouched, over_step}
use Rattle.rules.specs.Abend.{abend_of}
use Rattle.rules.specs.Fresh.{fresh_step, fresh_of}
use Rattle.rules.specs.Getmain.{wanted}
use Rattle.rules.specs.Serve.{Asked, service_tests}
use Rattle.rules.specs.DemandOne.{Demand1, FreshDemand}
use Rattle.rules.specs.DemandTwo.{Answers, Demand2}
use Rattle.laws.specs.Tested.{tested}
use Rattle.laws.specs.Answering.{service_sorts}
use Rattle.laws.specs.Demanded.{Numbered, sorted, number_given, number_when, number_goes}
use Rattle.laws.specs.Demanded.{demand_one as rules-demand-one, storage_served, request_sound}
use Rattle.services.specs.Kept.{step_of, tables_of, served_by, soundb, answered, answered_with}
use Rattle.services.specs.Serve.{served_of}
use Rattle.services.specs.declared.Tables.{Tables}
use Rattle.services.proofs.Serves.{service_at, sound_serves, serve_refuses, serve_abends}

-- OF ANY TABLES AND ANY REQUEST

module _ (t : Tables) (a : Asked) where
  -- the request's tests, in the paper's order
  abbrev pub tests_in : List Check
  tests_in =
      refuse Unsound (not (soundb t)) ∷ service_tests (step_of t) a.request a.names a.ecbs (length a.area)

  -- what ABEND without STEP leaves
  abbrev pub abended_in : TaskNumber → ℕ → Tables
  abended_in c code = (answered t (λ s. abend_of s c code false)).tables

  numbered_at : (b : Bool)
      → Numbered (refuse Unsound (not b) ∷ service_tests (step_of t) a.request a.names a.ecbs (length a.area))
      (pick b (served_by (service_at t a)) (untouched a.area (refused Unsound t))).outcome.number
  unfolding pick
  numbered_at true =
      let d = sorted (step_of t) (caller_of a.request) a.area _ (service_at t a)
      (service_sorts (step_of t) a.request a.names a.ecbs a.area) in
      record { k = d.k; ends = d.ends; is = d.is }
  numbered_at false = record { k = 0; ends = inl refl; is = refl }

  numbered_in : Numbered tests_in (served_of t a).outcome.number
  unfolding served_of answered_with
  numbered_in = numbered_at (soundb t)

  pub demand_one : Demand1 Tables tests_in t abended_in a (served_of t a)
  demand_one =
      let n = (served_of t a).outcome.number in
      record {
        ordered = (tested (step_of t) a.request a.names a.ecbs (length a.area)).ordered;
        given = number_given tests_in n numbered_in;
        when = number_when tests_in n numbered_in;
        goes = number_goes tests_in n numbered_in;
        unchanged = serve_refuses t a;
        ends = λ what e.
            let k = serve_abends t a what e in
            record { caller = k.caller; called = k.called; leaves = k.leaves };
      }

  -- what holds of an answer on steps holds of it on the tables that keep them
  answers_kept : (l : List Area) (w : Area) (conditional : Bool) (o : Outcome Step)
      → Answers Step l w conditional o → Answers Tables l w conditional (kept_by tables_of o)
  answers_kept l w conditional o h = record {
    without = h.without;
    only = h.only;
    lowest_given = λ p r.
        let g = h.lowest_given p r in
        record { address = g.address; answered = g.answered; besides = g.besides; here = g.here; below = g.below };
  }

  pub demand_two : Demand2 Tables (soundb t) (step_of t) tables_of a (served_of t a)
  demand_two = record {
    answers = sound_serves t a;
    storage = λ c bytes subpool conditional e h few.
        let w = wanted bytes subpool c.0 in
        let l = (step_of t).areas in
        subst (λ (r : Served Tables). Answers Tables l w conditional r.outcome)
        (sym (sound_serves t a (request_sound (soundb t) (step_of t) c bytes subpool h)))
        (answers_kept l w conditional (service_at t a).outcome
        (storage_served (step_of t) a (soundb t) c bytes subpool conditional e h few));
  }

-- THE FRESH START
pub fresh_demand : (limit dispatching : ℕ)
    → FreshDemand Tables (tables_of (over_step 0)) (tables_of (fresh_step limit dispatching)) limit dispatching
    (kept_by tables_of (fresh_of limit dispatching))
fresh_demand limit dispatching =
    let d = rules-demand-one.starts limit dispatching in
    record { given = λ e. ap (kept_by tables_of) (d.given e); starts = λ e. ap (kept_by tables_of) (d.starts e) }
