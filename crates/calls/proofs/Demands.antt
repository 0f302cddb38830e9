-- DEMANDS 1 AND 2 of the code: of every call of `serve` and of the twelve services, and of every call of `fresh`.
use mathlib.Core.Path.{sym, subst}
use mathlib.Core.List.{List}
use Prim.Native.Nat.{ℕ}
use Rattle.rules.specs.Steps.{Outcome, Served, over_step}
use Rattle.rules.specs.Fresh.{fresh_step}
use Rattle.rules.specs.Serve.{Asked}
use Rattle.rules.specs.DemandOne.{Demand1, FreshDemand}
use Rattle.rules.specs.DemandTwo.{Demand2}
use Rattle.services.specs.Kept.{step_of, tables_of, said, said_with, soundb}
use Rattle.services.specs.declared.Tables.{Tables}
use Rattle.services.specs.declared.Answer.{Answer}
use Rattle.services.proofs.Demands.{tests_in, abended_in, demand_one, demand_two, fresh_demand}
use Rattle.services.proofs.Tables.fresh.Reads as fresh
use Rattle.calls.specs.Called.{Called}
use Rattle.calls.specs.Calls.{Call}
use Rattle.calls.proofs.Runs.{promises, fresh_promises}

module _ {t : Tables} {a : Asked} {r : Answer} {codes : List ℕ} (c : Call t a r codes) where
  pub call_demand_one : Demand1 Tables (tests_in t a) t (abended_in t a) a (said_with r codes)
  call_demand_one =
      subst (λ (o : Served Tables). Demand1 Tables (tests_in t a) t (abended_in t a) a o) (sym (promises c))
      (demand_one t a)

  pub call_demand_two : Demand2 Tables (soundb t) (step_of t) tables_of a (said_with r codes)
  call_demand_two =
      subst (λ (o : Served Tables). Demand2 Tables (soundb t) (step_of t) tables_of a o) (sym (promises c))
      (demand_two t a)

abbrev begun : Called fresh.Post → Tables
begun c = tables_of (fresh_step c.given.0 c.given.1.0)

pub start_demand_one : (c : Called fresh.Post)
    → FreshDemand Tables (tables_of (over_step 0)) (begun c) c.given.0 c.given.1.0 (said c.result)
start_demand_one c =
    subst (λ (o : Outcome Tables). FreshDemand Tables (tables_of (over_step 0)) (begun c) c.given.0
    c.given.1.0 o)
    (sym (fresh_promises c)) (fresh_demand c.given.0 c.given.1.0)
