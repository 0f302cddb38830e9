-- DOCUMENT 02 §4 of the code: the address that a call of GETMAIN, by the method or by `serve`, gives on any tables.
use mathlib.Core.Path.{◌≡◌, refl, sym, ap, ◌∙◌}
use mathlib.Core.Bool.{Bool, true, false}
use mathlib.Core.List.{List}
use Prim.Native.Nat.{ℕ}
use Rattle.lists.specs.Pick.{pick}
use Rattle.kinds.specs.Replies.{besides_in}
use Rattle.kinds.specs.Replies.Besides.{TheAddress}
use Rattle.kinds.specs.declared.numbers.Address.{Address}
use Rattle.kinds.specs.declared.numbers.TaskNumber.{TaskNumber}
use Rattle.kinds.specs.declared.replies.Reply.TheVariants.{Got}
use Rattle.kinds.specs.declared.requests.Request.{Request}
use Rattle.kinds.specs.declared.requests.Request.TheVariants.{Getmain}
use Rattle.kinds.specs.declared.replies.Refusal.TheVariants.{Unsound}
use Rattle.rules.specs.Steps.{Step, Served, refused, untouched}
use Rattle.rules.specs.Getmain.{getmain_of}
use Rattle.rules.specs.Serve.{Asked, service_of}
use Rattle.laws.specs.Candidates.{is_candidate}
use Rattle.laws.specs.Demanded.{getmain_served}
use Rattle.laws.specs.Rooms.{given_candidate}
use Rattle.services.specs.Kept.{step_of, soundb, served_by, answered_with}
use Rattle.services.specs.Serve.{served_of}
use Rattle.services.specs.declared.Tables.{Tables}
use Rattle.services.specs.declared.Answer.{Answer}
use Rattle.services.proofs.Names.{sound_step_lem}
use Rattle.calls.specs.Calls.{Call}
use Rattle.calls.proofs.Runs.{promises}

module _ (t : Tables) (a : Asked) (r : Answer) (codes : List ℕ) (k : Call t a r codes) (c : TaskNumber)
    (bytes subpool : ℕ) (conditional : Bool) (asked : a.request ≡ Getmain c bytes subpool conditional) where
  -- what the service answers, whether the tables are sound or not
  abbrev answer : Bool → Served Tables
  answer sound =
      pick sound (served_by (service_of (step_of t) a.request a.names a.ecbs a.area))
      (untouched a.area (refused Unsound t))

  served_getmain : service_of (step_of t) a.request a.names a.ecbs a.area
      ≡ untouched a.area (getmain_of (step_of t) c bytes subpool conditional)
  served_getmain =
      ap (λ (q : Request). service_of (step_of t) q a.names a.ecbs a.area) asked
      ∙ getmain_served (step_of t) a.names a.ecbs a.area c bytes subpool conditional

  candidate_by : (sound : Bool) → soundb t ≡ sound → (p : Address) → (answer sound).outcome.besides ≡ TheAddress p
      → is_candidate (step_of t).areas p.0 ≡ true
  unfolding pick
  candidate_by true h p e =
      given_candidate (step_of t) (sound_step_lem t h) c bytes subpool conditional p
      (ap (λ (o : Served Step). o.outcome.besides) (sym served_getmain) ∙ e)
  candidate_by false h p e = cc

  pub call_candidate : (p : Address) → r.reply ≡ Got p → is_candidate (step_of t).areas p.0 ≡ true
  unfolding served_of answered_with
  call_candidate p e =
      candidate_by (soundb t) refl p
      (sym (ap (λ (o : Served Tables). o.outcome.besides) (promises k)) ∙ ap besides_in e)
