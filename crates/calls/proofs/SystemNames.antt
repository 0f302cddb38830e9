-- DOCUMENT 02 §2 of the code: what a call of ENQ, by the method or by `serve`, answers to a list with a system name;
-- that tables with such a name are answered 100; and that after any calls from a fresh step none is queued.
use mathlib.Core.Path.{◌≡◌, refl, sym, ap, ◌∙◌}
use mathlib.Core.Bool.{Bool, true, false}
use mathlib.Core.List.{List}
use Prim.Native.Nat.{ℕ}
use Rattle.lists.specs.Lists.{some}
use Rattle.lists.specs.Bools.{never}
use Rattle.kinds.specs.Replies.{refusal_number}
use Rattle.kinds.specs.declared.numbers.TaskNumber.{TaskNumber}
use Rattle.kinds.specs.declared.requests.Ret.{Ret}
use Rattle.kinds.specs.declared.replies.Reply.TheVariants.{Done}
use Rattle.kinds.specs.declared.replies.Refusal.TheVariants.{Unsound, SystemName}
use Rattle.std.specs.Prelude.{Ok}
use Rattle.rules.specs.Names.{Names, asks_system}
use Rattle.rules.specs.Events.{Ecbs}
use Rattle.rules.specs.Steps.{Served, refused, untouched}
use Rattle.rules.specs.Admission.{gate_of}
use Rattle.rules.specs.Enq.{enq_good}
use Rattle.rules.specs.Reading.{Turn, queue_read}
use Rattle.rules.specs.Serve.{Asked}
use Rattle.laws.specs.SystemNames.{for_system, sound_no_system, enq_asked, system_refused, system_only}
use Rattle.history.proofs.NoSystemName.{told_no_system}
use Rattle.services.specs.Kept.{step_of, said_with, served_by, soundb}
use Rattle.services.specs.Serve.{served_of}
use Rattle.services.specs.declared.Tables.{Tables}
use Rattle.services.specs.declared.Answer.{Answer}
use Rattle.services.proofs.Names.{sound_step_lem}
use Rattle.services.proofs.Glue.{refused_kept}
use Rattle.services.proofs.Serves.{unsound_serves}
use Rattle.services.proofs.Tables.fresh.Reads as fresh
use Rattle.calls.specs.Called.{Called}
use Rattle.calls.specs.Calls.{Call, Calls}
use Rattle.calls.proofs.Runs.{promises, as_ruled, calls_demand_three}

module _ (t : Tables) (c : TaskNumber) (ret : Ret) (l : Names) (es : Ecbs) (area : List ℕ) (r : Answer)
    (codes : List ℕ) (k : Call t (enq_asked c ret l es area) r codes) (h : soundb t ≡ true)
    (o : gate_of (step_of t) c ≡ Ok tt) (good : enq_good ret l ≡ true) where
  abbrev asked : Asked
  asked = enq_asked c ret l es area

  -- 110 is answered, and neither a table nor a byte of the area changes ..
  pub call_system_refused : asks_system l ≡ true → said_with r codes ≡ untouched area (refused SystemName t)
  call_system_refused e =
      as_ruled t asked r codes h (promises k)
      ∙ ap served_by (system_refused (step_of t) c ret l es area (sound_step_lem t h) o good e)
      ∙ ap (untouched area) (sym (refused_kept t SystemName h))

  -- .. exactly when some name of the list is a system name
  pub call_system_only : (said_with r codes).outcome.number ≡ refusal_number SystemName → asks_system l ≡ true
  call_system_only e =
      system_only (step_of t) c ret l es area (sound_step_lem t h) o good
      (sym (ap (λ (x : Served Tables). x.outcome.number) (as_ruled t asked r codes h (promises k))) ∙ e)

-- 100 is answered to every call on tables that hold a system name
pub call_system_unsound : (t : Tables) (a : Asked) (r : Answer) (codes : List ℕ) → Call t a r codes
    → some for_system (step_of t).queue ≡ true
    → said_with r codes ≡ untouched a.area (refused Unsound t)
call_system_unsound t a r codes k y = promises k ∙ one (soundb t) refl
  where
    one : (b : Bool) → soundb t ≡ b → served_of t a ≡ untouched a.area (refused Unsound t)
    one true h = absurd (never _ y (sound_no_system (step_of t) (sound_step_lem t h)))
    one false h = unsound_serves t a h

pub calls_no_system : (f : Called fresh.Post) → f.result.reply ≡ Done → {t : Tables} {us : List Turn}
    → Calls f.result.tables us t → some for_system (queue_read us) ≡ false
calls_no_system f z {t} {us} k = told_no_system us (step_of t) (calls_demand_three f z k)
