-- Whatever is asked: sound tables stay sound, a refusal changes nothing, a program error leaves what ABEND leaves.
use mathlib.Core.Path.{◌≡◌, refl, sym, ap, ◌∙◌}
use mathlib.Core.Bool.{Bool, true, false}
use Prim.Native.Nat.{ℕ}
use Rattle.lists.specs.Pick.{pick_true, pick_false}
use Rattle.kinds.specs.Replies.{refusal_number, fault_number}
use Rattle.kinds.specs.declared.numbers.TaskNumber.{TaskNumber}
use Rattle.kinds.specs.declared.replies.Refusal.{Refusal}
use Rattle.kinds.specs.declared.replies.Refusal.TheVariants.{Unsound}
use Rattle.kinds.specs.declared.replies.Fault.{Fault}
use Rattle.rules.specs.Steps.{Step, Outcome, Served, refused, failed, untouched}
use Rattle.rules.specs.Abend.{abend_of}
use Rattle.rules.specs.Serve.{Asked, service_of}
use Rattle.rules.specs.Form.{caller_of}
use Rattle.laws.specs.Served.{service_of_sound}
use Rattle.laws.specs.Answering.{refusal_once, no_refusal_fault, refusal_untouched, error_abends}
use Rattle.services.specs.Kept.{step_of, served_by, soundb, answered, answered_with}
use Rattle.services.specs.Serve.{served_of}
use Rattle.services.specs.declared.Tables.{Tables}
use Rattle.services.proofs.Names.{sound_step_lem, sound_kept}
use Rattle.services.proofs.Glue.{refused_kept}
use Rattle.services.proofs.Leaves.{answered_is}

abbrev number_of : Served Tables → ℕ
number_of o = o.outcome.number

module _ (t : Tables) (a : Asked) where
  abbrev pub service_at : Served Step
  service_at = service_of (step_of t) a.request a.names a.ecbs a.area

  pub sound_serves : soundb t ≡ true → served_of t a ≡ served_by service_at
  unfolding served_of answered_with
  sound_serves h = pick_true (soundb t) _ _ h

  pub unsound_serves : soundb t ≡ false → served_of t a ≡ untouched a.area (refused Unsound t)
  unfolding served_of answered_with
  unsound_serves h = pick_false (soundb t) _ _ h

  -- SOUND TABLES STAY SOUND, and those that are not stay as they are
  pub serve_leaves_sound : soundb t ≡ true → soundb (served_of t a).outcome.tables ≡ true
  serve_leaves_sound h =
      ap (λ (o : Served Tables). soundb o.outcome.tables) (sound_serves h)
      ∙ sound_kept service_at.outcome.tables
      (service_of_sound (step_of t) a.request a.names a.ecbs a.area (sound_step_lem t h))

  -- A REFUSAL CHANGES NOTHING
  pub serve_refuses : (why : Refusal) → (served_of t a).outcome.number ≡ refusal_number why
      → served_of t a ≡ untouched a.area (refused why t)
  serve_refuses why e = one (soundb t) refl
    where
      one : (b : Bool) → soundb t ≡ b → served_of t a ≡ untouched a.area (refused why t)
      one true h =
          sound_serves h
          ∙ (ap served_by (refusal_untouched (step_of t) a.request a.names a.ecbs a.area why
          (sym (ap number_of (sound_serves h)) ∙ e))
          ∙ ap (untouched a.area) (sym (refused_kept t why h)))
      one false h =
          unsound_serves h
          ∙ ap (λ (w : Refusal). untouched a.area (refused w t))
          (refusal_once Unsound why (sym (ap number_of (unsound_serves h)) ∙ e))

  -- A PROGRAM ERROR leaves what ABEND of its caller leaves, without STEP and with the error's number as code
  pub record AbendsAt (what : Fault) : Type 0 where
    pub caller : TaskNumber
    pub called : caller.0 ≡ caller_of a.request
    pub leaves : served_of t a
        ≡ untouched a.area (failed what (answered t (λ s. abend_of s caller (fault_number what) false)).tables)

  pub serve_abends : (what : Fault) → (served_of t a).outcome.number ≡ fault_number what → AbendsAt what
  serve_abends what e = one (soundb t) refl
    where
      one : (b : Bool) → soundb t ≡ b → AbendsAt what
      one true h =
          let k = error_abends (step_of t) a.request a.names a.ecbs a.area what
          (sym (ap number_of (sound_serves h)) ∙ e) in
          record {
            caller = k.caller;
            called = k.called;
            leaves =
                sound_serves h ∙ ap served_by k.leaves
                ∙ ap (λ (o : Outcome Tables). untouched a.area (failed what o.tables))
                (sym (answered_is t (λ s. abend_of s k.caller (fault_number what) false) h));
          }
      one false h = absurd (no_refusal_fault Unsound what (sym (ap number_of (unsound_serves h)) ∙ e))
