-- ON A SOUND STEP WITH AN OPEN GATE a number is answered exactly when the service's own tests say it; 101, of any
-- request, exactly when `rangesGood` is false.
use Rattle.std.specs.Prelude.{◌≡◌, false, not, List, length}
use Rattle.std.proofs.Common.{sym, ap, ◌∙◌}
use Rattle.std.proofs.lemmas.Bool.{not-true}
use Rattle.kinds.specs.Replies.{refusal_number}
use Rattle.kinds.specs.declared.replies.Refusal.TheVariants.{OutOfRange}
use Rattle.std.specs.Prelude.{Ok}
use Rattle.kinds.specs.Replies.{Verdict, Gate}
use Rattle.kinds.specs.declared.replies.No.TheVariants.{Refuse}
use Rattle.rules.specs.Tests.{No, number_of_no, saying, Check, first_of}
use Rattle.rules.specs.Form.{caller_of, ranges_good}
use Rattle.rules.specs.Steps.{Step}
use Rattle.rules.specs.Serve.{Asked, service_of, serve_of, own_tests, service_tests}
use Rattle.laws.specs.Failing.{Sound}
use Rattle.laws.specs.Served.{sound_served}
use Rattle.laws.specs.Tested.{gated, gate_at, tested}
use Rattle.laws.specs.Answering.{service_sorts}
use Rattle.laws.specs.Demanded.{numbered, Numbered, sorted, says, told}

module _ (s : Step) (a : Asked) (h : Sound s) (o : gate_at s a.request ≡ Ok tt) where
  abbrev own : List Check
  own = own_tests s a.request a.names a.ecbs (length a.area)

  own_first : first_of (service_tests s a.request a.names a.ecbs (length a.area)) ≡ first_of own
  own_first =
      (tested s a.request a.names a.ecbs (length a.area)).behind
      ∙ ap (λ (g : Gate). gated g (first_of own)) o

  counted : Numbered (service_tests s a.request a.names a.ecbs (length a.area))
      (serve_of s a).outcome.number
  counted =
      rw (sound_served s a h) (sorted s (caller_of a.request) a.area _
      (service_of s a.request a.names a.ecbs a.area)
      (service_sorts s a.request a.names a.ecbs a.area))

  -- what the service's own tests say
  pub own_answered : (n : No) → first_of own ≡ saying n → (serve_of s a).outcome.number ≡ number_of_no n
  own_answered n e =
      counted.is ∙ ap (λ (v : Verdict). numbered v counted.k) (own_first ∙ e) ∙ says n counted.k

  pub answered_own : (n : No) → (serve_of s a).outcome.number ≡ number_of_no n → first_of own ≡ saying n
  answered_own n e = sym own_first ∙ told _ counted.k n counted.ends (sym counted.is ∙ e)

  -- 101 exactly when
  pub out_of_range : ranges_good a.request a.names a.ecbs ≡ false
      → (serve_of s a).outcome.number ≡ refusal_number OutOfRange
  out_of_range e =
      own_answered (Refuse OutOfRange)
      ((tested s a.request a.names a.ecbs (length a.area)).ranged.given (ap not e))

  pub range_only : (serve_of s a).outcome.number ≡ refusal_number OutOfRange
      → ranges_good a.request a.names a.ecbs ≡ false
  range_only e =
      not-true _ ((tested s a.request a.names a.ecbs (length a.area)).ranged.when
      (answered_own (Refuse OutOfRange) e))
