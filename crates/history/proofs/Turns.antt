-- What a turn of a run tells, by the gate, the verdict and the change of its service.
use mathlib.Core.Path.{◌≡◌, refl, ap}
use mathlib.Core.Bool.{Bool, true, false}
use Prim.Native.Nat.{ℕ}
use Rattle.lists.specs.Pick.{pick}
use Rattle.kinds.specs.Replies.{fault_number, value_of}
use Rattle.kinds.specs.declared.numbers.TaskNumber.{TaskNumber}
use Rattle.kinds.specs.declared.requests.Request.{Request}
use Rattle.kinds.specs.declared.replies.Refusal.{Refusal}
use Rattle.kinds.specs.declared.replies.Refusal.TheVariants.{Unsound, OutOfRange, NotLive, Waits, ShortArea}
use Rattle.kinds.specs.declared.replies.Refusal.TheVariants.{NoEntryFree, NoTaskFree, NoAreaFree, StepOver, WaitBitOn}
use Rattle.kinds.specs.declared.replies.Refusal.TheVariants.{SystemName}
use Rattle.kinds.specs.declared.replies.Fault.{Fault}
use Rattle.std.specs.Prelude.{Ok, Err}
use Rattle.kinds.specs.Replies.{Verdict, Gate}
use Rattle.kinds.specs.declared.replies.No.TheVariants.{Refuse, Fail}
use Rattle.rules.specs.Names.{Names}
use Rattle.rules.specs.Family.{used}
use Rattle.rules.specs.Steps.{Step, Outcome, refused}
use Rattle.rules.specs.Ending.{ended, failing}
use Rattle.rules.specs.Admission.{gate_of, through, settled}
use Rattle.rules.specs.Form.{caller_of}
use Rattle.rules.specs.Reading.{Turn, mother_in, ends_with, Reading, reads}
use Rattle.laws.specs.Running.{Running, running_parts}
use Rattle.laws.specs.Failing.{Sound}
use Rattle.laws.specs.Admitted.{open_running, open_used}
use Rattle.history.proofs.Effects.{fault_effect}
use Rattle.history.proofs.Seen.{Seen, same_seen}
use Rattle.history.proofs.Departing.{ended_in, ended_seen}

-- the turn of a request that had this outcome
abbrev pub told : Request → Names → Outcome Step → Turn
told q l o = record { request = q; names = l; number = o.number; besides = value_of o.besides }

-- the reading, which goes on by the turn, knows the step that the outcome leaves
abbrev pub Follows : Reading → Request → Names → Outcome Step → Type 0
Follows r q l o = Seen o.tables (reads r (told q l o))

-- where one of two outcomes is picked
pub picked_follows : (r : Reading) (q : Request) (l : Names) (b : Bool) (o p : Outcome Step) → Follows r q l o
    → Follows r q l p → Follows r q l (pick b o p)
unfolding pick
picked_follows r q l true o p f g = f
picked_follows r q l false o p f g = g

module _ (s : Step) (r : Reading) (e : Seen s r) (q : Request) (l : Names) where
  -- a refusal leaves all
  pub refused_follows : (why : Refusal) → Follows r q l (refused why s)
  refused_follows Unsound = same_seen s r e
  refused_follows OutOfRange = same_seen s r e
  refused_follows NotLive = same_seen s r e
  refused_follows Waits = same_seen s r e
  refused_follows ShortArea = same_seen s r e
  refused_follows NoEntryFree = same_seen s r e
  refused_follows NoTaskFree = same_seen s r e
  refused_follows NoAreaFree = same_seen s r e
  refused_follows StepOver = same_seen s r e
  refused_follows WaitBitOn = same_seen s r e
  refused_follows SystemName = same_seen s r e

  -- a shut gate refuses
  pub through_follows : (g : Gate) (o : Outcome Step) → (g ≡ Ok tt → Follows r q l o) → Follows r q l (through g s o)
  unfolding through
  through_follows (Ok _) o k = k refl
  through_follows (Err why) o k = refused_follows why

  module _ (c : TaskNumber) (called : caller_of q ≡ c.0) where
    -- a program error is the end of the caller
    module _ (h : Running s) (u : used s.tasks c.0 ≡ true) where
      gone : (code : ℕ) → Seen (ended s c.0 code) (ended_in r (ends_with (mother_in r.links) (caller_of q)))
      gone code = ended_seen s h r e _ c.0 u (λ n a. ap (λ (k : ℕ). ends_with (mother_in r.links) k n) called) code

      failing_follows : (what : Fault) → Follows r q l (failing what s c)
      unfolding failing
      failing_follows what =
          rw (fault_effect r (told q l (failing what s c)) what refl) (gone (fault_number what))

    settled_follows : (v : Verdict) (o : Outcome Step) → Sound s → gate_of s c ≡ Ok tt → (v ≡ Ok tt → Follows r q l o)
        → Follows r q l (settled v s c o)
    unfolding settled
    settled_follows (Ok _) o h g k = k refl
    settled_follows (Err (Refuse why)) o h g k = refused_follows why
    settled_follows (Err (Fail what)) o h g k =
        failing_follows (running_parts s h (open_running s c g)) (open_used s c g) what

    -- so a service is followed if its change is
    pub service_follows : (v : Verdict) (o : Outcome Step) → Sound s
        → (gate_of s c ≡ Ok tt → Running s → v ≡ Ok tt → Follows r q l o)
        → Follows r q l (through (gate_of s c) s (settled v s c o))
    service_follows v o h k =
        through_follows (gate_of s c) _ (λ g. settled_follows v o h g (k g (running_parts s h (open_running s c g))))
