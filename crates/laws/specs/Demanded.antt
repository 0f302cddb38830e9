-- DEMANDS 1 AND 2 of the rules, for every step and every request.
use Rattle.std.specs.Prelude.{◌≡◌, Bool, not, ◌&&◌, List, ◌∷◌, ℕ, ◌<◌, length}
use Rattle.std.proofs.Math.Path.{refl, ap}
use Rattle.std.proofs.Common.{sym, subst, ◌∙◌}
use Rattle.std.proofs.Math.Bool.{true, false}
use Rattle.std.proofs.Math.Logic.{inl}
use Rattle.lists.specs.Bools.{both}
use Rattle.lists.specs.Pick.{pick}
use Rattle.kinds.specs.Limits.{most_areas}
use Rattle.kinds.specs.Replies.{refusal_number, fault_number}
use Rattle.kinds.specs.declared.numbers.TaskNumber.{TaskNumber}
use Rattle.kinds.specs.declared.requests.Request.TheVariants.{Getmain}
use Rattle.kinds.specs.declared.replies.Refusal.{Refusal}
use Rattle.kinds.specs.declared.replies.Refusal.TheVariants.{Unsound, OutOfRange}
use Rattle.kinds.specs.declared.replies.Fault.{Fault}
use Rattle.std.specs.Prelude.{Ok, Err}
use Rattle.kinds.specs.Replies.{Verdict}
use Rattle.kinds.specs.declared.replies.No.TheVariants.{Refuse, Fail}
use Rattle.rules.specs.Tests.{No, number_of_no, saying, Check, refuse, first_of, NoneHold, Decides}
use Rattle.rules.specs.Form.{caller_of}
use Rattle.rules.specs.Names.{Names}
use Rattle.rules.specs.Events.{Ecbs}
use Rattle.rules.specs.Steps.{Step, Served, refused, done, untouched, over_step}
use Rattle.rules.specs.Fresh.{fresh_step, fresh_good, fresh_of}
use Rattle.rules.specs.Sound.{sound_step}
use Rattle.rules.specs.Getmain.{getmain_good, sound_request, wanted, getmain_of}
use Rattle.rules.specs.Admission.{gate_of, is_open}
use Rattle.rules.specs.Serve.{Asked, service_of, serve_of, service_tests, tests_of}
use Rattle.rules.specs.DemandOne.{EndsCaller, FreshDemand, abended_from, DemandOne}
use Rattle.rules.specs.DemandTwo.{Answers, DemandTwo}
use Rattle.laws.specs.Decided.{decided, decides, goes_on}
use Rattle.laws.specs.Tested.{tested}
use Rattle.laws.specs.Rooms.{room_answered}
use Rattle.laws.specs.Answering.{Goes, Sorts, refuses, fails, goes, service_sorts, refusal_once, fault_once}
use Rattle.laws.specs.Answering.{no_refusal_fault, goes_no_refusal, goes_no_fault, failing_number}
use Rattle.laws.specs.Answering.{refusal_untouched, error_abends}

-- THE NUMBER tells the verdict

-- what a verdict answers, k where it is to go on
abbrev pub numbered : Verdict → ℕ → ℕ
numbered (Ok _) k = k
numbered (Err (Refuse why)) k = refusal_number why
numbered (Err (Fail what)) k = fault_number what

-- n is what the first of the tests that holds answers, and else 0 or 4
pub record Numbered (ts : List Check) (n : ℕ) : Type 0 where
  pub k : ℕ
  pub ends : Goes k
  pub is : n ≡ numbered (first_of ts) k

abbrev number_in : Served Step → ℕ
number_in r = r.outcome.number

pub sorted : (s : Step) (c : ℕ) (area : List ℕ) (ts : List Check) (o : Served Step) → Sorts s c area ts o
    → Numbered ts o.outcome.number
sorted s c area ts o (refuses why f e) =
    record { k = 0; ends = inl refl; is = ap number_in e ∙ sym (ap (λ (v : Verdict). numbered v 0) f) }
sorted s c area ts o (fails what d h g f e) = record {
  k = 0;
  ends = inl refl;
  is = ap number_in e ∙ (failing_number what s d ∙ sym (ap (λ (v : Verdict). numbered v 0) f));
}
sorted s c area ts o (goes f g) =
    record { k = number_in o; ends = g; is = sym (ap (λ (v : Verdict). numbered v (number_in o)) f) }

pub says : (n : No) (k : ℕ) → numbered (saying n) k ≡ number_of_no n
says (Refuse why) k = refl
says (Fail what) k = refl

pub told : (v : Verdict) (k : ℕ) (n : No) → Goes k → numbered v k ≡ number_of_no n → v ≡ saying n
told (Ok _) k (Refuse w) g e = absurd (goes_no_refusal k w g e)
told (Ok _) k (Fail w) g e = absurd (goes_no_fault k w g e)
told (Err (Refuse v)) k (Refuse w) g e = ap (λ (w : Refusal). Err (Refuse w)) (refusal_once v w e)
told (Err (Refuse v)) k (Fail w) g e = absurd (no_refusal_fault v w e)
told (Err (Fail v)) k (Refuse w) g e = absurd (no_refusal_fault w v (sym e))
told (Err (Fail v)) k (Fail w) g e = ap (λ (w : Fault). Err (Fail w)) (fault_once v w e)

module _ (ts : List Check) (n : ℕ) (d : Numbered ts n) where
  pub number_given : (m : No) → Decides ts m → n ≡ number_of_no m
  number_given m h = d.is ∙ (ap (λ (v : Verdict). numbered v d.k) (decided ts m h) ∙ says m d.k)

  pub number_when : (m : No) → n ≡ number_of_no m → Decides ts m
  number_when m e = decides ts m (told (first_of ts) d.k m d.ends (sym d.is ∙ e))

  pub number_goes : NoneHold ts → Goes n
  number_goes h = subst Goes (sym (d.is ∙ ap (λ (v : Verdict). numbered v d.k) (goes_on ts h))) d.ends

-- 100 FIRST: b is whether the step is sound
module _ (s : Step) (a : Asked) where
  abbrev service : Served Step
  service = service_of s a.request a.names a.ecbs a.area

  abbrev tests : List Check
  tests = service_tests s a.request a.names a.ecbs (length a.area)

  abbrev answer : Bool → Served Step
  answer b = pick b service (untouched a.area (refused Unsound s))

  numbered_at : (b : Bool) → Numbered (refuse Unsound (not b) ∷ tests) (answer b).outcome.number
  unfolding pick
  numbered_at true =
      let d = sorted s (caller_of a.request) a.area tests service
      (service_sorts s a.request a.names a.ecbs a.area) in
      record { k = d.k; ends = d.ends; is = d.is }
  numbered_at false = record { k = 0; ends = inl refl; is = refl }

  unchanged_at : (b : Bool) (why : Refusal) → (answer b).outcome.number ≡ refusal_number why
      → answer b ≡ untouched a.area (refused why s)
  unfolding pick
  unchanged_at true why e = refusal_untouched s a.request a.names a.ecbs a.area why e
  unchanged_at false why e = ap (λ (w : Refusal). untouched a.area (refused w s)) (refusal_once Unsound why e)

  ends_at : (b : Bool) (what : Fault) → (answer b).outcome.number ≡ fault_number what
      → EndsCaller Step (refuse Unsound (not b) ∷ tests) s (abended_from s) a (answer b) what
  unfolding pick
  ends_at true what e =
      let k = error_abends s a.request a.names a.ecbs a.area what e in
      record { caller = k.caller; called = k.called; leaves = k.leaves }
  ends_at false what e = absurd (no_refusal_fault Unsound what e)

-- THE FRESH START
fresh_at : (limit dispatching : ℕ) (b : Bool) → fresh_good limit dispatching ≡ b
    → FreshDemand Step (over_step 0) (fresh_step limit dispatching) limit dispatching
    (pick (not b) (refused OutOfRange (over_step 0)) (done (fresh_step limit dispatching)))
unfolding pick
fresh_at limit dispatching true h = record { given = λ e. cc; starts = λ e. refl }
fresh_at limit dispatching false h = record { given = λ e. refl; starts = λ e. cc }

-- DEMAND 1
pub demand_one : DemandOne
unfolding serve_of fresh_of
demand_one = record {
  requests = λ s a.
      let n = (serve_of s a).outcome.number in
      let d = numbered_at s a (sound_step s) in
      record {
        ordered = (tested s a.request a.names a.ecbs (length a.area)).ordered;
        given = number_given (tests_of s a) n d;
        when = number_when (tests_of s a) n d;
        goes = number_goes (tests_of s a) n d;
        unchanged = unchanged_at s a (sound_step s);
        ends = ends_at s a (sound_step s);
      };
  starts = λ limit dispatching. fresh_at limit dispatching (fresh_good limit dispatching) refl;
}

-- DEMAND 2

pub getmain_served : (s : Step) (ns : Names) (es : Ecbs) (area : List ℕ) (c : TaskNumber) (bytes subpool : ℕ)
    (conditional : Bool)
    → service_of s (Getmain c bytes subpool conditional) ns es area ≡ untouched area
    (getmain_of s c bytes subpool conditional)
unfolding service_of
getmain_served s ns es area c bytes subpool conditional = refl

-- of what the service does
pub storage_served : (s : Step) (a : Asked) (sound : Bool) (c : TaskNumber) (bytes subpool : ℕ) (conditional : Bool)
    → a.request ≡ Getmain c bytes subpool conditional → sound_request sound s c bytes subpool ≡ true
    → length s.areas < most_areas
    → Answers Step s.areas (wanted bytes subpool c.0) conditional
    (service_of s a.request a.names a.ecbs a.area).outcome
storage_served s a sound c bytes subpool conditional e h few =
    rw (e, getmain_served s a.names a.ecbs a.area c bytes subpool conditional)
    (room_answered sound s c bytes subpool conditional h few)

-- a sound request is one on sound tables
pub request_sound : (sound : Bool) (s : Step) (c : TaskNumber) (bytes subpool : ℕ)
    → sound_request sound s c bytes subpool ≡ true → sound ≡ true
unfolding sound_request
request_sound sound s c bytes subpool h = (both sound (is_open (gate_of s c) && getmain_good bytes subpool) h).0

pub demand_two : DemandTwo
unfolding serve_of pick
demand_two s a = record {
  answers = λ h. rw h;
  storage = λ c bytes subpool conditional e h few.
      rw (request_sound (sound_step s) s c bytes subpool h)
      (storage_served s a (sound_step s) c bytes subpool conditional e h few);
}
