-- WHAT THE TESTS OF EACH SERVICE ARE: in the paper's order, behind the gate's, and 101 only where the range test fails.
use Rattle.std.proofs.Math.Path.{◌≡◌, refl}
use Rattle.std.proofs.Common.{sym, ap, ◌∙◌}
use Rattle.std.specs.Prelude.{Bool, not, ℕ, eqb}
use Rattle.std.proofs.Math.Bool.{true, false}
use mathlib.Core.List.{List, [], ◌∷◌, ◌++◌}
use native.Mathlib.Omega.{arith}
use Rattle.std.proofs.lemmas.Bool.{eqb-false, not-true}
use Rattle.lists.specs.Lists.{every}
use Rattle.lists.specs.Bools.{both}
use Rattle.lists.specs.Pick.{pick, pick_false}
use Rattle.kinds.specs.Replies.{refusal_number}
use Rattle.kinds.specs.Tasks.{is_live, waits}
use Rattle.kinds.specs.declared.numbers.TaskNumber.{TaskNumber}
use Rattle.kinds.specs.declared.requests.Request.{Request}
use Rattle.kinds.specs.declared.requests.Request.TheVariants.{Attach, Detach, End, Abend, Enq, Deq, Wait, Post}
use Rattle.kinds.specs.declared.requests.Request.TheVariants.{Clear, Getmain, Freemain, Dispatch}
use Rattle.kinds.specs.declared.replies.Refusal.{Refusal}
use Rattle.kinds.specs.declared.replies.Refusal.TheVariants.{OutOfRange}
use Rattle.std.specs.Prelude.{Ok, Err}
use Rattle.kinds.specs.Replies.{Verdict, Gate}
use Rattle.kinds.specs.declared.replies.No.TheVariants.{Refuse, Fail}
use Rattle.rules.specs.Tests.{No, number_of_no, saying, Check, refuse, first_of, numbers_of, in_order}
use Rattle.rules.specs.Form.{by_caller, ranges_good}
use Rattle.rules.specs.Names.{Names}
use Rattle.rules.specs.Events.{Ecbs}
use Rattle.rules.specs.Family.{condition_of}
use Rattle.rules.specs.Steps.{Step}
use Rattle.rules.specs.Admission.{admission_tests, admitted, caller_tests, gate_of, open_gate}
use Rattle.rules.specs.Serve.{own_tests, service_tests}
use Rattle.rules.specs.DemandOne.{paper_order}

-- THE GATE FIRST

-- what a gate leaves of a verdict
abbrev pub gated : Gate → Verdict → Verdict
gated (Ok _) v = v
gated (Err why) v = Err (Refuse why)

pub gate_by_lem : (a b d : Bool) (ts : List Check)
    → first_of (admission_tests a b d ++ ts) ≡ gated (admitted a b d) (first_of ts)
unfolding admitted pick
gate_by_lem true b d ts = refl
gate_by_lem false false d ts = refl
gate_by_lem false true true ts = refl
gate_by_lem false true false ts = refl

pub gate_first : (s : Step) (c : TaskNumber) (ts : List Check)
    → first_of (caller_tests s c ++ ts) ≡ gated (gate_of s c) (first_of ts)
unfolding gate_of
gate_first s c ts =
    gate_by_lem s.over (is_live (condition_of s.tasks c.0)) (waits (condition_of s.tasks c.0)) ts

-- WHEN THE TESTS SAY A REFUSAL

module _ (why : Refusal) where
  -- a test that says another number
  abbrev another : Check → Bool
  another t = not (eqb (number_of_no t.says) (refusal_number why))

  other : (m : No) → not (eqb (number_of_no m) (refusal_number why)) ≡ true → saying m ≡ Err (Refuse why) → ⊥
  other (Refuse w) h e =
      let d : w ≡ why = cc in
      eqb-false (refusal_number w) (refusal_number why) (not-true _ h) (ap refusal_number d)
  other (Fail w) h e = let z : ◌≡◌ {A = ℕ} 0 1 = cc in omega arith

  pub others : (ts : List Check) → every another ts ≡ true → first_of ts ≡ Err (Refuse why) → ⊥
  unfolding pick
  others [] h e = let z : ◌≡◌ {A = ℕ} 0 1 = cc in omega arith
  others (t ∷ ts) h e = one t.when refl (others ts (both (another t) _ h).1)
    where
      one : (b : Bool) → t.when ≡ b → (first_of ts ≡ Err (Refuse why) → ⊥) → ⊥
      one true q k =
          other t.says (both (another t) _ h).0
          (sym (ap (λ (b : Bool). pick b (saying t.says) (first_of ts)) q) ∙ e)
      one false q k = k (sym (ap (λ (b : Bool). pick b (saying t.says) (first_of ts)) q) ∙ e)

  -- it is what the tests say, exactly when b holds
  pub record SaidWhen (ts : List Check) (b : Bool) : Type 0 where
    pub given : b ≡ true → first_of ts ≡ Err (Refuse why)
    pub when : first_of ts ≡ Err (Refuse why) → b ≡ true

  -- as it is of its own test, if none behind says its number
  pub said_when : (b : Bool) (ts : List Check) → every another ts ≡ true → SaidWhen (refuse why b ∷ ts) b
  unfolding pick
  said_when true ts h = record { given = λ e. refl; when = λ e. refl }
  said_when false ts h = record { given = λ e. cc; when = λ e. absurd (others ts h e) }

  -- and behind a test that does not hold
  pub said_behind : (t : Check) (ts : List Check) (b : Bool) → t.when ≡ false → SaidWhen ts b → SaidWhen (t ∷ ts) b
  said_behind t ts b h d =
      let e = pick_false t.when (saying t.says) (first_of ts) h in
      record { given = λ z. e ∙ d.given z; when = λ z. d.when (sym e ∙ z) }

-- the gate of a request
abbrev pub gate_at : Step → Request → Gate
gate_at s q = by_caller q (gate_of s) (open_gate s)

-- ALL TESTS OF A REQUEST, of which `own` are the service's, behind the gate g

pub record Tested (g : Gate) (tests own : List Check) (good : Bool) : Type 0 where
  pub ordered : in_order (100 ∷ numbers_of tests) paper_order ≡ true
  pub behind : first_of tests ≡ gated g (first_of own)
  pub ranged : SaidWhen OutOfRange own (not good)

-- a service of a caller, whose first test is 101: the numbers are written down, so the order is seen by computing
named : (s : Step) (c : TaskNumber) (good : Bool) (ts : List Check)
    → in_order (100 ∷ numbers_of (caller_tests s c ++ (refuse OutOfRange (not good) ∷ ts))) paper_order ≡ true
    → every (another OutOfRange) ts ≡ true
    → Tested (gate_of s c) (caller_tests s c ++ (refuse OutOfRange (not good) ∷ ts))
    (refuse OutOfRange (not good) ∷ ts) good
named s c good ts o h =
    record {
      ordered = o;
      behind = gate_first s c (refuse OutOfRange (not good) ∷ ts);
      ranged = said_when OutOfRange (not good) ts h;
    }

pub tested : (s : Step) (q : Request) (ns : Names) (es : Ecbs) (space : ℕ)
    → Tested (gate_at s q) (service_tests s q ns es space) (own_tests s q ns es space) (ranges_good q ns es)
unfolding ranges_good open_gate pick
tested s (Attach c lpmod dpmod ecb) ns es space = named s c _ _ refl refl
tested s (Detach c task) ns es space = named s c _ _ refl refl
tested s (End c code) ns es space = named s c _ _ refl refl
tested s (Abend c code step) ns es space = named s c _ _ refl refl
tested s (Enq c ret) ns es space = named s c _ _ refl refl
tested s (Deq c ret) ns es space = named s c _ _ refl refl
tested s (Wait c n) ns es space = named s c _ _ refl refl
tested s (Post c e code) ns es space = named s c _ _ refl refl
tested s (Clear c e) ns es space = named s c _ _ refl refl
tested s (Getmain c bytes subpool conditional) ns es space = named s c _ _ refl refl
tested s (Freemain c address bytes subpool) ns es space = named s c _ _ refl refl
tested s Dispatch ns es space = record {
  ordered = refl;
  behind = gate_by_lem s.over true false [];
  ranged = record { given = λ e. cc; when = λ e. let z : ◌≡◌ {A = ℕ} 0 1 = cc in absurd (omega arith) };
}
