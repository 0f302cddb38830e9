-- DEMAND 1, its statement: "Any tables and any request can be handed to any entry point. Bad ones get the refusal
-- named in document 01, in its order, and change nothing. A program error ends the calling task by the rules there,
-- and does nothing else."
use Rattle.std.specs.Prelude.{ℕ, ◌≡◌, true, false, List, [], ◌∷◌, ◌⊎◌}
use Rattle.kinds.specs.Replies.{refusal_number, fault_number}
use Rattle.kinds.specs.declared.numbers.TaskNumber.{TaskNumber}
use Rattle.kinds.specs.declared.replies.Refusal.{Refusal}
use Rattle.kinds.specs.declared.replies.Refusal.TheVariants.{OutOfRange}
use Rattle.kinds.specs.declared.replies.Fault.{Fault}
use Rattle.rules.specs.Tests.{No, number_of_no, Check, NoneHold, Decides, numbers_of, in_order}
use Rattle.rules.specs.Form.{caller_of}
use Rattle.rules.specs.Steps.{Step, Outcome, Served, refused, failed, done, untouched, over_step}
use Rattle.rules.specs.Abend.{abend_of}
use Rattle.rules.specs.Fresh.{fresh_step, fresh_good, fresh_of}
use Rattle.rules.specs.Serve.{Asked, serve_of, tests_of}

-- THE PAPER'S ORDER: its table from the top, with 110 of document 02 §2 "after 101 and before 104", the program errors
-- "tested after 104", 204 before 203, 105 "tested after 201", and 205 behind the search that 107 is tested before.
-- No request has both 109 and a program error, so the two could stand either way round. That
-- no test is missing from a service's list is demand 2's: the lists are what it runs by.
abbrev pub paper_order : List ℕ
paper_order =
    100 ∷ 108 ∷ 102 ∷ 103 ∷ 101 ∷ 110 ∷ 104 ∷ 109 ∷ 201 ∷ 202 ∷ 204 ∷ 203 ∷ 206 ∷ 207 ∷ 208 ∷ 105 ∷ 106 ∷ 107 ∷ 205 ∷ []

-- what is promised of an answer r to a request a on tables t, where ts
-- are the request's tests, and abended what ABEND without STEP leaves
module _ (T : Type 0) (ts : List Check) (t : T) (abended : TaskNumber → ℕ → T) (a : Asked) (r : Served T) where
  -- "A program error ends the calling task by the rules there, and does nothing else": "as ABEND without STEP would,
  -- with the error's number as code", 0 besides, and "the codes area is untouched"
  pub record EndsCaller (what : Fault) : Type 0 where
    pub caller : TaskNumber
    pub called : caller.0 ≡ caller_of a.request
    pub leaves : r ≡ untouched a.area (failed what (abended caller (fault_number what)))

  pub record Demand1 : Type 0 where
    -- "in its order"
    pub ordered : in_order (numbers_of ts) paper_order ≡ true
    -- "Bad ones get the refusal named in document 01": n is
    -- answered exactly when n's test holds and none before it does
    pub given : (n : No) → Decides ts n → r.outcome.number ≡ number_of_no n
    pub when : (n : No) → r.outcome.number ≡ number_of_no n → Decides ts n
    -- and where none holds the service is done, or answers 4
    pub goes : NoneHold ts → (r.outcome.number ≡ 0) ⊎ (r.outcome.number ≡ 4)
    -- "and change nothing": neither the tables nor the codes area, and 0 is answered besides
    pub unchanged : (why : Refusal) → r.outcome.number ≡ refusal_number why → r ≡ untouched a.area (refused why t)
    -- "A program error ends the calling task"
    pub ends : (what : Fault) → r.outcome.number ≡ fault_number what → EndsCaller what

-- and of the fresh start: "(else 101, and a step already over with code 0 comes back)"; where its numbers are good, the
-- step that begins comes back
pub record FreshDemand (T : Type 0) (over_now begun : T) (limit dispatching : ℕ) (o : Outcome T) : Type 0 where
  pub given : fresh_good limit dispatching ≡ false → o ≡ refused OutOfRange over_now
  pub starts : fresh_good limit dispatching ≡ true → o ≡ done begun

abbrev pub abended_from : Step → TaskNumber → ℕ → Step
abended_from s c code = (abend_of s c code false).tables

-- THE DEMAND, of the rules; that of the code is in services and, of every call, in calls
pub record DemandOne : Type 0 where
  pub requests : (s : Step) (a : Asked) → Demand1 Step (tests_of s a) s (abended_from s) a (serve_of s a)
  pub starts : (limit dispatching : ℕ)
      → FreshDemand Step (over_step 0) (fresh_step limit dispatching) limit dispatching (fresh_of limit dispatching)
