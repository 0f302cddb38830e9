-- What a service leaves of sound tables is sound, and no second answer fits a promise.
use mathlib.Core.Path.{◌≡◌, ap}
use mathlib.Core.Bool.{true}
use mathlib.Core.List.{List}
use Prim.Native.Nat.{ℕ}
use Rattle.lists.specs.Pick.{pick_true}
use Rattle.kinds.proofs.Once.{reply_once}
use Rattle.rules.specs.Steps.{Step, Outcome, Served, kept_by}
use Rattle.rules.specs.Fresh.{fresh_of}
use Rattle.laws.specs.Kept.{fresh_sound}
use Rattle.services.specs.Kept.{step_of, tables_of, said, said_with, soundb, answered}
use Rattle.services.specs.declared.Tables.{Tables}
use Rattle.services.specs.declared.Answer.{Answer}
use Rattle.services.proofs.Names.{sound_kept}

-- WHAT IS ANSWERED on sound tables
module _ (t : Tables) (f : Step → Outcome Step) (h : soundb t ≡ true) where
  pub answered_is : answered t f ≡ kept_by tables_of (f (step_of t))
  unfolding answered
  answered_is = pick_true (soundb t) _ _ h

-- WHAT A FRESH START LEAVES
pub fresh_leaves_sound : (limit dispatching : ℕ) → soundb (kept_by tables_of (fresh_of limit dispatching)).tables ≡ true
fresh_leaves_sound limit dispatching = sound_kept (fresh_of limit dispatching).tables (fresh_sound limit dispatching)

-- NO SECOND ANSWER

-- the number and what goes besides tell the reply, so two answers that say the same are one
pub answer_once : (a b : Answer) → said a ≡ said b → a ≡ b
answer_once a b e = λ i. record {
  tables = (e i).tables;
  reply = reply_once a.reply b.reply (ap (λ (o : Outcome Tables). o.number) e)
      (ap (λ (o : Outcome Tables). o.besides) e) i;
}

-- and the codes area is determined byte by byte
pub served_once : (a b : Answer) (p q : List ℕ) → said_with a p ≡ said_with b q → (a ≡ b) × (p ≡ q)
served_once a b p q e =
    (answer_once a b (ap (λ (o : Served Tables). o.outcome) e), ap (λ (o : Served Tables). o.codes) e)
