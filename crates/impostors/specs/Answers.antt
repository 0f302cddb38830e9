-- ANSWERS MADE FROM THE RULES: of a service that is right but for one thing.
use Rattle.std.specs.Prelude.{ℕ, ◌≡◌, refl, List}
use denote.Ref.{MutBor, at_last}
use Rattle.kinds.specs.Replies.{number_of, Besides, besides_in, value_of, done_by, reply_of}
use Rattle.kinds.specs.Replies.Besides.{NoValue, NewNumber, TheAddress, TheNumber, TheCount}
use Rattle.kinds.specs.declared.replies.Reply.{Reply}
use Rattle.rules.specs.Steps.{Step, Outcome, Served}
use Rattle.services.specs.Kept.{answered, answered_with}
use Rattle.services.specs.declared.Tables.{Tables}
use Rattle.services.specs.declared.Answer.{Answer}

-- it says 0, and what goes besides
pub done_says : (b : Besides) → (number_of (done_by b) ≡ 0) × (besides_in (done_by b) ≡ b)
done_says NoValue = (refl, refl)
done_says (NewNumber t) = (refl, refl)
done_says (TheAddress a) = (refl, refl)
done_says (TheNumber t) = (refl, refl)
done_says (TheCount n) = (refl, refl)

-- an answer that says an outcome
abbrev pub answer_of : Outcome Tables → Answer
answer_of o = record { tables = o.tables; reply = reply_of o.number o.besides }

-- what a service answers that does this to a sound step, with 100 before it
abbrev pub answering : Tables → (Step → Outcome Step) → Answer
answering t f = answer_of (answered t f)

-- an outcome, but for the step that it leaves
abbrev pub but : Outcome Step → (Step → Step) → Outcome Step
but o f = record { number = o.number; besides = o.besides; tables = f o.tables }

abbrev pub but_served : Served Step → (Step → Step) → Served Step
but_served o f = record { outcome = but o.outcome f; codes = o.codes }

-- VALUES OF ANOTHER KIND, the same to whoever looks at number and value alone: a new task's number is told as an
-- address, an address as the number of the task to go on with, that as a new task's, and a number of items as one too
abbrev pub other_kind : Besides → Besides
other_kind NoValue = NoValue
other_kind (NewNumber t) = TheAddress (record { 0 = t.0 })
other_kind (TheAddress a) = TheNumber (record { 0 = a.0 })
other_kind (TheNumber t) = NewNumber t
other_kind (TheCount n) = NewNumber (record { 0 = n })

pub other_kind_same_value : (b : Besides) → value_of (other_kind b) ≡ value_of b
other_kind_same_value NoValue = refl
other_kind_same_value (NewNumber t) = refl
other_kind_same_value (TheAddress a) = refl
other_kind_same_value (TheNumber t) = refl
other_kind_same_value (TheCount n) = refl

-- a reply and an outcome with their value so told
abbrev pub retold : Reply → Reply
retold r = reply_of (number_of r) (other_kind (besides_in r))

abbrev pub retelling : Outcome Step → Outcome Step
retelling o = record { number = o.number; besides = other_kind o.besides; tables = o.tables }

-- LENT AREAS

-- what is answered by a service that is lent a codes area, its fifth
-- parameter: the answer, and what the parameters are at the end
abbrev pub coding : {B C D : Type 0} → Tables × (B × (C × (D × (MutBor (List ℕ) × Unit {0}))))
    → (Step → List ℕ → Served Step)
    → Answer × (Tables × (B × (C × (D × (MutBor (List ℕ) × Unit {0})))))
coding a f =
    let area = a.1.1.1.1.0 in
    let o = answered_with a.0 area.now f in
    (answer_of o.outcome, (a.0, (a.1.0, (a.1.1.0, (a.1.1.1.0, (at_last area o.codes, tt))))))

-- the same of a report, whose list area is its second parameter
abbrev pub reporting : Tables × (MutBor (List ℕ) × Unit {0}) → (Step → List ℕ → Served Step)
    → Answer × (Tables × (MutBor (List ℕ) × Unit {0}))
reporting a f =
    let area = a.1.0 in
    let o = answered_with a.0 area.now f in
    (answer_of o.outcome, (a.0, (at_last area o.codes, tt)))
