-- "WHAT COMES BACK WHEN IT IS NO": the tests of a request as the paper has them, a list in its order, of which the
-- first that holds decides.
use Rattle.std.specs.Prelude.{ℕ, ◌≡◌, Bool, true, false, List, [], ◌∷◌, ◌++◌, map, eqb, Ok, Err}
use Rattle.lists.specs.Pick.{pick}
use Rattle.kinds.specs.Replies.{refusal_number, fault_number, Verdict}
use Rattle.kinds.specs.declared.replies.Refusal.{Refusal}
use Rattle.kinds.specs.declared.replies.Fault.{Fault}
pub use Rattle.kinds.specs.declared.replies.No.{No}
use Rattle.kinds.specs.declared.replies.No.TheVariants.{Refuse, Fail}

-- the number of a no: a refusal's or a program error's
abbrev pub number_of_no : No → ℕ
number_of_no (Refuse why) = refusal_number why
number_of_no (Fail what) = fault_number what

abbrev pub saying : No → Verdict
saying = Err

-- a test: the number that it gives, and when
pub record Check : Type 0 where
  pub says : No
  pub when : Bool

abbrev pub refuse : Refusal → Bool → Check
refuse why b = record { says = Refuse why; when = b }

abbrev pub fail : Fault → Bool → Check
fail what b = record { says = Fail what; when = b }

-- "Tested in this order": the first that holds decides
abbrev pub first_of : List Check → Verdict
first_of [] = Ok tt
first_of (t ∷ ts) = pick t.when (saying t.says) (first_of ts)

-- no test holds
abbrev pub NoneHold : List Check → Type 0
NoneHold [] = Unit
NoneHold (t ∷ ts) = (t.when ≡ false) × NoneHold ts

-- "Given exactly when": n's test holds and no test before it does
pub record Decides (ts : List Check) (n : No) : Type 0 where
  pub before : List Check
  pub after : List Check
  pub split : ts ≡ before ++ (record { says = n; when = true } ∷ after)
  pub earlier : NoneHold before

abbrev pub numbers_of : List Check → List ℕ
numbers_of ts = map (λ (t : Check). number_of_no t.says) ts

-- the numbers stand in an order, each once
abbrev pub in_order : List ℕ → List ℕ → Bool
in_order [] os = true
in_order (n ∷ ns) [] = false
in_order (n ∷ ns) (o ∷ os) = pick (eqb n o) (in_order ns os) (in_order (n ∷ ns) os)
