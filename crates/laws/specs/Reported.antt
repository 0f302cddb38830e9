-- THE REPORTS of document 02 §1, whatever they list: no table changes, the first test that holds decides the number,
-- and only what is listed is written.
use Rattle.std.specs.Prelude.{◌≡◌, Bool, List, [], ◌∷◌, ◌++◌, ◌⊎◌, ℕ, ◌≤◌, eqb, ltb, length, drop}
use Rattle.std.proofs.Math.Path.{refl, ap}
use Rattle.std.proofs.Common.{sym, ◌∙◌, inl, inr, arith, length-append, length-drop, eqb-true, ltb-false}
use Rattle.std.proofs.Math.Bool.{true, false}
use Rattle.std.proofs.lemmas.Bool.{eqb-false}
use Rattle.lists.specs.Bools.{decided}
use Rattle.lists.specs.Pick.{pick}
use Rattle.kinds.specs.Replies.Besides.{TheCount}
use Rattle.kinds.specs.declared.replies.Refusal.TheVariants.{StepOver, ShortArea}
use Rattle.std.specs.Prelude.{Ok, Err}
use Rattle.kinds.specs.Replies.{Verdict, Gate}
use Rattle.rules.specs.Tests.{No, number_of_no, Check, refuse, first_of, NoneHold, Decides}
use Rattle.rules.specs.Control.{Entry}
use Rattle.rules.specs.Codes.{written_on}
use Rattle.rules.specs.Steps.{Step, Served}
use Rattle.rules.specs.Admission.{admission_tests, gate_by}
use Rattle.rules.specs.Reports.{ItemList, report_tests, report_gate, reported, report_of}
use Rattle.laws.specs.Decided.{none_hold, goes_on}
use Rattle.laws.specs.Answering.{Sorts, refuses, fails, goes, goes_no_refusal, goes_no_fault, failing_number}
use Rattle.laws.specs.Demanded.{Numbered, sorted, number_given, number_when}

length_written : (bytes area : List ℕ) → length bytes ≤ length area
    → length (bytes ++ drop (length bytes) area) ≡ length area
length_written bytes area h = simp (length-append, length-drop) (omega arith)

-- BY THE GATE
module _ (s : Step) (r : ItemList) (area : List ℕ) where
  keeps_at : (g : Gate) → (reported g s r area).outcome.tables ≡ s
  keeps_at (Ok _) = refl
  keeps_at (Err why) = refl

  unwritten_at : (g : Gate) → ((reported g s r area).outcome.number ≡ 0 → ⊥) → (reported g s r area).codes ≡ area
  unwritten_at (Ok _) h = absurd (h refl)
  unwritten_at (Err why) h = refl

  written_at : (g : Gate) → (reported g s r area).outcome.number ≡ 0
      → ((reported g s r area).outcome.besides ≡ TheCount r.items)
      × ((reported g s r area).codes ≡ r.bytes ++ drop (length r.bytes) area)
  unfolding written_on
  written_at (Ok _) h = (refl, refl)
  written_at (Err why) h = absurd (goes_no_refusal 0 why (inl refl) (sym h))

  -- the step is over or not, the area too short or not
  sorts_at : (over short : Bool)
      → Sorts s 0 area (admission_tests over true false ++ (refuse ShortArea short ∷ []))
      (reported (gate_by (first_of (admission_tests over true false ++ (refuse ShortArea short ∷ [])))) s r area)
  unfolding pick
  sorts_at true short = refuses StepOver refl refl
  sorts_at false true = refuses ShortArea refl refl
  sorts_at false false = goes refl (inl refl)

-- a number is n's exactly when n's test is the first that holds, and 0 exactly when none holds
pub record ReportDecides (ts : List Check) (number : ℕ) : Type 0 where
  pub given : (n : No) → Decides ts n → number ≡ number_of_no n
  pub when : (n : No) → number ≡ number_of_no n → Decides ts n
  pub goes : NoneHold ts → number ≡ 0
  pub none : number ≡ 0 → NoneHold ts

module _ (list : List Entry → ItemList) (s : Step) (area : List ℕ) where
  abbrev report : ItemList
  report = list s.queue

  abbrev tests : List Check
  tests = report_tests s report (length area)

  abbrev answer : Served Step
  answer = report_of list s area

  abbrev gate : Gate
  gate = report_gate s report (length area)

  -- "No table changes"
  pub report_keeps : answer.outcome.tables ≡ s
  report_keeps = keeps_at s report area gate

  -- THE NUMBER
  report_sorts : Sorts s 0 area tests answer
  unfolding report_gate
  report_sorts = sorts_at s report area s.over (ltb (length area) (length report.bytes))

  report_numbered : Numbered tests answer.outcome.number
  report_numbered = sorted s 0 area tests answer report_sorts

  none_when : answer.outcome.number ≡ 0 → NoneHold tests
  none_when e = one report_sorts
    where
      one : Sorts s 0 area tests answer → NoneHold tests
      one (refuses why f k) =
          absurd (goes_no_refusal 0 why (inl refl) (sym e ∙ ap (λ (o : Served Step). o.outcome.number) k))
      one (fails what d c g f k) =
          absurd (goes_no_fault 0 what (inl refl)
          (sym e ∙ ap (λ (o : Served Step). o.outcome.number) k ∙ failing_number what s d))
      one (goes f k) = none_hold tests f

  pub report_decides : ReportDecides tests answer.outcome.number
  unfolding report_gate
  report_decides = record {
    given = number_given tests answer.outcome.number report_numbered;
    when = number_when tests answer.outcome.number report_numbered;
    goes = λ h. ap (λ (v : Verdict). (reported (gate_by v) s report area).outcome.number) (goes_on tests h);
    none = none_when;
  }

  -- THE AREA: any other number leaves it as it was
  pub report_refused_writes_nothing : (answer.outcome.number ≡ 0 → ⊥) → answer.codes ≡ area
  report_refused_writes_nothing h = unwritten_at s report area gate h

  -- and on 0 the items stand at its front, so many as are told besides, and behind them all is as it was
  pub report_besides : answer.outcome.number ≡ 0 → answer.outcome.besides ≡ TheCount report.items
  report_besides e = (written_at s report area gate e).0

  pub report_behind : answer.outcome.number ≡ 0
      → answer.codes ≡ report.bytes ++ drop (length report.bytes) area
  report_behind e = (written_at s report area gate e).1

  pub report_fits : answer.outcome.number ≡ 0 → length report.bytes ≤ length area
  report_fits e = ltb-false (length area) (length report.bytes) (none_when e).1.1.1.0

  pub report_length : length answer.codes ≡ length area
  report_length = one (decided (eqb answer.outcome.number 0))
    where
      one : (eqb answer.outcome.number 0 ≡ true) ⊎ (eqb answer.outcome.number 0 ≡ false)
          → length answer.codes ≡ length area
      one (inl h) =
          let e = eqb-true answer.outcome.number 0 h in
          ap length (report_behind e) ∙ length_written report.bytes area (report_fits e)
      one (inr h) = ap length (report_refused_writes_nothing (eqb-false answer.outcome.number 0 h))
