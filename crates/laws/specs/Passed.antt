-- WHAT GOING ON SAYS OF ENQ AND DEQ: none of their tests holds.
use Rattle.std.specs.Prelude.{◌≡◌, Bool, true, false, ◌&&◌, List, ℕ}
use Rattle.kinds.specs.declared.numbers.TaskNumber.{TaskNumber}
use Rattle.kinds.specs.declared.requests.Ret.{Ret}
use Rattle.kinds.specs.declared.requests.DeqRet.{DeqRet}
use Rattle.std.specs.Prelude.{Ok}
use Rattle.rules.specs.Names.{Names, names_good, asks_system}
use Rattle.rules.specs.Control.{Entry}
use Rattle.rules.specs.Codes.{too_short}
use Rattle.rules.specs.Enq.{enq_codes_due, enq_good, duplicated, too_few_free, enq_tests, enq_verdict}
use Rattle.rules.specs.Deq.{deq_codes_due, unentered, deq_tests, deq_verdict}
use Rattle.laws.specs.Decided.{none_hold, good_of}

-- 104: where codes are due, the codes area has room for them
abbrev pub CodesFit : Bool → ℕ → Names → Type 0
CodesFit due space l = (due && too_short space l) ≡ false

module _ (q : List Entry) (c : TaskNumber) where
  pub record EnqPassed (ret : Ret) (l : Names) (space : ℕ) : Type 0 where
    -- 101
    pub good : enq_good ret l ≡ true
    -- 110: no name is a system name
    pub free : asks_system l ≡ false
    pub coded : CodesFit (enq_codes_due ret) space l
    -- 201: under NONE the caller has an entry for none of them
    pub fresh : duplicated ret q c.0 l ≡ false
    -- 105: entries that are to be queued have room
    pub room : too_few_free ret q c.0 l ≡ false

  pub enq_passed : (ret : Ret) (l : Names) (space : ℕ) → enq_verdict q c ret l space ≡ Ok tt → EnqPassed ret l space
  unfolding enq_verdict
  enq_passed ret l space h =
      let g = none_hold (enq_tests q c ret l space) h in
      record {
        good = good_of (enq_good ret l) g.0;
        free = g.1.0;
        coded = g.1.1.0;
        fresh = g.1.1.1.0;
        room = g.1.1.1.1.0;
      }

  pub record DeqPassed (ret : DeqRet) (l : Names) (space : ℕ) : Type 0 where
    -- 101
    pub good : names_good l ≡ true
    pub coded : CodesFit (deq_codes_due ret) space l
    -- 202: under NONE the caller has an entry for each of them
    pub entered : unentered ret q c.0 l ≡ false

  pub deq_passed : (ret : DeqRet) (l : Names) (space : ℕ) → deq_verdict q c ret l space ≡ Ok tt → DeqPassed ret l space
  unfolding deq_verdict
  deq_passed ret l space h =
      let g = none_hold (deq_tests q c ret l space) h in
      record { good = good_of (names_good l) g.0; coded = g.1.0; entered = g.1.1.0 }
