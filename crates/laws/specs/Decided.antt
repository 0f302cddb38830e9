-- The first of a list of tests that holds decides: the verdict is n exactly when n's test holds and none before it
-- does, and to go on exactly when none holds. One law for all services.
use Rattle.std.specs.Prelude.{ℕ, ◌≡◌, Bool, true, false, not}
use Rattle.std.proofs.Math.Path.{refl}
use Rattle.std.proofs.Common.{sym, ap, ◌∙◌, arith}
use mathlib.Core.List.{List, [], ◌∷◌, ◌++◌}
use Rattle.std.proofs.lemmas.Bool.{not-false}
use Rattle.lists.specs.Pick.{pick, chosen}
use Rattle.std.specs.Prelude.{Ok}
use Rattle.kinds.specs.Replies.{Verdict}
use Rattle.kinds.specs.declared.replies.No.TheVariants.{Refuse, Fail}
use Rattle.rules.specs.Tests.{No, saying, Check, first_of, NoneHold, Decides}

module _ (n : No) (after : List Check) where
  past : (bs : List Check) → NoneHold bs → first_of (bs ++ (record { says = n; when = true } ∷ after)) ≡ saying n
  unfolding pick
  past [] h = refl
  past (b ∷ bs) h = rw h.0 (past bs h.1)

same_no : (m n : No) → saying m ≡ saying n → m ≡ n
same_no (Refuse w) (Refuse v) e = cc
same_no (Refuse w) (Fail v) e = cc
same_no (Fail w) (Refuse v) e = cc
same_no (Fail w) (Fail v) e = cc

no_go : (n : No) → saying n ≡ Ok tt → ⊥
no_go (Refuse w) e = let z : ◌≡◌ {A = ℕ} 0 1 = cc in omega arith
no_go (Fail w) e = let z : ◌≡◌ {A = ℕ} 0 1 = cc in omega arith

pub decided : (ts : List Check) (n : No) → Decides ts n → first_of ts ≡ saying n
decided ts n d = ap first_of d.split ∙ past n d.after d.before d.earlier

head : (t : Check) (ts : List Check) (n : No) (b : Bool) → t.when ≡ b
    → pick b (saying t.says) (first_of ts) ≡ saying n
    → (first_of ts ≡ saying n → Decides ts n) → Decides (t ∷ ts) n
unfolding pick
head t ts n true h e k = record {
  before = [];
  after = ts;
  split = (λ i. record { says = same_no t.says n e i; when = h i } ∷ ts);
  earlier = tt;
}
head t ts n false h e k =
    let d = k e in
    record {
      before = t ∷ d.before;
      after = d.after;
      split = ap (λ (us : List Check). t ∷ us) d.split;
      earlier = (h, d.earlier);
    }

pub decides : (ts : List Check) (n : No) → first_of ts ≡ saying n → Decides ts n
decides [] n e = absurd (no_go n (sym e))
decides (t ∷ ts) n e = head t ts n t.when refl e (decides ts n)

-- TO GO ON

rest : (b : Bool) (n : No) (v : Verdict) → pick b (saying n) v ≡ Ok tt → (b ≡ false) × (v ≡ Ok tt)
unfolding pick
rest true n v e = absurd (no_go n e)
rest false n v e = (refl, e)

pub none_hold : (ts : List Check) → first_of ts ≡ Ok tt → NoneHold ts
none_hold [] e = tt
none_hold (t ∷ ts) e =
    let r = rest t.when t.says (first_of ts) e in
    (r.0, none_hold ts r.1)

pub goes_on : (ts : List Check) → NoneHold ts → first_of ts ≡ Ok tt
unfolding pick
goes_on [] h = refl
goes_on (t ∷ ts) h = rw h.0 (goes_on ts h.1)

-- BY THE TESTS THAT THE CODE MADE: a call's result r stands for a test t of which the list has the opposite
pub bad_held : (r t : Bool) → r ≡ t → not r ≡ true → not t ≡ true
bad_held r t e h = ap not (sym e) ∙ h

pub bad_failed : (r t : Bool) → r ≡ t → not r ≡ false → not t ≡ false
bad_failed r t e h = ap not (sym e) ∙ h

pub ruleset judged = (bad_held, bad_failed, chosen)

-- what is not bad is good
pub good_of : (t : Bool) → not t ≡ false → t ≡ true
good_of t h = not-false t h
