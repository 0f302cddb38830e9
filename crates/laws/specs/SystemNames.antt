-- DOCUMENT 02 §2, as laws: ENQ keeps off the system's names, and no sound step holds one.
use Rattle.std.specs.Prelude.{◌≡◌, Bool, true, ◌||◌, List, [], ◌∷◌, map, ℕ, length}
use Rattle.std.proofs.Math.Path.{refl}
use Rattle.std.proofs.Common.{sym, ap, ◌∙◌}
use Rattle.std.proofs.Math.Bool.{false, not, and-false}
use Rattle.std.proofs.lemmas.Bool.{false≢true, not-true}
use Rattle.lists.specs.Lists.{every, some}
use Rattle.lists.specs.Bools.{both, never, or_left, or_right}
use Rattle.lists.specs.Every.{every_of, some_of}
use Rattle.lists.specs.Pick.{pick_true, pick_false}
use Rattle.kinds.specs.Replies.{refusal_number, fault_number}
use Rattle.kinds.specs.declared.numbers.TaskNumber.{TaskNumber}
use Rattle.kinds.specs.declared.requests.Request.TheVariants.{Enq, Deq}
use Rattle.kinds.specs.declared.requests.Ret.{Ret}
use Rattle.kinds.specs.declared.requests.DeqRet.{DeqRet}
use Rattle.kinds.specs.declared.requests.DeqRet.TheVariants.{None, Have}
use Rattle.kinds.specs.declared.replies.Refusal.TheVariants.{Unsound, OutOfRange, SystemName}
use Rattle.kinds.specs.declared.replies.Fault.TheVariants.{DeqWithoutEntry}
use Rattle.std.specs.Prelude.{Ok}
use Rattle.kinds.specs.declared.replies.No.TheVariants.{Refuse, Fail}
use Rattle.rules.specs.Tests.{refuse}
use Rattle.rules.specs.Names.{Resource, same_name, legal, is_system, lawful, Names, names_of, names_good, asks_system}
use Rattle.rules.specs.Control.{Entry, of_task, has_entry}
use Rattle.rules.specs.Events.{Ecbs}
use Rattle.rules.specs.Steps.{Step, refused, untouched}
use Rattle.rules.specs.Admission.{gate_of}
use Rattle.rules.specs.Enq.{enq_good, enq_tests}
use Rattle.rules.specs.Deq.{deq_code}
use Rattle.rules.specs.SoundQueue.{entry_names_good}
use Rattle.rules.specs.Sound.{sound_step}
use Rattle.rules.specs.Serve.{Asked, serve_of, tests_of}
use Rattle.laws.specs.Failing.{Sound}
use Rattle.laws.specs.Bounds.{sound_bounded}
use Rattle.laws.specs.SameNames.{name_eq}
use Rattle.laws.specs.LawfulNames.{lawful_each}
use Rattle.laws.specs.Decided.{decided}
use Rattle.laws.specs.Tested.{SaidWhen, said_when, said_behind, others}
use Rattle.laws.specs.Demanded.{demand_one}
use Rattle.laws.specs.Formed.{own_answered, answered_own}

abbrev name_in : Entry → Resource
name_in e = e.name

-- an entry for a system name
abbrev pub for_system : Entry → Bool
for_system e = is_system e.name

-- an ENQ, and a DEQ, with its names, its codes area and whatever ECBs
abbrev pub enq_asked : TaskNumber → Ret → Names → Ecbs → List ℕ → Asked
enq_asked c ret l es area = record { request = Enq c ret; names = l; ecbs = es; area = area }

abbrev pub deq_asked : TaskNumber → DeqRet → Names → Ecbs → List ℕ → Asked
deq_asked c ret l es area = record { request = Deq c ret; names = l; ecbs = es; area = area }

-- "ENQ refuses with 110 any list with a major name whose first three bytes are hexadecimal E2 E8 E2. The test comes
-- after 101 and before 104.": on a sound step, with an open gate and a list that 101 lets pass, whatever the RET kind
-- and the codes area
module _ (s : Step) (c : TaskNumber) (ret : Ret) (l : Names) (es : Ecbs) (area : List ℕ) (h : Sound s)
    (o : gate_of s c ≡ Ok tt) (good : enq_good ret l ≡ true) where
  abbrev asked : Asked
  asked = enq_asked c ret l es area

  said : SaidWhen SystemName (enq_tests s.queue c ret l (length area)) (asks_system l)
  said =
      said_behind SystemName (refuse OutOfRange (not (enq_good ret l))) _ _ (ap not good)
      (said_when SystemName (asks_system l) _ refl)

  -- 110 is answered, and neither the step nor a byte of the area changes ..
  pub system_refused : asks_system l ≡ true → serve_of s asked ≡ untouched area (refused SystemName s)
  system_refused e =
      (demand_one.requests s asked).unchanged SystemName (own_answered s asked h o (Refuse SystemName) (said.given e))

  -- .. exactly when some name of the list is a system name
  pub system_only : (serve_of s asked).outcome.number ≡ refusal_number SystemName → asks_system l ≡ true
  system_only e = said.when (answered_own s asked h o (Refuse SystemName) e)

-- "Sound tables hold no such name."

lawful_free : (q : List Entry) → entry_names_good q ≡ true → some for_system q ≡ false
unfolding entry_names_good
lawful_free q h =
    let ns = map name_in q in
    let k = sym (lawful_each ns) ∙ every_of name_in lawful q ∙ h in
    sym (some_of name_in is_system q) ∙ not-true _ (both (every legal ns) _ k).1

pub sound_no_system : (s : Step) → Sound s → some for_system s.queue ≡ false
sound_no_system s h = lawful_free s.queue (sound_bounded s h).names

-- so a step with an entry for one answers 100 to every request
pub system_unsound : (s : Step) (a : Asked) → some for_system s.queue ≡ true
    → serve_of s a ≡ untouched a.area (refused Unsound s)
unfolding serve_of
system_unsound s a y = one (sound_step s) refl
  where
    one : (b : Bool) → sound_step s ≡ b → serve_of s a ≡ untouched a.area (refused Unsound s)
    one true h = absurd (never _ y (sound_no_system s h))
    one false h = pick_false (sound_step s) _ _ h

-- "DEQ isn't changed.": it never answers 110, on any step; and on a sound one nobody has an entry for a system name, so
-- HAVE gives 8 and NONE is 202

pub deq_no_110 : (s : Step) (c : TaskNumber) (ret : DeqRet) (l : Names) (es : Ecbs) (area : List ℕ)
    → (serve_of s (deq_asked c ret l es area)).outcome.number ≡ refusal_number SystemName → ⊥
deq_no_110 s c ret l es area e =
    let a = deq_asked c ret l es area in
    others SystemName (tests_of s a) refl
    (decided (tests_of s a) (Refuse SystemName) ((demand_one.requests s a).when (Refuse SystemName) e))

-- a name that is not the system's is another than one that is
another_name : (m n : Resource) → is_system m ≡ false → is_system n ≡ true → same_name m n ≡ false
another_name m n h y = one (same_name m n) refl
  where
    one : (b : Bool) → same_name m n ≡ b → same_name m n ≡ false
    one true e = absurd (never (is_system n) y (sym (ap is_system (name_eq m n e)) ∙ h))
    one false e = e

no_entry : (q : List Entry) (t : ℕ) (n : Resource) → some for_system q ≡ false → is_system n ≡ true
    → has_entry q t n ≡ false
no_entry [] t n h y = refl
no_entry (e ∷ q) t n h y =
    rw (another_name e.name n (or_left (for_system e) _ h) y, and-false (of_task t e))
    (no_entry q t n (or_right (for_system e) _ h) y)

some_unentered : (q : List Entry) (t : ℕ) (ns : List Resource) → some for_system q ≡ false → some is_system ns ≡ true
    → every (has_entry q t) ns ≡ false
some_unentered q t [] h y = absurd (false≢true y)
some_unentered q t (n ∷ ns) h y = one (is_system n) refl (λ k. some_unentered q t ns h k)
  where
    one : (b : Bool) → is_system n ≡ b → (some is_system ns ≡ true → every (has_entry q t) ns ≡ false)
        → every (has_entry q t) (n ∷ ns) ≡ false
    one true e k = rw (no_entry q t n h e)
    one false e k = rw (k (sym (ap (λ (b : Bool). b || some is_system ns) e) ∙ y)) (and-false (has_entry q t n))

module _ (s : Step) (h : Sound s) where
  pub system_deq_code : (t : ℕ) (n : Resource) → is_system n ≡ true → deq_code Have s.queue t n ≡ 8
  unfolding deq_code
  system_deq_code t n y = pick_false _ 0 8 (no_entry s.queue t n (sound_no_system s h) y)

  pub system_deq_error : (c : TaskNumber) (l : Names) (es : Ecbs) (area : List ℕ) → gate_of s c ≡ Ok tt
      → names_good l ≡ true → asks_system l ≡ true
      → (serve_of s (deq_asked c None l es area)).outcome.number ≡ fault_number DeqWithoutEntry
  unfolding asks_system
  system_deq_error c l es area o good y =
      own_answered s (deq_asked c None l es area) h o (Fail DeqWithoutEntry)
      (pick_false (not (names_good l)) _ _ (ap not good) ∙ pick_false false _ _ refl
      ∙ pick_true _ _ _ (ap not (some_unentered s.queue c.0 (names_of l) (sound_no_system s h) y)))
