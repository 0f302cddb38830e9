-- The tests of ENQ and DEQ as the code makes them where the names are good: of the request alone, then of the looks.
use mathlib.Core.Path.{◌≡◌, refl, sym, ap, ◌∙◌}
use mathlib.Core.Bool.{Bool, true, false, not, ◌&&◌, ◌||◌, false≢true, not-not}
use mathlib.Core.List.{List, [], ◌∷◌, ◌++◌, map}
use Prim.Native.Nat.{ℕ, ◌+◌}
use native.Mathlib.Omega.{arith}
use lib.Dec.{eqb, ltb}
use lib.ListN.{length, take, length-map}
use borrow.Author.Tests.{lt-ltb, le-ltb, not-true}
use Rattle.lists.specs.Lists.{keep, every, some, none, how_many, unskipped}
use Rattle.lists.specs.Pick.{pick, pick_true, pick_false}
use Rattle.lists.specs.Tables.{padded, padded_take}
use Rattle.lists.specs.Setting.{how_many_map}
use Rattle.lists.specs.Counting.{how_many_keep}
use Rattle.lists.specs.Bools.{both}
use Rattle.lists.specs.Keeping.{keep_among, keep_all, take_map}
use Rattle.lists.specs.Skipping.{unskipped_flags}
use Rattle.kinds.specs.Limits.{longest_list, most_entries}
use Rattle.kinds.specs.declared.names.Pointed.{Pointed}
use Rattle.kinds.specs.declared.names.PointedList.{PointedList}
use Rattle.kinds.specs.declared.numbers.TaskNumber.{TaskNumber}
use Rattle.kinds.specs.declared.requests.Ret.{Ret}
use Rattle.kinds.specs.declared.requests.Ret.TheVariants.{None, Test, Use, Have, Chng}
use Rattle.kinds.specs.declared.requests.DeqRet.{DeqRet}
use Rattle.kinds.specs.declared.requests.DeqRet.TheVariants.{None as DeqNone, Have as DeqHave}
use Rattle.std.specs.Prelude.{Ok, Err, is_err}
use Rattle.kinds.specs.Replies.{Verdict}
use Rattle.kinds.specs.declared.replies.No.TheVariants.{Refuse, Fail}
use Rattle.kinds.specs.declared.replies.Refusal.TheVariants.{NoEntryFree}
use Rattle.kinds.specs.declared.replies.Fault.TheVariants.{DuplicateEnq, DeqWithoutEntry}
use Rattle.names.proofs.Listed.{good_count}
use Rattle.names.specs.Pointers.{pointed_ask, pointed_in, lawful_pointer}
use Rattle.rules.specs.Names.{Ask, Names, name_of, names_of, legal, lawful, names_good, asks_system}
use Rattle.rules.specs.Control.{Entry, has_entry}
use Rattle.rules.specs.Codes.{all_zero}
use Rattle.rules.specs.Tests.{No, saying, Check, refuse, fail, first_of}
use Rattle.rules.specs.Admission.{on_go}
use Rattle.rules.specs.Enq.{enq_code, enq_codes_due, enq_good, enq_verdict, duplicated, fresh, to_queue, too_few_free}
use Rattle.rules.specs.Deq.{deq_code, deq_codes_due, deq_verdict, unentered}
use Rattle.laws.specs.InRange.{enq_names}
use Rattle.laws.specs.LawfulNames.{lawful_each}
use Rattle.laws.specs.ToQueue.{to_queue_fresh}
use Rattle.queue.specs.Flagging.{flags_of}
use Rattle.resources.specs.Looking.{no_looks, looks_of, entered, held_code, enq_looks, deq_looks, queues_by}
use Rattle.resources.specs.Looking.{fresh_names, few_free, enq_asked, deq_asked, enq_weighed, deq_weighed, unlooked_by}
use Rattle.resources.specs.Serving.{}
use Rattle.resources.specs.declared.looks.Looks.{Looks}
use Rattle.resources.specs.declared.Found.{Found}

-- names that the tests let pass are no more than the array holds
pub ruleset named = (good_count, enq_names)

-- FIRST THESE TESTS, AND THEN THOSE

split : (ts us : List Check) → first_of (ts ++ us) ≡ on_go (first_of ts) (first_of us) (first_of ts)
unfolding pick
split [] us = refl
split (t ∷ ts) us = one t.when t.says (first_of (ts ++ us)) (first_of ts) (split ts us)
  where
    one : (b : Bool) (n : No) (a v : Verdict) → a ≡ on_go v (first_of us) v
        → pick b (saying n) a ≡ on_go (pick b (saying n) v) (first_of us) (pick b (saying n) v)
    one true n a v e = refl
    one false n a v e = e

-- what the test of a verdict says
pub go_is : (v : Verdict) (b : Bool) → b ≡ is_err v → b ≡ false → v ≡ Ok tt
go_is (Ok _) b e h = refl
go_is (Err n) b e h = absurd (false≢true (sym h ∙ e))

-- the verdict, and the looks that are made where the first tests go on
abbrev pub found_by : Verdict → Verdict → Looks → Found
found_by first then looks = record { verdict = on_go first then first; looks = on_go first looks no_looks }

-- a verdict whose tests are these, and then those
module _ (ts us : List Check) (looks : Looks) (all : Verdict) (parts : all ≡ first_of (ts ++ us)) where
  abbrev found : Found
  found = record { verdict = all; looks = on_go (first_of ts) looks no_looks }

  first_then : all ≡ on_go (first_of ts) (first_of us) (first_of ts)
  first_then = parts ∙ split ts us

  found_is : found_by (first_of ts) (first_of us) looks ≡ found
  found_is = λ i. record { verdict = sym first_then i; looks = on_go (first_of ts) looks no_looks }

  pub found_stops : (r : Found) (v : Verdict) (b : Bool) → v ≡ first_of ts → b ≡ is_err v → b ≡ true → r ≡ unlooked_by v
      → r ≡ found
  found_stops r v b e g h p = p ∙ one v (sym g ∙ h) ∙ ap (λ (u : Verdict). found_by u (first_of us) looks) e ∙ found_is
    where
      one : (u : Verdict) → is_err u ≡ true → unlooked_by u ≡ found_by u (first_of us) looks
      one (Ok _) k = absurd (false≢true k)
      one (Err n) k = refl

  pub found_goes : (r : Found) (v : Verdict) → v ≡ first_of ts → v ≡ Ok tt → r.verdict ≡ first_of us → r.looks ≡ looks
      → r ≡ found
  found_goes r v e h p k =
      (λ i. record { verdict = p i; looks = k i })
      ∙ ap (λ (u : Verdict). found_by u (first_of us) looks) (sym h ∙ e) ∙ found_is

  -- where they all go on, the looks were made
  pub found_went : (r : Found) (b : Bool) → r ≡ found → b ≡ is_err r.verdict → b ≡ false
      → (all ≡ Ok tt) × (r.looks ≡ looks)
  found_went r b e g h =
      let v = sym (ap (λ (x : Found). x.verdict) e) ∙ go_is r.verdict b g h in
      (v, ap (λ (x : Found). x.looks) e ∙ one (first_of ts) (sym first_then ∙ v))
    where
      one : (u : Verdict) → on_go u (first_of us) u ≡ Ok tt → on_go u looks no_looks ≡ looks
      one (Ok _) k = refl
      one (Err n) k = cc

-- the tests of the queue, behind those of the request
abbrev pub enq_rest : List Entry → ℕ → Ret → Names → List Check
enq_rest q c ret l = fail DuplicateEnq (duplicated ret q c l) ∷ refuse NoEntryFree (too_few_free ret q c l) ∷ []

abbrev pub deq_rest : List Entry → ℕ → DeqRet → Names → List Check
deq_rest q c ret l = fail DeqWithoutEntry (unentered ret q c l) ∷ []

-- no name that is given by its offset is a system name
pub no_system : (l : PointedList) → asks_system (pointed_in l) ≡ false
unfolding asks_system
no_system l =
    let ns = names_of (pointed_in l) in
    let e = ap (λ (k : List Ask). every lawful (map name_of k)) (take_map pointed_ask l.count l.names) in
    not-true _ (both (every legal ns) _ (sym (lawful_each ns) ∙ e ∙ all (take l.count l.names))).1
  where
    all : (k : List Pointed) → every lawful (map name_of (map pointed_ask k)) ≡ true
    all [] = refl
    all (p ∷ k) = rw (lawful_pointer p.name.0) (all k)

-- where the names are good, the rules' tests are these two parts
pub enq_parts : (q : List Entry) (c : TaskNumber) (ret : Ret) (l : PointedList) (room : ℕ)
    → enq_good ret (pointed_in l) ≡ true
    → enq_verdict q c ret (pointed_in l) room
    ≡ first_of (enq_asked ret (pointed_in l) room ++ enq_rest q c.0 ret (pointed_in l))
unfolding enq_verdict pick
enq_parts q c ret l room h = rw (h, no_system l)

pub deq_parts : (q : List Entry) (c : TaskNumber) (ret : DeqRet) (l : Names) (room : ℕ) → names_good l ≡ true
    → deq_verdict q c ret l room ≡ first_of (deq_asked ret l room ++ deq_rest q c.0 ret l)
unfolding deq_verdict pick
deq_parts q c ret l room h = rw h

-- UNDER NONE a code other than 0 is the error
module _ (q : List Entry) (c : ℕ) where
  have_zeros : (l : List Ask) → all_zero (map (enq_code Have q c) l) ≡ not (some (entered q c) l)
  unfolding enq_code pick
  have_zeros [] = refl
  have_zeros (a ∷ l) = one (entered q c a) (have_zeros l)
    where
      one : (b : Bool) → all_zero (map (enq_code Have q c) l) ≡ not (some (entered q c) l)
          → (eqb 0 (pick b 8 0) && all_zero (map (enq_code Have q c) l)) ≡ not (b || some (entered q c) l)
      one true e = refl
      one false e = e

  pub duplicated_is : (ret : Ret) (l : Names)
      → (not (enq_codes_due ret) && not (enq_looks ret q c l).zero) ≡ duplicated ret q c l
  unfolding looks_of
  duplicated_is None l = ap not (have_zeros l.asks) ∙ not-not (some (entered q c) l.asks)
  duplicated_is Test l = refl
  duplicated_is Use l = refl
  duplicated_is Have l = refl
  duplicated_is Chng l = refl

  deq_zeros : (l : List Ask) → all_zero (map (held_code q c) l) ≡ every (has_entry q c) (map name_of l)
  unfolding deq_code pick
  deq_zeros [] = refl
  deq_zeros (a ∷ l) = one (entered q c a) (deq_zeros l)
    where
      one : (b : Bool) → all_zero (map (held_code q c) l) ≡ every (has_entry q c) (map name_of l)
          → (eqb 0 (pick b 0 8) && all_zero (map (held_code q c) l)) ≡ (b && every (has_entry q c) (map name_of l))
      one true e = e
      one false e = refl

  pub unentered_is : (ret : DeqRet) (l : Names)
      → (not (deq_codes_due ret) && not (deq_looks q c l).zero) ≡ unentered ret q c l
  unfolding looks_of
  unentered_is DeqNone l = ap not (deq_zeros l.asks)
  unentered_is DeqHave l = refl

-- WHAT IS QUEUED: the names that the caller has no entry for, wherever a RET kind queues
module _ (ret : Ret) (q : List Entry) (c : ℕ) (l : Names) where
  abbrev has : List Bool
  has = (enq_looks ret q c l).has.of

  fresh_left : unskipped has l.asks ≡ keep (fresh q c) l.asks
  unfolding looks_of flags_of padded
  fresh_left = unskipped_flags (entered q c) _ l.asks

  -- unless it is error 201
  module _ (d : duplicated ret q c l ≡ false) where
    all_left : to_queue ret q c l ≡ l.asks → keep (fresh q c) l.asks ≡ to_queue ret q c l
    all_left e =
        let h = ap (every (fresh q c)) (sym e) ∙ to_queue_fresh q c ret l d in
        keep_among (fresh q c) (fresh q c) (λ (a : Ask). true) (λ a u. u) l.asks h ∙ keep_all l.asks ∙ sym e

  few_as : (m : ℕ) → m ≡ length (to_queue ret q c l)
      → (ltb 0 m && ltb most_entries (length q + m)) ≡ too_few_free ret q c l
  unfolding too_few_free
  few_as m e =
      let k = to_queue ret q c l in
      ap (λ (n : ℕ). ltb 0 n && ltb most_entries (length q + n)) e
      ∙ ap (λ (b : Bool). b && ltb most_entries (length q + length k)) (some_queued k)
    where
      some_queued : (k : List Ask) → ltb 0 (length k) ≡ not (none k)
      some_queued [] = le-ltb 0 0 (omega arith)
      some_queued (a ∷ k) = lt-ltb 0 (length (a ∷ k)) (omega arith)

  fresh_counted : fresh_names (enq_looks ret q c l).has (length l.asks) ≡ length (keep (fresh q c) l.asks)
  unfolding looks_of flags_of
  fresh_counted =
      let flags = map (entered q c) l.asks in
      ap (λ (n : ℕ). how_many not (take n (padded longest_list false flags))) (sym (length-map l.asks (entered q c)))
      ∙ ap (how_many not) (padded_take longest_list false flags)
      ∙ how_many_map (entered q c) (fresh q c) not (λ a. refl) l.asks ∙ sym (how_many_keep (fresh q c) l.asks)

-- those that come, and none where a RET kind does not queue
fresh_queued : (ret : Ret) (q : List Entry) (c : ℕ) (l : Names) → duplicated ret q c l ≡ false
    → queues_by ret (enq_looks ret q c l).zero ≡ true → keep (fresh q c) l.asks ≡ to_queue ret q c l
unfolding looks_of to_queue
fresh_queued None q c l d h = all_left None q c l d refl
fresh_queued Test q c l d h = absurd (false≢true h)
fresh_queued Use q c l d h = all_left Use q c l d (pick_true _ l.asks [] h)
fresh_queued Have q c l d h = refl
fresh_queued Chng q c l d h = absurd (false≢true h)

none_queued : (ret : Ret) (q : List Entry) (c : ℕ) (l : Names) → queues_by ret (enq_looks ret q c l).zero ≡ false
    → to_queue ret q c l ≡ []
unfolding looks_of to_queue
none_queued None q c l h = absurd (false≢true (sym h))
none_queued Test q c l h = refl
none_queued Use q c l h = pick_false _ l.asks [] h
none_queued Have q c l h = absurd (false≢true (sym h))
none_queued Chng q c l h = refl

module _ (ret : Ret) (q : List Entry) (c : ℕ) (l : Names) where
  pub queued_left : duplicated ret q c l ≡ false → queues_by ret (enq_looks ret q c l).zero ≡ true
      → unskipped (enq_looks ret q c l).has.of l.asks ≡ to_queue ret q c l
  queued_left d h = fresh_left ret q c l ∙ fresh_queued ret q c l d h

  -- 105
  few_is : duplicated ret q c l ≡ false
      → few_free ret (enq_looks ret q c l) (length q) (length l.asks) ≡ too_few_free ret q c l
  unfolding few_free
  few_is d = one (queues_by ret (enq_looks ret q c l).zero) refl
    where
      m : ℕ
      m = fresh_names (enq_looks ret q c l).has (length l.asks)

      one : (b : Bool) → queues_by ret (enq_looks ret q c l).zero ≡ b
          → (b && (ltb 0 m && ltb most_entries (length q + m))) ≡ too_few_free ret q c l
      one true h = few_as ret q c l m (fresh_counted ret q c l ∙ ap length (fresh_queued ret q c l d h))
      one false h = few_as ret q c l 0 (ap length (sym (none_queued ret q c l h)))

  abbrev twice : Verdict
  twice = Err (Fail DuplicateEnq)

  abbrev full : Verdict
  full = Err (Refuse NoEntryFree)

  -- 201 and 105
  pub weighed_is : (looks : Looks) (count n : ℕ) → looks ≡ enq_looks ret q c l → count ≡ length q
      → n ≡ length l.asks → first_of (enq_weighed ret looks count n) ≡ first_of (enq_rest q c ret l)
  unfolding pick
  weighed_is looks count n e p k =
      rw (e, p, k, duplicated_is q c ret l) (one (duplicated ret q c l) refl)
    where
      one : (b : Bool) → duplicated ret q c l ≡ b
          → pick b twice (pick (few_free ret (enq_looks ret q c l) (length q) (length l.asks)) full (Ok tt))
          ≡ pick b twice (pick (too_few_free ret q c l) full (Ok tt))
      one true d = refl
      one false d = ap (λ (x : Bool). pick x full (Ok tt)) (few_is d)

-- 202
pub deq_weighed_is : (ret : DeqRet) (q : List Entry) (c : ℕ) (l : Names) (looks : Looks) → looks ≡ deq_looks q c l
    → first_of (deq_weighed ret looks.zero) ≡ first_of (deq_rest q c ret l)
deq_weighed_is ret q c l looks e = rw (e, unentered_is q c ret l)
