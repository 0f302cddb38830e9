-- What going on says of ENQ and DEQ: their codes, the room for new entries, the caller's wait, and what changes.
use mathlib.Core.Path.{◌≡◌, refl, sym, ap, ◌∙◌}
use mathlib.Core.Bool.{Bool, true, false, not, ◌&&◌, false≢true, not-not}
use mathlib.Core.List.{List, [], ◌∷◌, map, map-map}
use Prim.Native.Nat.{ℕ, ◌+◌, ◌≤◌}
use native.Mathlib.Omega.{arith}
use lib.ListN.{length, take, length-map}
use borrow.Author.Tests.{not-false}
use Rattle.lists.specs.Pick.{pick, pick_true, pick_false}
use Rattle.lists.specs.Lists.{every, unskipped}
use Rattle.kinds.specs.Limits.{most_entries}
use Rattle.kinds.specs.declared.names.PointedList.{PointedList}
use Rattle.kinds.specs.declared.numbers.TaskNumber.{TaskNumber}
use Rattle.std.specs.Prelude.{Ok, is_err}
use Rattle.kinds.specs.declared.requests.DeqRet.{DeqRet}
use Rattle.kinds.specs.declared.requests.DeqRet.TheVariants.{None as DeqNone, Have as DeqHave}
use Rattle.kinds.specs.declared.requests.Ret.{Ret}
use Rattle.kinds.specs.declared.requests.Ret.TheVariants.{None, Test, Use, Have, Chng}
use Rattle.kinds.specs.declared.tasks.Task.{Task}
use Rattle.rules.specs.Admission.{gate_of}
use Rattle.names.specs.Pointers.{pointed_in}
use Rattle.names.proofs.Listed.{good_count}
use Rattle.rules.specs.Names.{Ask, Names, name_of, names_of, names_good}
use Rattle.rules.specs.Control.{Entry, available}
use Rattle.rules.specs.Codes.{all_zero, written_on}
use Rattle.rules.specs.Steps.{Step, with_tasks, with_queue}
use Rattle.rules.specs.Enq.{enq_code, enq_codes, enq_codes_due, duplicated, to_queue, enq_verdict, made_exclusive}
use Rattle.rules.specs.Enq.{enq_good, only_if_zero, enq_change}
use Rattle.rules.specs.Deq.{deq_code, deq_codes, deq_codes_due, unentered, deq_verdict}
use Rattle.laws.specs.Running.{Running}
use Rattle.laws.specs.InRange.{enq_names}
use Rattle.laws.specs.KeptQueue.{zero_sole, tail_leaves}
use Rattle.laws.specs.Passed.{enq_passed}
use Rattle.laws.specs.Changing.{chng_waits}
use Rattle.laws.specs.ToQueue.{to_queue_room, use_zero}
use Rattle.queue.specs.Queues.{entries_in, PackedEntries}
use Rattle.queue.proofs.Views.{entries_count}
use Rattle.queue.specs.declared.Queue.{Queue}
use Rattle.resources.specs.Coding.{codes_of, codes_front}
use Rattle.resources.specs.Looking.{looks_of, looks_as, held_code, enq_asked, deq_asked, enq_looks, deq_looks}
use Rattle.resources.specs.Looking.{queues_by, enq_found, deq_found}
use Rattle.resources.specs.Serving.{EnqTold, caller_waits, queue_left, tasks_left, written_if}
use Rattle.resources.specs.declared.looks.Looks.{Looks}
use Rattle.resources.specs.declared.Found.{Found}
use Rattle.resources.proofs.Judged.{found_went, enq_rest, deq_rest, enq_parts, deq_parts, duplicated_is}
use Rattle.resources.proofs.Judged.{unentered_is, queued_left}

-- THE CODES

-- what was looked for are the rules' codes where these are due, and else every one of these is 0
record Agree (due : Bool) (looked codes : List ℕ) : Type 0 where
  same : due ≡ true → looked ≡ codes
  zeros : due ≡ false → all_zero codes ≡ true

are_due : {looked codes : List ℕ} → looked ≡ codes → Agree true looked codes
are_due e = record { same = λ h. e; zeros = λ h. absurd (false≢true (sym h)) }

none_due : {A : Type 0} (f : A → ℕ) → ((a : A) → f a ≡ 0) → (looked : List ℕ) (l : List A)
    → Agree false looked (map f l)
none_due f z looked l = record { same = λ h. absurd (false≢true h); zeros = λ h. all l }
  where
    all : (k : List _) → all_zero (map f k) ≡ true
    all [] = refl
    all (a ∷ k) = rw (z a) (all k)

-- so unless it is an error, whether every code is 0 is told
agree_zero : (due : Bool) {looked codes : List ℕ} → Agree due looked codes
    → (not due && not (all_zero looked)) ≡ false → all_zero looked ≡ all_zero codes
agree_zero true a h = ap all_zero (a.same refl)
agree_zero false a h = not-false _ h ∙ sym (a.zeros refl)

-- and what is written, of the front, is what the rules say
agree_written : (due d : Bool) {codes : List ℕ} (g : Ask → ℕ) (l : Names) (area : List ℕ)
    → Agree due (map g l.asks) codes → d ≡ due
    → written_if d (take (length l.asks) (codes_of (map g l.asks)).bytes) area ≡ written_if due codes area
unfolding pick
agree_written true d g l area a e =
    rw e (ap (λ (k : List ℕ). written_on k area) (codes_front _ _ (length-map l.asks g) ∙ a.same refl))
agree_written false d g l area a e = rw e

-- ENQ
pub enq_told : (q : List Entry) (c : TaskNumber) (ret : Ret) (l : PointedList) (room : ℕ) (k : Found) (b : Bool)
    → enq_good ret (pointed_in l) ≡ true → k ≡ enq_found q c ret (pointed_in l) room → b ≡ is_err k.verdict
    → b ≡ false
    → (enq_verdict q c ret (pointed_in l) room ≡ Ok tt) × EnqTold ret q c.0 (pointed_in l) k.looks
enq_told q c ret l room k b n e g h =
    let ns = pointed_in l in
    let w = found_went (enq_asked ret ns room) (enq_rest q c.0 ret ns) (enq_looks ret q c.0 ns) _
    (enq_parts q c ret l room n) k b e g h in
    let p = enq_passed q c ret ns room w.0 in
    (w.0, record { good = enq_names ret ns n; fresh = p.fresh; room = p.room; seen = w.1 })

module _ (q : List Entry) (c : ℕ) where
  enq_agree : (ret : Ret) (l : Names)
      → Agree (enq_codes_due ret) (map (enq_code (looks_as ret) q c) l.asks) (enq_codes ret q c l)
  unfolding enq_code
  enq_agree None l = none_due (enq_code None q c) (λ a. refl) _ l.asks
  enq_agree Test l = are_due refl
  enq_agree Use l = are_due refl
  enq_agree Have l = are_due refl
  enq_agree Chng l = are_due refl

  zero_as : (ret : Ret) (l : Names) → duplicated ret q c l ≡ false
      → (enq_looks ret q c l).zero ≡ all_zero (enq_codes ret q c l)
  unfolding looks_of
  zero_as ret l d = agree_zero (enq_codes_due ret) (enq_agree ret l) (duplicated_is q c ret l ∙ d)

  pub zero_told : {ret : Ret} {l : Names} {looks : Looks} → EnqTold ret q c l looks
      → looks.zero ≡ all_zero (enq_codes ret q c l)
  zero_told {ret} {l} u = ap (λ (k : Looks). k.zero) u.seen ∙ zero_as ret l u.fresh

  pub enq_written_lem : {ret : Ret} {l : Names} {looks : Looks} (d : Bool) (area : List ℕ) → EnqTold ret q c l looks
      → d ≡ enq_codes_due ret
      → written_if d (take (length l.asks) looks.codes.bytes) area
      ≡ written_if (enq_codes_due ret) (enq_codes ret q c l) area
  unfolding looks_of
  enq_written_lem {ret} {l} d area u p =
      rw u.seen (agree_written (enq_codes_due ret) d _ l area (enq_agree ret l) p)

-- DEQ
pub deq_told : (q : List Entry) (c : TaskNumber) (ret : DeqRet) (l : Names) (room : ℕ) (k : Found) (b : Bool)
    → names_good l ≡ true → k ≡ deq_found q c ret l room → b ≡ is_err k.verdict → b ≡ false
    → (deq_verdict q c ret l room ≡ Ok tt) × (k.looks ≡ deq_looks q c.0 l)
deq_told q c ret l room k b n =
    found_went (deq_asked ret l room) (deq_rest q c.0 ret l) (deq_looks q c.0 l) _ (deq_parts q c ret l room n) k b

module _ (q : List Entry) (c : ℕ) where
  deq_agree : (ret : DeqRet) (l : Names) → Agree (deq_codes_due ret) (map (held_code q c) l.asks) (deq_codes ret q c l)
  unfolding deq_code
  deq_agree DeqNone l = none_due (deq_code DeqNone q c) (λ n. refl) _ (names_of l)
  deq_agree DeqHave l = are_due (sym (map-map (deq_code DeqHave q c) name_of l.asks))

  pub deq_zero : (ret : DeqRet) (l : Names) (looks : Looks) → looks ≡ deq_looks q c l → unentered ret q c l ≡ false
      → looks.zero ≡ all_zero (deq_codes ret q c l)
  unfolding looks_of
  deq_zero ret l looks e d = rw e (agree_zero (deq_codes_due ret) (deq_agree ret l) (unentered_is q c ret l ∙ d))

  pub deq_written_lem : (ret : DeqRet) (l : Names) (looks : Looks) (d : Bool) (area : List ℕ) → looks ≡ deq_looks q c l
      → d ≡ deq_codes_due ret
      → written_if d (take (length l.asks) looks.codes.bytes) area
      ≡ written_if (deq_codes_due ret) (deq_codes ret q c l) area
  unfolding looks_of
  deq_written_lem ret l looks d area e p = rw e (agree_written (deq_codes_due ret) d _ l area (deq_agree ret l) p)

-- WHAT IS QUEUED
module _ {ret : Ret} {q : List Entry} {c : ℕ} {l : Names} {looks : Looks} (u : EnqTold ret q c l looks)
    (h : queues_by ret looks.zero ≡ true) where
  pub left_told : unskipped looks.has.of l.asks ≡ to_queue ret q c l
  left_told =
      ap (λ (k : Looks). unskipped k.has.of l.asks) u.seen
      ∙ queued_left ret q c l u.fresh (ap (λ (k : Looks). queues_by ret k.zero) (sym u.seen) ∙ h)

  -- there is room for it
  pub left_room : (k : Queue) → PackedEntries k → entries_in k ≡ q
      → k.count + length (unskipped looks.has.of l.asks) ≤ most_entries
  left_room k p e =
      let n : k.count ≡ length q = entries_count (entries_in k) k p.form ∙ ap length e in
      rw (left_told, n) (to_queue_room ret q c l (omega (arith, p.room)) u.room)

  -- the caller is to wait for it, unless each name is available
  unless_free : {w : Bool} → w ≡ not (every (available q) (unskipped looks.has.of l.asks))
      → every (available q) (to_queue ret q c l) ≡ not w
  unless_free e = ap (every (available q)) (sym left_told) ∙ sym (not-not _) ∙ ap not (sym e)

pub ruleset tail = (left_told, left_room, good_count, pick_true, pick_false)

-- THE COLUMN "THEN", of a step that runs and an admitted caller
module _ (s : Step) (h : Running s) (c : TaskNumber) (o : gate_of s c ≡ Ok tt) (l : Names) where
  abbrev left : Bool → List Entry → Step
  left w q = with_queue (with_tasks s (tasks_left s.tasks c.0 w)) q

  -- "only if every code is 0", and then too nobody begins to wait
  if_zero : (codes : List ℕ) (z w : Bool) (t : Step) (q : List Entry) → z ≡ all_zero codes → w ≡ false
      → (all_zero codes ≡ true → t ≡ with_queue s q) → only_if_zero codes t s ≡ left w (pick z q s.queue)
  unfolding pick tasks_left
  if_zero codes true w t q p e k = rw (← p, e) (k (sym p))
  if_zero codes false w t q p e k = rw (← p, e)

  pub enq_leaves : (ret : Ret) (looks : Looks) (w : Bool) → EnqTold ret s.queue c.0 l looks
      → w ≡ caller_waits ret s.queue l looks
      → enq_change ret s c.0 l ≡ left w (queue_left ret s.queue c.0 l looks.zero)
  unfolding caller_waits queue_left tasks_left to_queue pick
  enq_leaves None looks w u e = tail_leaves s h c o l u.good None (not w) (unless_free u refl e)
  enq_leaves Test looks w u e = rw e
  enq_leaves Use looks w u e =
      if_zero (enq_codes Use s.queue c.0 l) looks.zero w _ _ (zero_told s.queue c.0 u) e
      (λ z. tail_leaves s h c o l u.good Use true (rw z (use_zero s.queue c.0 l.asks z).1))
  enq_leaves Have looks w u e = tail_leaves s h c o l u.good Have (not w) (unless_free u refl e)
  -- the caller alone owns what it makes exclusive
  enq_leaves Chng looks w u e =
      if_zero (enq_codes Chng s.queue c.0 l) looks.zero w _ _ (zero_told s.queue c.0 u) e
      (λ z. ap (λ (ts : List Task). with_queue (with_tasks s ts) (map (made_exclusive c.0 (names_of l)) s.queue))
      (chng_waits s h c.0 (names_of l) (zero_sole s.queue c.0 l.asks z)))
