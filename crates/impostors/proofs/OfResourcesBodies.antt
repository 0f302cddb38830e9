-- Wrong answers that the contracts of the two bodies of `resources` rule out, over all tables.
use mathlib.Core.Path.{refl}
use mathlib.Core.Bool.{Bool, true, false, not}
use mathlib.Core.List.{List, [], ◌∷◌}
use Prim.Native.Nat.{ℕ}
use lib.Dec.{eqb}
use lib.ListN.{length, take, get_or}
use denote.Ref.{MutBor, at_last}
use Rattle.lists.specs.Lists.{every}
use Rattle.lists.specs.Pick.{pick}
use Rattle.kinds.specs.Tasks.{is_ready, in_resource_wait}
use Rattle.kinds.specs.declared.numbers.TaskNumber.{TaskNumber}
use Rattle.kinds.specs.declared.names.PointedList.{PointedList}
use Rattle.kinds.specs.declared.requests.Ret.{Ret}
use Rattle.kinds.specs.declared.requests.Ret.TheVariants.{None, Test, Use, Have, Chng}
use Rattle.kinds.specs.declared.requests.DeqRet.{DeqRet}
use Rattle.kinds.specs.declared.requests.DeqRet.TheVariants.{None as DeqNone, Have as DeqHave}
use Rattle.std.specs.Prelude.{Ok}
use Rattle.kinds.specs.Replies.{Verdict}
use Rattle.rules.specs.Names.{Names, same_name}
use Rattle.rules.specs.Control.{Entry, has_entry}
use Rattle.rules.specs.Codes.{all_zero, written_on}
use Rattle.rules.specs.Table.{shr, exc}
use Rattle.rules.specs.Steps.{Step, Outcome, done, with_tasks, with_queue}
use Rattle.rules.specs.ResourceWaits.{requeued}
use Rattle.rules.specs.Admission.{codes_through}
use Rattle.rules.specs.Family.{condition_of}
use Rattle.rules.specs.Enq.{entry_for, enq_codes, with_tail, enq_verdict, enq_done}
use Rattle.rules.specs.Deq.{deq_codes, deq_verdict, deq_done, deq_written}
use Rattle.history.specs.Samples.{start}
use Rattle.names.specs.Pointers.{pointed_in}
use Rattle.queue.specs.Queues.{entries_in}
use Rattle.tables.specs.Tables.{step_of, tables_of, Admitted}
use Rattle.tables.specs.Bodies.{Told}
use Rattle.tables.specs.declared.AllTables.{AllTables}
use Rattle.tables.specs.declared.made.Made.{Made}
use Rattle.resources.specs.Serving.{enq_leaves, deq_leaves}
use Rattle.resources.proofs.enq.served.Reads as enq_served
use Rattle.resources.proofs.deq.served.Reads as deq_served
use Rattle.impostors.specs.Fitting.{◌⊗◌, fits-AllTables, fits-DeqRet, fits-PointedList, fits-Ret}
use Rattle.impostors.specs.Fitting.{fits-TaskNumber, fits_end, fits_mut_lent}
use Rattle.impostors.specs.Opened.{tables_open}
use Rattle.impostors.specs.Samples.{task, points_of, x_at, y_at, z_at, daughter, enq, after}
use Rattle.impostors.specs.Wrong.{RuledOutWith, wrong_result, wrong_area}
use Rattle.impostors.specs.Answers.{but}
use Rattle.impostors.specs.Parts.{mut_lent, making}
use Rattle.impostors.specs.Haves.{if_have, Doing, all_or_nothing, skipped_queued, skips_nothing, last_first}
use Rattle.impostors.specs.Haves.{skipped_made_exclusive, never_waits, answers_zero}

-- what a body is given, with a RET kind of R; that it fits, by the RET kind's test
abbrev Given : Type 0 → Type 0
Given R = AllTables × (TaskNumber × (R × (PointedList × (MutBor (List ℕ) × Unit {0}))))

abbrev fits-Given : {R : Type 0} → (R → Bool) → Given R → Bool
fits-Given ret = fits-AllTables ⊗ fits-TaskNumber ⊗ ret ⊗ fits-PointedList ⊗ fits_mut_lent ⊗ fits_end

-- on the tables of a step task n asks, with these bytes as codes area
abbrev on : {R : Type 0} → Step → ℕ → R → PointedList → List ℕ → Given R
on s n ret l area = (tables_of s, (task n, (ret, (l, (mut_lent area, tt)))))

module _ {R : Type 0} (a : Given R) where
  abbrev step : Step
  step = step_of a.0

  abbrev caller : TaskNumber
  caller = a.1.0

  abbrev ret : R
  ret = a.1.1.0

  abbrev names : Names
  names = pointed_in a.1.1.1.0

  abbrev area : List ℕ
  area = a.1.1.1.1.0.now

  -- a body by this verdict and outcome, and what is left of what it was given, where the area then holds l
  abbrev ends : Verdict → Outcome Step → List ℕ → Made × Given R
  ends v o l =
      (making v a.0 o, (a.0, (a.1.0, (a.1.1.0, (a.1.1.1.0, (at_last a.1.1.1.1.0 l, tt))))))

-- STEPS whose names are offsets: task 1 owns x, and 2 is ready; then 2 waits for x
abbrev owned : Step
owned = after start (daughter 1 ∷ enq 1 None 0 (exc x_at ∷ []) ∷ [])

abbrev awaited : Step
awaited = after owned (enq 2 None 0 (exc x_at ∷ []) ∷ [])

-- 1 shares x; and 2 owns y
abbrev shared : Step
shared = after start (enq 1 None 0 (shr x_at ∷ []) ∷ [])

abbrev mixed : Step
mixed = after start (daughter 1 ∷ enq 1 None 0 (shr x_at ∷ []) ∷ enq 2 None 0 (exc y_at ∷ []) ∷ [])

owned_admits_1 : Admitted (tables_of owned) (task 1)
unfolding tables_open
owned_admits_1 = record { sound = refl; gate = refl }

owned_admits_2 : Admitted (tables_of owned) (task 2)
unfolding tables_open
owned_admits_2 = record { sound = refl; gate = refl }

awaited_admits : Admitted (tables_of awaited) (task 1)
unfolding tables_open
awaited_admits = record { sound = refl; gate = refl }

shared_admits : Admitted (tables_of shared) (task 1)
unfolding tables_open
shared_admits = record { sound = refl; gate = refl }

mixed_admits : Admitted (tables_of mixed) (task 1)
unfolding tables_open
mixed_admits = record { sound = refl; gate = refl }

-- the entries that are told of
abbrev entries : Told → List Entry
entries o = entries_in o.outcome.tables.queue

-- ENQ: its verdict, what the rules make, its codes and the area
module _ (a : Given Ret) where
  abbrev enq_says : Verdict
  enq_says = enq_verdict (step a).queue (caller a) (ret a) (names a) (length (area a))

  abbrev enq_right : Outcome Step
  enq_right = enq_done (step a) (caller a) (ret a) (names a)

  abbrev enq_codes_of : List ℕ
  enq_codes_of = enq_codes (ret a) (step a).queue (caller a).0 (names a)

  abbrev enq_area : List ℕ
  enq_area = enq_leaves a.0.queue (caller a) (ret a) (names a) (area a)

  -- with another outcome
  abbrev enq_made : Outcome Step → Made × Given Ret
  enq_made o = ends a enq_says o enq_area

-- the caller goes on without control: 2 asks for x
pub enq_served_goes_on_without_control : RuledOutWith (λ k. fits-Given fits-Ret) enq_served.Pre enq_served.Post
    (λ k a. enq_made a (but (enq_right a) (λ u. with_tasks u (step a).tasks)))
unfolding tables_open
enq_served_goes_on_without_control =
    wrong_result ([], tt) (on owned 2 None (points_of (exc x_at ∷ [])) []) refl (owned_admits_2, refl)
    (λ o. is_ready (condition_of o.outcome.tables.tasks.places 2)) refl refl

-- the entry that is queued is lost
pub enq_served_entry_lost : RuledOutWith (λ k. fits-Given fits-Ret) enq_served.Pre enq_served.Post
    (λ k a. enq_made a (but (enq_right a) (λ u. with_queue u (step a).queue)))
unfolding tables_open
enq_served_entry_lost =
    wrong_result ([], tt) (on owned 2 None (points_of (exc x_at ∷ [])) []) refl (owned_admits_2, refl)
    (λ o. eqb o.outcome.tables.queue.count 1) refl refl

-- the RET kind is USE; CHNG
abbrev is_use : Ret → Bool
is_use None = false
is_use Test = false
is_use Use = true
is_use Have = false
is_use Chng = false

abbrev is_chng : Ret → Bool
is_chng None = false
is_chng Test = false
is_chng Use = false
is_chng Have = false
is_chng Chng = true

-- under USE only the first code has to be 0
abbrev by_first_code : Given Ret → Step
by_first_code a =
    pick (all_zero (take 1 (enq_codes_of a)))
    (requeued (step a) (with_tail (step a).queue (caller a).0 (names a).asks)) (step a)

-- 2 asks by USE for y and x, with the codes 0 and 4, and is queued for y
pub enq_served_by_the_first_code : RuledOutWith (λ k. fits-Given fits-Ret) enq_served.Pre enq_served.Post
    (λ k a. enq_made a (but (enq_right a) (λ u. pick (is_use (ret a)) (by_first_code a) u)))
unfolding tables_open
enq_served_by_the_first_code =
    wrong_result ([], tt) (on owned 2 Use (points_of (exc y_at ∷ exc x_at ∷ [])) (238 ∷ 238 ∷ [])) refl
    (owned_admits_2, refl)
    (λ o. has_entry (entries o) 2 y_at) refl refl

-- CHNG changes nothing: task 1 shares x and asks for it exclusive
pub enq_served_chng_leaves_it_shared : RuledOutWith (λ k. fits-Given fits-Ret) enq_served.Pre enq_served.Post
    (λ k a. enq_made a (but (enq_right a) (λ u. pick (is_chng (ret a)) (step a) u)))
unfolding tables_open
enq_served_chng_leaves_it_shared =
    wrong_result ([], tt) (on shared 1 Chng (points_of (exc x_at ∷ [])) (238 ∷ [])) refl (shared_admits, refl)
    (λ o. every (λ (e : Entry). not e.exclusive) (entries o)) refl refl

-- NONE writes codes: 2 asks for y, with an area of one byte
pub enq_served_codes_under_none : RuledOutWith (λ k. fits-Given fits-Ret) enq_served.Pre enq_served.Post
    (λ k a. ends a (enq_says a) (enq_right a)
    (codes_through (Ok tt) (enq_says a) (area a) (written_on (enq_codes_of a) (area a))))
unfolding tables_open
enq_served_codes_under_none =
    wrong_area ([], tt) (on owned 2 None (points_of (exc y_at ∷ [])) (238 ∷ [])) refl (owned_admits_2, refl)
    (λ l. eqb (get_or l 0 0) 0) refl refl

-- HAVE, wrong in each of the ways of Haves
abbrev having : Doing → Given Ret → Made × Given Ret
having f a = enq_made a (if_have (ret a) (f (step a) (caller a).0 (names a)) (enq_right a))

-- 1 asks for x exclusive, for y, and for z: the codes are 8, 0 and 0, and it waits for y
abbrev asks_mixed : Given Ret
asks_mixed = on mixed 1 Have (points_of (exc x_at ∷ exc y_at ∷ shr z_at ∷ [])) (238 ∷ 238 ∷ 238 ∷ [])

-- its entry for z is there; the entry behind n others
abbrev has_z : Told → Bool
has_z o = has_entry (entries o) 1 z_at

abbrev entry_at : ℕ → Told → Entry
entry_at n o = get_or (entries o) n (entry_for 0 (exc x_at))

pub enq_served_have_all_or_nothing : RuledOutWith (λ k. fits-Given fits-Ret) enq_served.Pre enq_served.Post
    (λ k a. having all_or_nothing a)
unfolding tables_open
enq_served_have_all_or_nothing =
    wrong_result ([], tt) asks_mixed refl (mixed_admits, refl) (λ o. not (has_z o)) refl refl

pub enq_served_have_queues_the_skipped : RuledOutWith (λ k. fits-Given fits-Ret) enq_served.Pre enq_served.Post
    (λ k a. having skipped_queued a)
unfolding tables_open
enq_served_have_queues_the_skipped =
    wrong_result ([], tt) asks_mixed refl (mixed_admits, refl) (λ o. not (has_z o)) refl refl

pub enq_served_have_skips_nothing : RuledOutWith (λ k. fits-Given fits-Ret) enq_served.Pre enq_served.Post
    (λ k a. having skips_nothing a)
unfolding tables_open
enq_served_have_skips_nothing =
    wrong_result ([], tt) asks_mixed refl (mixed_admits, refl) (λ o. eqb o.outcome.tables.queue.count 5) refl refl

pub enq_served_have_last_first : RuledOutWith (λ k. fits-Given fits-Ret) enq_served.Pre enq_served.Post
    (λ k a. having last_first a)
unfolding tables_open
enq_served_have_last_first =
    wrong_result ([], tt) asks_mixed refl (mixed_admits, refl) (λ o. same_name (entry_at 2 o).name z_at) refl refl

pub enq_served_have_makes_exclusive : RuledOutWith (λ k. fits-Given fits-Ret) enq_served.Pre enq_served.Post
    (λ k a. having skipped_made_exclusive a)
unfolding tables_open
enq_served_have_makes_exclusive =
    wrong_result ([], tt) asks_mixed refl (mixed_admits, refl) (λ o. (entry_at 0 o).exclusive) refl refl

pub enq_served_have_never_waits : RuledOutWith (λ k. fits-Given fits-Ret) enq_served.Pre enq_served.Post
    (λ k a. having never_waits a)
unfolding tables_open
enq_served_have_never_waits =
    wrong_result ([], tt) asks_mixed refl (mixed_admits, refl)
    (λ o. is_ready (condition_of o.outcome.tables.tasks.places 1)) refl refl

pub enq_served_have_answers_0 : RuledOutWith (λ k. fits-Given fits-Ret) enq_served.Pre enq_served.Post
    (λ k a. having answers_zero a)
unfolding tables_open
enq_served_have_answers_0 =
    wrong_result ([], tt) asks_mixed refl (mixed_admits, refl) (λ o. eqb o.outcome.number 0) refl refl

-- DEQ: its verdict, what the rules make, its codes and the area
module _ (a : Given DeqRet) where
  abbrev deq_says : Verdict
  deq_says = deq_verdict (step a).queue (caller a) (ret a) (names a) (length (area a))

  abbrev deq_right : Outcome Step
  deq_right = deq_done (step a) (caller a) (ret a) (names a)

  abbrev deq_codes_of : List ℕ
  deq_codes_of = deq_codes (ret a) (step a).queue (caller a).0 (names a)

  abbrev deq_area : List ℕ
  deq_area = deq_leaves a.0.queue (caller a) (ret a) (names a) (area a)

  -- with another outcome
  abbrev deq_made : Outcome Step → Made × Given DeqRet
  deq_made o = ends a deq_says o deq_area

-- nobody is granted what was released: task 1 gives x back, for which 2 waits
pub deq_served_grants_nothing : RuledOutWith (λ k. fits-Given fits-DeqRet) deq_served.Pre deq_served.Post
    (λ k a. deq_made a (but (deq_right a) (λ u. with_tasks u (step a).tasks)))
unfolding tables_open
deq_served_grants_nothing =
    wrong_result ([], tt) (on awaited 1 DeqNone (points_of (exc x_at ∷ [])) []) refl (awaited_admits, refl)
    (λ o. in_resource_wait (condition_of o.outcome.tables.tasks.places 2)) refl refl

-- the entry that is given back stays in the queue
pub deq_served_entry_stays : RuledOutWith (λ k. fits-Given fits-DeqRet) deq_served.Pre deq_served.Post
    (λ k a. deq_made a (but (deq_right a) (λ u. with_queue u (step a).queue)))
unfolding tables_open
deq_served_entry_stays =
    wrong_result ([], tt) (on awaited 1 DeqNone (points_of (exc x_at ∷ [])) []) refl (awaited_admits, refl)
    (λ o. eqb o.outcome.tables.queue.count 2) refl refl

-- the answer is 0 although a code is 8: task 1 gives y back, and has no entry for it
pub deq_served_says_0_with_a_code_8 : RuledOutWith (λ k. fits-Given fits-DeqRet) deq_served.Pre deq_served.Post
    (λ k a. deq_made a (done (deq_right a).tables))
unfolding tables_open
deq_served_says_0_with_a_code_8 =
    wrong_result ([], tt) (on owned 1 DeqHave (points_of (exc y_at ∷ [])) (238 ∷ [])) refl (owned_admits_1, refl)
    (λ o. eqb o.outcome.number 0) refl refl

-- nothing is released unless every code is 0: task 1 gives x and y back by HAVE, and has x only
pub deq_served_all_or_nothing : RuledOutWith (λ k. fits-Given fits-DeqRet) deq_served.Pre deq_served.Post
    (λ k a. deq_made a (but (deq_right a) (λ u. pick (all_zero (deq_codes_of a)) u (step a))))
unfolding tables_open
deq_served_all_or_nothing =
    wrong_result ([], tt) (on owned 1 DeqHave (points_of (exc x_at ∷ exc y_at ∷ [])) (238 ∷ 238 ∷ [])) refl
    (owned_admits_1, refl)
    (λ o. has_entry (entries o) 1 x_at) refl refl

-- the codes are found after the entries have gone: task 1 gives x back by HAVE, and the code is 8
pub deq_served_codes_after_the_release : RuledOutWith (λ k. fits-Given fits-DeqRet) deq_served.Pre deq_served.Post
    (λ k a. ends a (deq_says a) (deq_right a) (codes_through (Ok tt) (deq_says a) (area a)
    (deq_written (deq_right a).tables.queue (caller a) (ret a) (names a) (area a))))
unfolding tables_open
deq_served_codes_after_the_release =
    wrong_area ([], tt) (on owned 1 DeqHave (points_of (exc x_at ∷ [])) (238 ∷ [])) refl (owned_admits_1, refl)
    (λ l. eqb (get_or l 0 0) 8) refl refl
