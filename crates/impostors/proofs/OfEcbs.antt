-- Wrong answers that the contracts of `ecbs` rule out.
use Prim.Native.Nat.{ℕ, ◌+◌, ◌-◌, ◌*◌}
use mathlib.Core.Path.{refl}
use mathlib.Core.Bool.{false, not, cond, ◌&&◌, ◌||◌}
use mathlib.Core.List.{List, [], ◌∷◌, map}
use native.Mathlib.Omega.{arith}
use lib.Dec.{eqb, leb}
use lib.ListN.{length, get_or, set, take, replicate}
use Rattle.lists.specs.Pick.{pick}
use Rattle.lists.specs.Lists.{every, how_many}
use Rattle.kinds.specs.Limits.{highest_task, highest_ecb, all_ecbs, highest_end_code, highest_post_code}
use Rattle.kinds.specs.Ranges.{end_code_good, post_code_good}
use Rattle.kinds.specs.Ecbs.{no_ecb}
use Rattle.kinds.specs.declared.ecbs.Ecb.{Ecb}
use Rattle.rules.specs.Events.{ecb_at, wait_bit, with_waiter, completed as completed_of}
use Rattle.rules.specs.SoundEcbs.{zero_ecb}
use Rattle.ecbs.specs.Blocks.{ecb_table_of, no_events, tally_from, tally_of}
use Rattle.ecbs.specs.declared.EcbTable.{EcbTable}
use Rattle.ecbs.proofs.empty.Reads as empty
use Rattle.ecbs.proofs.at.Reads as at
use Rattle.ecbs.proofs.word.Reads as word
use Rattle.ecbs.proofs.ecbs_fit.Reads as ecbs_fit
use Rattle.ecbs.proofs.words_good.Reads as words_good
use Rattle.ecbs.proofs.all_zero.Reads as all_zero
use Rattle.ecbs.proofs.with_ecb.Reads as with_ecb
use Rattle.ecbs.proofs.completed.Reads as completed
use Rattle.ecbs.proofs.unwaited_all.Reads as unwaited_all
use Rattle.ecbs.proofs.waited_on.Reads as waited_on
use Rattle.impostors.specs.Fitting.{◌⊗◌, fits-Ecb, fits-EcbNumber, fits-EcbTable, fits-TaskNumber, fits_end}
use Rattle.impostors.specs.Fitting.{fits_u32}
use Rattle.impostors.specs.Opened.{tables_open}
use Rattle.impostors.specs.Wrong.{RuledOut, wrong_at, told_apart}
use Rattle.impostors.specs.Samples.{task, ecb}
use Rattle.impostors.specs.Parts.{events, awaited}

-- ECB 63 alone is complete, with code 7
abbrev last_complete : EcbTable
last_complete = ecb_table_of (set no_events highest_ecb (completed_of 7))

-- task 1 waits on each
pub empty_awaited_by_task_1 : RuledOut (λ k. fits_end) empty.Pre empty.Post
    (λ k a. ecb_table_of (replicate all_ecbs (awaited 1)))
unfolding tables_open
empty_awaited_by_task_1 = wrong_at tt tt refl tt (λ e. wait_bit (ecb_at e.ecbs 0)) refl refl

-- each is complete, with code 0
pub empty_all_complete : RuledOut (λ k. fits_end) empty.Pre empty.Post
    (λ k a. ecb_table_of (replicate all_ecbs (completed_of 0)))
unfolding tables_open
empty_all_complete = wrong_at tt tt refl tt (λ e. (ecb_at e.ecbs 0).complete) refl refl

-- ECB n is looked up at place n - 1, as a task is: ECB 1 is complete, and ECB 0 comes back
pub at_one_place_before : RuledOut (λ k. fits-EcbTable ⊗ fits-EcbNumber ⊗ fits_end) at.Pre at.Post
    (λ k a. ecb_at a.0.ecbs (a.1.0.0 - 1))
unfolding tables_open
at_one_place_before =
    wrong_at tt (events (no_ecb ∷ completed_of 7 ∷ []), (ecb 1, tt)) refl tt (λ x. not x.complete) refl refl

-- a number that has no ECB is taken for ECB 63
pub at_64_is_ecb_63 : RuledOut (λ k. fits-EcbTable ⊗ fits-EcbNumber ⊗ fits_end) at.Pre at.Post
    (λ k a. ecb_at a.0.ecbs (pick (leb a.1.0.0 highest_ecb) a.1.0.0 highest_ecb))
unfolding tables_open
at_64_is_ecb_63 = wrong_at tt (last_complete, (ecb 64, tt)) refl tt (λ x. x.complete) refl refl

-- bits 0 and 1 are exchanged: a complete ECB shows as waited on
pub word_bits_exchanged : RuledOut (λ k. fits-Ecb ⊗ fits_end) word.Pre word.Post
    (λ k a. cond (wait_bit a.0) (highest_post_code + 1) 0 +
    (cond a.0.complete (2 * (highest_post_code + 1)) 0 + a.0.code))
unfolding tables_open
word_bits_exchanged = wrong_at tt (completed_of 7, tt) refl tt (eqb 0x8000_0007) refl refl

-- bit 0 is taken for the lowest: code 7, complete, gives 30
pub word_bit_0_lowest : RuledOut (λ k. fits-Ecb ⊗ fits_end) word.Pre word.Post
    (λ k a. cond (wait_bit a.0) 1 0 + (cond a.0.complete 2 0 + 4 * a.0.code))
unfolding tables_open
word_bit_0_lowest = wrong_at tt (completed_of 7, tt) refl tt (eqb 30) refl refl

-- the highest number is taken for the count: 64 ECBs do not fit
pub ecbs_fit_when_63 : RuledOut (λ k. fits-EcbTable ⊗ fits_end) ecbs_fit.Pre ecbs_fit.Post
    (λ k a. eqb (length a.0.ecbs) highest_ecb)
unfolding tables_open
ecbs_fit_when_63 = wrong_at tt (events [], tt) refl tt not refl refl

-- only complete ECBs are counted: none, and not 64
pub ecbs_fit_counts_the_complete : RuledOut (λ k. fits-EcbTable ⊗ fits_end) ecbs_fit.Pre ecbs_fit.Post
    (λ k a. eqb (how_many (λ (e : Ecb). e.complete) a.0.ecbs) all_ecbs)
unfolding tables_open
ecbs_fit_counts_the_complete = record {
  lifetimes = tt;
  given = (events [], tt);
  fitting = refl;
  asked = tt;
  broken = λ e p. told_apart p not refl refl;
}

-- an incomplete ECB may have a code
pub words_good_incomplete_with_a_code : RuledOut (λ k. fits-EcbTable ⊗ fits_end) words_good.Pre words_good.Post
    (λ k a. every (λ (x : Ecb). not (wait_bit x && x.complete) && post_code_good x.code) a.0.ecbs)
unfolding tables_open
words_good_incomplete_with_a_code =
    wrong_at tt (events (record { waiter = task 0; complete = false; code = 7 } ∷ []), tt) refl tt (λ b. b) refl refl

-- an ECB may be waited on and complete
pub words_good_waited_on_and_complete : RuledOut (λ k. fits-EcbTable ⊗ fits_end) words_good.Pre words_good.Post
    (λ k a. every (λ (x : Ecb). (x.complete || eqb x.code 0) && post_code_good x.code) a.0.ecbs)
unfolding tables_open
words_good_waited_on_and_complete =
    wrong_at tt (events (with_waiter (completed_of 7) 2 ∷ []), tt) refl tt (λ b. b) refl refl

-- a complete ECB may have any code
pub words_good_any_code : RuledOut (λ k. fits-EcbTable ⊗ fits_end) words_good.Pre words_good.Post
    (λ k a. every (λ (x : Ecb). not (wait_bit x && x.complete) && (x.complete || eqb x.code 0)) a.0.ecbs)
unfolding tables_open
words_good_any_code = wrong_at tt (events (completed_of 0x4000_0000 ∷ []), tt) refl tt (λ b. b) refl refl

-- the wait bit is not looked at: task 2 waits on ECB 0
pub all_zero_although_waited_on : RuledOut (λ k. fits-EcbTable ⊗ fits_end) all_zero.Pre all_zero.Post
    (λ k a. every (λ (x : Ecb). not x.complete && eqb x.code 0) a.0.ecbs)
unfolding tables_open
all_zero_although_waited_on = wrong_at tt (events (awaited 2 ∷ []), tt) refl tt (λ b. b) refl refl

-- ECB 63 is not looked at
pub all_zero_but_ecb_63 : RuledOut (λ k. fits-EcbTable ⊗ fits_end) all_zero.Pre all_zero.Post
    (λ k a. every zero_ecb (take highest_ecb a.0.ecbs))
unfolding tables_open
all_zero_but_ecb_63 = wrong_at tt (last_complete, tt) refl tt (λ b. b) refl refl

-- x stands one place before, where a task would: ECB 1 stays zero
pub with_ecb_one_before :
    RuledOut (λ k. fits-EcbTable ⊗ fits-EcbNumber ⊗ fits-Ecb ⊗ fits_end) with_ecb.Pre with_ecb.Post
    (λ k a. ecb_table_of (set a.0.ecbs (a.1.0.0 - 1) a.1.1.0))
unfolding tables_open
with_ecb_one_before =
    wrong_at tt (events [], (ecb 1, (completed_of 7, tt))) refl (omega arith) (λ e. not (ecb_at e.ecbs 1).complete)
    refl refl

-- a complete ECB stays as it is, here too: ECB 1 is not cleared
pub with_ecb_not_when_complete :
    RuledOut (λ k. fits-EcbTable ⊗ fits-EcbNumber ⊗ fits-Ecb ⊗ fits_end) with_ecb.Pre with_ecb.Post
    (λ k a. pick (ecb_at a.0.ecbs a.1.0.0).complete a.0
    (ecb_table_of (set a.0.ecbs a.1.0.0 a.1.1.0)))
unfolding tables_open
with_ecb_not_when_complete =
    wrong_at tt (events (no_ecb ∷ completed_of 7 ∷ []), (ecb 1, (no_ecb, tt))) refl (omega arith)
    (λ e. (ecb_at e.ecbs 1).complete) refl refl

-- a post of code 0 leaves it incomplete
pub completed_not_by_code_0 : RuledOut (λ k. fits_u32 ⊗ fits_end) completed.Pre completed.Post
    (λ k a. record { waiter = task 0; complete = not (eqb a.0 0); code = a.0 })
unfolding tables_open
completed_not_by_code_0 = wrong_at tt (0, tt) refl tt (λ x. not x.complete) refl refl

-- its code is held to 4,095, the highest of END
pub completed_held_to_4095 : RuledOut (λ k. fits_u32 ⊗ fits_end) completed.Pre completed.Post
    (λ k a. completed_of (pick (end_code_good a.0) a.0 highest_end_code))
unfolding tables_open
completed_held_to_4095 = wrong_at tt (5000, tt) refl tt (λ x. eqb x.code 4095) refl refl

-- every wait bit is off: that of task 3, where 2 no longer waits
pub unwaited_all_of_everybody :
    RuledOut (λ k. fits-EcbTable ⊗ fits-TaskNumber ⊗ fits_end) unwaited_all.Pre unwaited_all.Post
    (λ k a. ecb_table_of (map (λ (x : Ecb). with_waiter x 0) a.0.ecbs))
unfolding tables_open
unwaited_all_of_everybody =
    wrong_at tt (events (awaited 2 ∷ awaited 3 ∷ []), (task 2, tt)) refl tt (λ e. not (wait_bit (ecb_at e.ecbs 1)))
    refl refl

-- only the first that task w set is off
abbrev first_off : ℕ → List Ecb → List Ecb
first_off w [] = []
first_off w (x ∷ l) = pick (eqb x.waiter.0 w) (with_waiter x 0 ∷ l) (x ∷ first_off w l)

pub unwaited_all_only_the_first :
    RuledOut (λ k. fits-EcbTable ⊗ fits-TaskNumber ⊗ fits_end) unwaited_all.Pre unwaited_all.Post
    (λ k a. ecb_table_of (first_off a.1.0.0 a.0.ecbs))
unfolding tables_open
unwaited_all_only_the_first =
    wrong_at tt (events (awaited 2 ∷ awaited 2 ∷ []), (task 2, tt)) refl tt (λ e. wait_bit (ecb_at e.ecbs 1)) refl refl

-- task 1's count stands first, as if there were no number 0: 2, which waits on an ECB, has none
pub waited_on_from_task_1 : RuledOut (λ k. fits-EcbTable ⊗ fits_end) waited_on.Pre waited_on.Post
    (λ k a. record { ecbs = tally_from (highest_task + 1) 1 a.0.ecbs })
unfolding tables_open
waited_on_from_task_1 = record {
  lifetimes = tt;
  given = (events (awaited 2 ∷ []), tt);
  fitting = refl;
  asked = tt;
  broken = λ e p. told_apart p (λ t. eqb (get_or t.ecbs 2 0) 0) refl refl;
}

-- a task that waits on two ECBs counts one
pub waited_on_counted_once : RuledOut (λ k. fits-EcbTable ⊗ fits_end) waited_on.Pre waited_on.Post
    (λ k a. record { ecbs = map (λ n. cond (leb n 1) n 1) (tally_of a.0.ecbs).ecbs })
unfolding tables_open
waited_on_counted_once = record {
  lifetimes = tt;
  given = (events (awaited 2 ∷ awaited 2 ∷ []), tt);
  fitting = refl;
  asked = tt;
  broken = λ e p. told_apart p (λ t. eqb (get_or t.ecbs 2 0) 1) refl refl;
}
