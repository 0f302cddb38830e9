-- Wrong answers that the contracts of `kinds` rule out.
use Prim.Native.Nat.{ℕ, ◌+◌, ◌-◌, ◌%◌}
use mathlib.Core.Path.{◌≡◌, refl}
use mathlib.Core.Bool.{Bool, true, false, not, cond, ◌&&◌, ◌||◌}
use mathlib.Core.List.{[], map}
use lib.Dec.{eqb, leb, ltb}
use lib.IntN.{pos, neg_ℤ}
use lib.ListN.{replicate}
use lib.Signed.{le_z, lt_z}
use denote.Ref.{Bor}
use Rattle.lists.specs.Lists.{every}
use Rattle.kinds.specs.Beside.{no_names, no_ecbs}
use Rattle.kinds.specs.Limits.{job_step_task, highest_task, highest_ecb, highest_address, region, doubleword}
use Rattle.kinds.specs.Limits.{highest_priority}
use Rattle.kinds.specs.Limits.{highest_end_code, highest_post_code, longest_list, longest_minor, highest_subpool}
use Rattle.kinds.specs.Ranges.{between, task_checked, ecb_checked}
use Rattle.kinds.specs.Replies.{fault_number, number_of, besides_in, besides_of}
use Rattle.kinds.specs.Tasks.{is_free, is_live, is_ready, in_resource_wait, in_ecb_wait, waits, with_condition}
use Rattle.kinds.specs.declared.names.Wanted.{Wanted}
use Rattle.kinds.specs.declared.names.NameOffset.{NameOffset}
use Rattle.kinds.specs.declared.numbers.EcbNumber.{EcbNumber}
use Rattle.std.specs.Prelude.{Option, Some, None}
use Rattle.kinds.specs.declared.numbers.Address.{Address}
use Rattle.kinds.specs.declared.numbers.TaskNumber.{TaskNumber}
use Rattle.kinds.specs.declared.replies.Refusal.TheVariants.{NotLive}
use Rattle.kinds.specs.declared.replies.Fault.TheVariants.{DuplicateEnq, AlreadyWaitedOn, NotSubtask}
use Rattle.kinds.specs.declared.replies.Reply.TheVariants.{Attached, Got, Dispatched, Counted, Four, Refused}
use Rattle.kinds.specs.declared.tasks.Condition.{Condition}
use Rattle.kinds.specs.declared.tasks.Condition.TheVariants.{Free, Ready, ResourceWait, EcbWait, Ended}
use Rattle.kinds.specs.declared.tasks.Task.{Task}
use Rattle.rules.specs.SoundTasks.{has_ecb}
use Rattle.rules.specs.Alike.{kind_of}
use Rattle.kinds.proofs.areas.Area.zero.Reads as Area-zero
use Rattle.kinds.proofs.areas.Area.length_good.Reads as Area-length_good
use Rattle.kinds.proofs.areas.Area.subpool_good.Reads as Area-subpool_good
use Rattle.kinds.proofs.ecbs.Ecb.zero.Reads as Ecb-zero
use Rattle.kinds.proofs.ecbs.Ecb.code_good.Reads as Ecb-code_good
use Rattle.kinds.proofs.ecbs.EcbList.none.Reads as EcbList-none
use Rattle.kinds.proofs.names.Name.minor_good.Reads as Name-minor_good
use Rattle.kinds.proofs.names.NameList.count_good.Reads as NameList-count_good
use Rattle.kinds.proofs.names.NameList.none.Reads as NameList-none
use Rattle.kinds.proofs.names.NameOffsetPartialEq.eq.Reads as NameOffsetPartialEq-eq
use Rattle.kinds.proofs.numbers.TaskNumber.is_good.Reads as TaskNumber-is_good
use Rattle.kinds.proofs.numbers.TaskNumber.new.Reads as TaskNumber-new
use Rattle.kinds.proofs.numbers.TaskNumberPartialEq.eq.Reads as TaskNumberPartialEq-eq
use Rattle.kinds.proofs.numbers.EcbNumber.is_good.Reads as EcbNumber-is_good
use Rattle.kinds.proofs.numbers.EcbNumber.new.Reads as EcbNumber-new
use Rattle.kinds.proofs.numbers.EcbNumberPartialEq.eq.Reads as EcbNumberPartialEq-eq
use Rattle.kinds.proofs.numbers.Address.is_good.Reads as Address-is_good
use Rattle.kinds.proofs.numbers.Address.new.Reads as Address-new
use Rattle.kinds.proofs.numbers.AddressPartialEq.eq.Reads as AddressPartialEq-eq
use Rattle.kinds.proofs.replies.Fault.number.Reads as Fault-number
use Rattle.kinds.proofs.replies.Reply.number.Reads as Reply-number
use Rattle.kinds.proofs.replies.Reply.besides.Reads as Reply-besides
use Rattle.kinds.proofs.tasks.Condition.is_free.Reads as Condition-is_free
use Rattle.kinds.proofs.tasks.Condition.is_live.Reads as Condition-is_live
use Rattle.kinds.proofs.tasks.Condition.is_ready.Reads as Condition-is_ready
use Rattle.kinds.proofs.tasks.Condition.in_resource_wait.Reads as Condition-in_resource_wait
use Rattle.kinds.proofs.tasks.Condition.in_ecb_wait.Reads as Condition-in_ecb_wait
use Rattle.kinds.proofs.tasks.Condition.waits.Reads as Condition-waits
use Rattle.kinds.proofs.tasks.Task.free.Reads as Task-free
use Rattle.kinds.proofs.tasks.Task.with_condition.Reads as Task-with_condition
use Rattle.kinds.proofs.tasks.Task.priority_good.Reads as Task-priority_good
use Rattle.kinds.proofs.tasks.Task.dpmod_good.Reads as Task-dpmod_good
use Rattle.kinds.proofs.tasks.Task.code_good.Reads as Task-code_good
use Rattle.impostors.specs.Fitting.{◌⊗◌, fits-Address, fits-Condition, fits-EcbNumber, fits-Fault, fits-NameOffset}
use Rattle.impostors.specs.Fitting.{fits-Reply, fits-Task, fits-TaskNumber, fits_end, fits_i16, fits_lent_one}
use Rattle.impostors.specs.Fitting.{fits_u16, fits_u32, fits_u8}
use Rattle.impostors.specs.Opened.{tables_open}
use Rattle.impostors.specs.Samples.{task, ecb}
use Rattle.impostors.specs.Wrong.{RuledOut, wrong_at}
use Rattle.impostors.specs.Parts.{lent, address}

-- A TEST that says yes of one thing given and has to say no, or no and has to say yes
module _ {X : Type 0} {E : Unit {0} → Type 0} {T d f : (k : Unit {0}) → X × Unit {0} → Bool} (x : X)
    (t : T tt (x, tt) ≡ true) where
  passes : f tt (x, tt) ≡ true → d tt (x, tt) ≡ false → RuledOut {E = E} T (λ k a. Unit {0}) (λ k a r e. r ≡ d k a) f
  passes h n = wrong_at tt (x, tt) t tt (λ b. b) h n

  fails : not (f tt (x, tt)) ≡ true → not (d tt (x, tt)) ≡ false
      → RuledOut {E = E} T (λ k a. Unit {0}) (λ k a r e. r ≡ d k a) f
  fails h n = wrong_at tt (x, tt) t tt not h n

-- AREAS

-- an unused place belongs to the job step task
pub Area-zero_owned_by_task_1 : RuledOut (λ k. fits_end) Area-zero.Pre Area-zero.Post
    (λ k a. record { start = address 0; size = 0; subpool = 0; owner = task job_step_task })
Area-zero_owned_by_task_1 = wrong_at tt tt refl tt (λ x. eqb x.owner.0 1) refl refl

-- an unused place is a doubleword long
pub Area-zero_has_a_size : RuledOut (λ k. fits_end) Area-zero.Pre Area-zero.Post
    (λ k a. record { start = address 0; size = doubleword; subpool = 0; owner = task 0 })
Area-zero_has_a_size = wrong_at tt tt refl tt (λ x. eqb x.size 8) refl refl

-- a length of 0 passes
pub Area-length_good_zero_passes : RuledOut (λ k. fits_u32 ⊗ fits_end) Area-length_good.Pre Area-length_good.Post
    (λ k a. leb a.0 region)
unfolding tables_open
Area-length_good_zero_passes = passes 0 refl refl refl

-- the whole region is refused
pub Area-length_good_highest_refused : RuledOut (λ k. fits_u32 ⊗ fits_end) Area-length_good.Pre Area-length_good.Post
    (λ k a. between 1 highest_address a.0)
unfolding tables_open
Area-length_good_highest_refused = fails 131072 refl refl refl

-- 131,073 passes
pub Area-length_good_one_above_passes : RuledOut (λ k. fits_u32 ⊗ fits_end) Area-length_good.Pre Area-length_good.Post
    (λ k a. between 1 (region + 1) a.0)
unfolding tables_open
Area-length_good_one_above_passes = passes 131073 refl refl refl

-- 127 is refused
pub Area-subpool_good_highest_refused : RuledOut (λ k. fits_u8 ⊗ fits_end) Area-subpool_good.Pre Area-subpool_good.Post
    (λ k a. ltb a.0 highest_subpool)
Area-subpool_good_highest_refused = fails 127 refl refl refl

-- 128 passes
pub Area-subpool_good_one_above_passes : RuledOut (λ k. fits_u8 ⊗ fits_end) Area-subpool_good.Pre Area-subpool_good.Post
    (λ k a. leb a.0 (highest_subpool + 1))
Area-subpool_good_one_above_passes = passes 128 refl refl refl

-- subpool 0, that of the step, is refused
pub Area-subpool_good_zero_refused : RuledOut (λ k. fits_u8 ⊗ fits_end) Area-subpool_good.Pre Area-subpool_good.Post
    (λ k a. between 1 highest_subpool a.0)
unfolding tables_open
Area-subpool_good_zero_refused = fails 0 refl refl refl

-- ECBS

-- the job step task waits on an unused one
pub Ecb-zero_awaited_by_task_1 : RuledOut (λ k. fits_end) Ecb-zero.Pre Ecb-zero.Post
    (λ k a. record { waiter = task job_step_task; complete = false; code = 0 })
Ecb-zero_awaited_by_task_1 = wrong_at tt tt refl tt (λ w. eqb w.waiter.0 1) refl refl

-- an unused one is complete, as if it had been posted with code 0
pub Ecb-zero_complete : RuledOut (λ k. fits_end) Ecb-zero.Pre Ecb-zero.Post
    (λ k a. record { waiter = task 0; complete = true; code = 0 })
Ecb-zero_complete = wrong_at tt tt refl tt (λ w. w.complete) refl refl

-- 1,073,741,823 is refused
pub Ecb-code_good_highest_refused : RuledOut (λ k. fits_u32 ⊗ fits_end) Ecb-code_good.Pre Ecb-code_good.Post
    (λ k a. ltb a.0 highest_post_code)
Ecb-code_good_highest_refused = fails 1073741823 refl refl refl

-- 1,073,741,824 passes
pub Ecb-code_good_one_above_passes : RuledOut (λ k. fits_u32 ⊗ fits_end) Ecb-code_good.Pre Ecb-code_good.Post
    (λ k a. leb a.0 (highest_post_code + 1))
Ecb-code_good_one_above_passes = passes 1073741824 refl refl refl

-- an ECB stands beside the request: ECB 0
pub EcbList-none_of_one_ecb : RuledOut (λ k. fits_end) EcbList-none.Pre EcbList-none.Post
    (λ k a. record { count = 1; ecbs = no_ecbs.ecbs })
EcbList-none_of_one_ecb = wrong_at tt tt refl tt (λ l. eqb l.count 1) refl refl

-- the unused places are not zero: each names the last ECB
pub EcbList-none_with_the_last_ecb : RuledOut (λ k. fits_end) EcbList-none.Pre EcbList-none.Post
    (λ k a. record { count = 0; ecbs = replicate longest_list (ecb highest_ecb) })
EcbList-none_with_the_last_ecb =
    wrong_at tt tt refl tt (λ l. every (λ (e : EcbNumber). eqb e.0 63) l.ecbs) refl refl

-- NAMES

-- an empty minor part passes
pub Name-minor_good_empty_passes : RuledOut (λ k. fits_u16 ⊗ fits_end) Name-minor_good.Pre Name-minor_good.Post
    (λ k a. leb a.0 longest_minor)
unfolding tables_open
Name-minor_good_empty_passes = passes 0 refl refl refl

-- one of 44 bytes is refused
pub Name-minor_good_longest_refused : RuledOut (λ k. fits_u16 ⊗ fits_end) Name-minor_good.Pre Name-minor_good.Post
    (λ k a. between 1 (longest_minor - 1) a.0)
unfolding tables_open
Name-minor_good_longest_refused = fails 44 refl refl refl

-- one of 45 bytes passes
pub Name-minor_good_one_above_passes : RuledOut (λ k. fits_u16 ⊗ fits_end) Name-minor_good.Pre Name-minor_good.Post
    (λ k a. between 1 (longest_minor + 1) a.0)
unfolding tables_open
Name-minor_good_one_above_passes = passes 45 refl refl refl

-- a list of nothing passes
pub NameList-count_good_zero_passes :
    RuledOut (λ k. fits_u32 ⊗ fits_end) NameList-count_good.Pre NameList-count_good.Post
    (λ k a. leb a.0 longest_list)
unfolding tables_open
NameList-count_good_zero_passes = passes 0 refl refl refl

-- a full list, of 16, is refused
pub NameList-count_good_highest_refused :
    RuledOut (λ k. fits_u32 ⊗ fits_end) NameList-count_good.Pre NameList-count_good.Post
    (λ k a. between 1 (longest_list - 1) a.0)
unfolding tables_open
NameList-count_good_highest_refused = fails 16 refl refl refl

-- a list of 17 passes
pub NameList-count_good_one_above_passes :
    RuledOut (λ k. fits_u32 ⊗ fits_end) NameList-count_good.Pre NameList-count_good.Post
    (λ k a. between 1 (longest_list + 1) a.0)
unfolding tables_open
NameList-count_good_one_above_passes = passes 17 refl refl refl

-- a name stands beside the request: eight bytes of zero, with no minor part
pub NameList-none_of_one_name : RuledOut (λ k. fits_end) NameList-none.Pre NameList-none.Post
    (λ k a. record { count = 1; names = no_names.names })
NameList-none_of_one_name = wrong_at tt tt refl tt (λ l. eqb l.count 1) refl refl

-- the unused places ask for exclusive control
abbrev exclusive : Wanted → Wanted
exclusive w = record { exclusive = true; name = w.name }

pub NameList-none_asks_exclusive : RuledOut (λ k. fits_end) NameList-none.Pre NameList-none.Post
    (λ k a. record { count = 0; names = map exclusive no_names.names })
NameList-none_asks_exclusive =
    wrong_at tt tt refl tt (λ l. every (λ (w : Wanted). w.exclusive) l.names) refl refl

-- NUMBERS

-- 0, which stands where there is no task, passes
pub TaskNumber-is_good_zero_passes :
    RuledOut (λ k. fits-TaskNumber ⊗ fits_end) TaskNumber-is_good.Pre TaskNumber-is_good.Post
    (λ k a. leb a.0.0 highest_task)
unfolding tables_open
TaskNumber-is_good_zero_passes = passes (task 0) refl refl refl

-- task 32 is refused
pub TaskNumber-is_good_highest_refused :
    RuledOut (λ k. fits-TaskNumber ⊗ fits_end) TaskNumber-is_good.Pre TaskNumber-is_good.Post
    (λ k a. between 1 (highest_task - 1) a.0.0)
unfolding tables_open
TaskNumber-is_good_highest_refused = fails (task 32) refl refl refl

-- task 33 passes
pub TaskNumber-is_good_one_above_passes :
    RuledOut (λ k. fits-TaskNumber ⊗ fits_end) TaskNumber-is_good.Pre TaskNumber-is_good.Post
    (λ k a. between 1 (highest_task + 1) a.0.0)
unfolding tables_open
TaskNumber-is_good_one_above_passes = passes (task 33) refl refl refl

-- a task number made where a test passes
abbrev task_if : (ℕ → Bool) → ℕ → Option TaskNumber
task_if good n = cond (good n) (Some (task n)) None

abbrev is_task : Option TaskNumber → Bool
is_task (Some n) = true
is_task None = false

-- 0 makes a task number
pub TaskNumber-new_zero_passes : RuledOut (λ k. fits_u32 ⊗ fits_end) TaskNumber-new.Pre TaskNumber-new.Post
    (λ k a. task_if (λ n. leb n highest_task) a.0)
unfolding tables_open
TaskNumber-new_zero_passes = wrong_at tt (0, tt) refl tt is_task refl refl

-- 32 makes none
pub TaskNumber-new_highest_refused : RuledOut (λ k. fits_u32 ⊗ fits_end) TaskNumber-new.Pre TaskNumber-new.Post
    (λ k a. task_if (between 1 (highest_task - 1)) a.0)
unfolding tables_open
TaskNumber-new_highest_refused = wrong_at tt (32, tt) refl tt (λ t. not (is_task t)) refl refl

-- 33 makes a task number
pub TaskNumber-new_one_above_passes : RuledOut (λ k. fits_u32 ⊗ fits_end) TaskNumber-new.Pre TaskNumber-new.Post
    (λ k a. task_if (between 1 (highest_task + 1)) a.0)
unfolding tables_open
TaskNumber-new_one_above_passes = wrong_at tt (33, tt) refl tt is_task refl refl

-- the number is cut to a byte before it is tested: 257 makes task 1
pub TaskNumber-new_cut_to_a_byte : RuledOut (λ k. fits_u32 ⊗ fits_end) TaskNumber-new.Pre TaskNumber-new.Post
    (λ k a. task_checked (a.0 % 256))
unfolding tables_open
TaskNumber-new_cut_to_a_byte = wrong_at tt (257, tt) refl tt is_task refl refl

-- ECB 63 is refused
pub EcbNumber-is_good_highest_refused :
    RuledOut (λ k. fits-EcbNumber ⊗ fits_end) EcbNumber-is_good.Pre EcbNumber-is_good.Post
    (λ k a. ltb a.0.0 highest_ecb)
EcbNumber-is_good_highest_refused = fails (ecb 63) refl refl refl

-- ECB 64 passes
pub EcbNumber-is_good_one_above_passes :
    RuledOut (λ k. fits-EcbNumber ⊗ fits_end) EcbNumber-is_good.Pre EcbNumber-is_good.Post
    (λ k a. leb a.0.0 (highest_ecb + 1))
EcbNumber-is_good_one_above_passes = passes (ecb 64) refl refl refl

-- ECB 0 is refused, as task 0 is
pub EcbNumber-is_good_zero_refused :
    RuledOut (λ k. fits-EcbNumber ⊗ fits_end) EcbNumber-is_good.Pre EcbNumber-is_good.Post
    (λ k a. between 1 highest_ecb a.0.0)
unfolding tables_open
EcbNumber-is_good_zero_refused = fails (ecb 0) refl refl refl

-- an ECB number made where a test passes
abbrev ecb_if : (ℕ → Bool) → ℕ → Option EcbNumber
ecb_if good n = cond (good n) (Some (ecb n)) None

abbrev is_ecb : Option EcbNumber → Bool
is_ecb (Some n) = true
is_ecb None = false

-- 63 makes none
pub EcbNumber-new_highest_refused : RuledOut (λ k. fits_u32 ⊗ fits_end) EcbNumber-new.Pre EcbNumber-new.Post
    (λ k a. ecb_if (λ n. ltb n highest_ecb) a.0)
unfolding tables_open
EcbNumber-new_highest_refused = wrong_at tt (63, tt) refl tt (λ e. not (is_ecb e)) refl refl

-- 64 makes an ECB number
pub EcbNumber-new_one_above_passes : RuledOut (λ k. fits_u32 ⊗ fits_end) EcbNumber-new.Pre EcbNumber-new.Post
    (λ k a. ecb_if (λ n. leb n (highest_ecb + 1)) a.0)
unfolding tables_open
EcbNumber-new_one_above_passes = wrong_at tt (64, tt) refl tt is_ecb refl refl

-- the number is cut to a byte before it is tested: 256 makes ECB 0
pub EcbNumber-new_cut_to_a_byte : RuledOut (λ k. fits_u32 ⊗ fits_end) EcbNumber-new.Pre EcbNumber-new.Post
    (λ k a. ecb_checked (a.0 % 256))
unfolding tables_open
EcbNumber-new_cut_to_a_byte = wrong_at tt (256, tt) refl tt is_ecb refl refl

-- 131,071 is refused
pub Address-is_good_highest_refused : RuledOut (λ k. fits-Address ⊗ fits_end) Address-is_good.Pre Address-is_good.Post
    (λ k a. ltb a.0.0 highest_address)
Address-is_good_highest_refused = fails (address 131071) refl refl refl

-- 131,072, the length of the region, passes
pub Address-is_good_one_above_passes : RuledOut (λ k. fits-Address ⊗ fits_end) Address-is_good.Pre Address-is_good.Post
    (λ k a. leb a.0.0 region)
Address-is_good_one_above_passes = passes (address 131072) refl refl refl

-- an address made where a test passes
abbrev address_if : (ℕ → Bool) → ℕ → Option Address
address_if good n = cond (good n) (Some (address n)) None

abbrev is_address : Option Address → Bool
is_address (Some n) = true
is_address None = false

-- 131,071 makes none
pub Address-new_highest_refused : RuledOut (λ k. fits_u32 ⊗ fits_end) Address-new.Pre Address-new.Post
    (λ k a. address_if (λ n. ltb n highest_address) a.0)
unfolding tables_open
Address-new_highest_refused = wrong_at tt (131071, tt) refl tt (λ p. not (is_address p)) refl refl

-- 131,072, the length of the region, makes an address
pub Address-new_one_above_passes : RuledOut (λ k. fits_u32 ⊗ fits_end) Address-new.Pre Address-new.Post
    (λ k a. address_if (λ n. leb n region) a.0)
unfolding tables_open
Address-new_one_above_passes = wrong_at tt (131072, tt) refl tt is_address refl refl

-- THE SAME NUMBER, which is asked of two that are lent

abbrev Two : Type 0 → Type 0
Two A = Bor A × (Bor A × Unit {0})

abbrev fits_two : {A : Type 0} → (A → Bool) → Two A → Bool
fits_two p = fits_lent_one p ⊗ fits_lent_one p ⊗ fits_end

abbrev two : {A : Type 0} → A → A → Two A
two x y = (lent x, (lent y, tt))

-- any two tasks are the same
pub TaskNumberPartialEq-eq_any_two :
    RuledOut (λ k. fits_two fits-TaskNumber) TaskNumberPartialEq-eq.Pre TaskNumberPartialEq-eq.Post
    (λ k a. true)
TaskNumberPartialEq-eq_any_two = wrong_at ([], ([], tt)) (two (task 1) (task 2)) refl tt (λ b. b) refl refl

-- no two are the same, not even a task and itself
pub TaskNumberPartialEq-eq_never :
    RuledOut (λ k. fits_two fits-TaskNumber) TaskNumberPartialEq-eq.Pre TaskNumberPartialEq-eq.Post
    (λ k a. false)
TaskNumberPartialEq-eq_never = wrong_at ([], ([], tt)) (two (task 1) (task 1)) refl tt not refl refl

-- only the lower five bits are compared: task 32 is 0, which stands where there is no task
pub TaskNumberPartialEq-eq_lower_five_bits :
    RuledOut (λ k. fits_two fits-TaskNumber) TaskNumberPartialEq-eq.Pre TaskNumberPartialEq-eq.Post
    (λ k a. eqb (a.0.now.0 % 32) (a.1.0.now.0 % 32))
TaskNumberPartialEq-eq_lower_five_bits = wrong_at ([], ([], tt)) (two (task 0) (task 32)) refl tt (λ b. b) refl refl

-- only the lower five bits are compared: ECB 32 is ECB 0
pub EcbNumberPartialEq-eq_lower_five_bits :
    RuledOut (λ k. fits_two fits-EcbNumber) EcbNumberPartialEq-eq.Pre EcbNumberPartialEq-eq.Post
    (λ k a. eqb (a.0.now.0 % 32) (a.1.0.now.0 % 32))
EcbNumberPartialEq-eq_lower_five_bits = wrong_at ([], ([], tt)) (two (ecb 0) (ecb 32)) refl tt (λ b. b) refl refl

-- 0 stands for no ECB, as it does for no task: ECB 0 is not the same as itself
pub EcbNumberPartialEq-eq_zero_is_none :
    RuledOut (λ k. fits_two fits-EcbNumber) EcbNumberPartialEq-eq.Pre EcbNumberPartialEq-eq.Post
    (λ k a. not (eqb a.0.now.0 0) && eqb a.0.now.0 a.1.0.now.0)
EcbNumberPartialEq-eq_zero_is_none = wrong_at ([], ([], tt)) (two (ecb 0) (ecb 0)) refl tt not refl refl

-- only the last byte is compared: 256 is 0
pub AddressPartialEq-eq_cut_to_a_byte :
    RuledOut (λ k. fits_two fits-Address) AddressPartialEq-eq.Pre AddressPartialEq-eq.Post
    (λ k a. eqb (a.0.now.0 % 256) (a.1.0.now.0 % 256))
AddressPartialEq-eq_cut_to_a_byte = wrong_at ([], ([], tt)) (two (address 0) (address 256)) refl tt (λ b. b) refl refl

-- only the last two bytes are compared, too few for the region: 65,536 is 0
pub AddressPartialEq-eq_cut_to_two_bytes :
    RuledOut (λ k. fits_two fits-Address) AddressPartialEq-eq.Pre AddressPartialEq-eq.Post
    (λ k a. eqb (a.0.now.0 % 65536) (a.1.0.now.0 % 65536))
AddressPartialEq-eq_cut_to_two_bytes =
    wrong_at ([], ([], tt)) (two (address 0) (address 65536)) refl tt (λ b. b) refl refl

-- 0 stands for no address: address 0 is not the same as itself
pub AddressPartialEq-eq_zero_is_none :
    RuledOut (λ k. fits_two fits-Address) AddressPartialEq-eq.Pre AddressPartialEq-eq.Post
    (λ k a. not (eqb a.0.now.0 0) && eqb a.0.now.0 a.1.0.now.0)
AddressPartialEq-eq_zero_is_none = wrong_at ([], ([], tt)) (two (address 0) (address 0)) refl tt not refl refl

abbrev offset : ℕ → NameOffset
offset n = record { 0 = n }

-- only the last byte is compared: 256 is 0
pub NameOffsetPartialEq-eq_cut_to_a_byte :
    RuledOut (λ k. fits_two fits-NameOffset) NameOffsetPartialEq-eq.Pre NameOffsetPartialEq-eq.Post
    (λ k a. eqb (a.0.now.0 % 256) (a.1.0.now.0 % 256))
NameOffsetPartialEq-eq_cut_to_a_byte =
    wrong_at ([], ([], tt)) (two (offset 0) (offset 256)) refl tt (λ b. b) refl refl

-- only whether each is 0 is compared: 10 and 20 are the same
pub NameOffsetPartialEq-eq_only_whether_0 :
    RuledOut (λ k. fits_two fits-NameOffset) NameOffsetPartialEq-eq.Pre NameOffsetPartialEq-eq.Post
    (λ k a. cond (eqb a.0.now.0 0) (eqb a.1.0.now.0 0) (not (eqb a.1.0.now.0 0)))
NameOffsetPartialEq-eq_only_whether_0 =
    wrong_at ([], ([], tt)) (two (offset 10) (offset 20)) refl tt (λ b. b) refl refl

-- 0 stands for no name: the first name is not the same as itself
pub NameOffsetPartialEq-eq_zero_is_none :
    RuledOut (λ k. fits_two fits-NameOffset) NameOffsetPartialEq-eq.Pre NameOffsetPartialEq-eq.Post
    (λ k a. not (eqb a.0.now.0 0) && eqb a.0.now.0 a.1.0.now.0)
NameOffsetPartialEq-eq_zero_is_none = wrong_at ([], ([], tt)) (two (offset 0) (offset 0)) refl tt not refl refl

-- REPLIES

-- one number is said in place of another
abbrev for : ℕ → ℕ → ℕ → ℕ
for wrong right n = cond (eqb n right) wrong n

-- 203 and 204 stand for each other
pub Fault-number_203_and_204_exchanged : RuledOut (λ k. fits-Fault ⊗ fits_end) Fault-number.Pre Fault-number.Post
    (λ k a. cond (eqb (fault_number a.0) 203) 204 (for 203 204 (fault_number a.0)))
Fault-number_203_and_204_exchanged = wrong_at tt (AlreadyWaitedOn, tt) refl tt (λ n. eqb n 204) refl refl

-- DETACH's 208 is 207, so that a task which is no subtask counts as one that has some
pub Fault-number_208_is_207 : RuledOut (λ k. fits-Fault ⊗ fits_end) Fault-number.Pre Fault-number.Post
    (λ k a. for 207 208 (fault_number a.0))
Fault-number_208_is_207 = wrong_at tt (NotSubtask, tt) refl tt (λ n. eqb n 207) refl refl

-- the program errors are numbered from 200
pub Fault-number_from_200 : RuledOut (λ k. fits-Fault ⊗ fits_end) Fault-number.Pre Fault-number.Post
    (λ k a. fault_number a.0 - 1)
Fault-number_from_200 = wrong_at tt (DuplicateEnq, tt) refl tt (λ n. eqb n 200) refl refl

-- 4 is answered as 0
pub Reply-number_four_is_0 : RuledOut (λ k. fits-Reply ⊗ fits_end) Reply-number.Pre Reply-number.Post
    (λ k a. for 0 4 (number_of a.0))
Reply-number_four_is_0 = wrong_at tt (Four, tt) refl tt (λ n. eqb n 0) refl refl

-- what is done is answered by its value, in place of 0
pub Reply-number_the_value : RuledOut (λ k. fits-Reply ⊗ fits_end) Reply-number.Pre Reply-number.Post
    (λ k a. number_of a.0 + besides_of a.0)
Reply-number_the_value = wrong_at tt (Got (address 8), tt) refl tt (λ n. eqb n 8) refl refl

-- 102 is answered as 103: a task that is not live counts as one in a wait
pub Reply-number_102_is_103 : RuledOut (λ k. fits-Reply ⊗ fits_end) Reply-number.Pre Reply-number.Post
    (λ k a. for 103 102 (number_of a.0))
Reply-number_102_is_103 = wrong_at tt (Refused NotLive, tt) refl tt (λ n. eqb n 103) refl refl

-- 0 is answered as 4 where no task is ready
pub Reply-number_4_where_none_is_ready : RuledOut (λ k. fits-Reply ⊗ fits_end) Reply-number.Pre Reply-number.Post
    (λ k a. cond (eqb (kind_of (besides_in a.0)) 3 && eqb (besides_of a.0) 0) 4 (number_of a.0))
Reply-number_4_where_none_is_ready = wrong_at tt (Dispatched (task 0), tt) refl tt (λ n. eqb n 4) refl refl

-- nothing is ever answered besides
pub Reply-besides_nothing : RuledOut (λ k. fits-Reply ⊗ fits_end) Reply-besides.Pre Reply-besides.Post (λ k a. 0)
Reply-besides_nothing = wrong_at tt (Got (address 8), tt) refl tt (λ n. eqb n 0) refl refl

-- 4 is answered with 4 besides
pub Reply-besides_four : RuledOut (λ k. fits-Reply ⊗ fits_end) Reply-besides.Pre Reply-besides.Post
    (λ k a. cond (eqb (number_of a.0) 4) 4 (besides_of a.0))
Reply-besides_four = wrong_at tt (Four, tt) refl tt (λ n. eqb n 4) refl refl

-- a refusal has its number besides
pub Reply-besides_the_refusal : RuledOut (λ k. fits-Reply ⊗ fits_end) Reply-besides.Pre Reply-besides.Post
    (λ k a. cond (between 100 199 (number_of a.0)) (number_of a.0) (besides_of a.0))
unfolding tables_open
Reply-besides_the_refusal = wrong_at tt (Refused NotLive, tt) refl tt (λ n. eqb n 102) refl refl

-- only an address goes besides: not the number of a new task
pub Reply-besides_addresses_only : RuledOut (λ k. fits-Reply ⊗ fits_end) Reply-besides.Pre Reply-besides.Post
    (λ k a. cond (eqb (kind_of (besides_in a.0)) 2) (besides_of a.0) 0)
Reply-besides_addresses_only = wrong_at tt (Attached (task 2), tt) refl tt (λ n. eqb n 0) refl refl

-- a report's number of items is not told
pub Reply-besides_no_items : RuledOut (λ k. fits-Reply ⊗ fits_end) Reply-besides.Pre Reply-besides.Post
    (λ k a. cond (eqb (kind_of (besides_in a.0)) 4) 0 (besides_of a.0))
Reply-besides_no_items = wrong_at tt (Counted 2, tt) refl tt (λ n. eqb n 0) refl refl

-- an address is cut to a byte, as numbers of tasks are: 264 is told as 8
pub Reply-besides_cut_to_a_byte : RuledOut (λ k. fits-Reply ⊗ fits_end) Reply-besides.Pre Reply-besides.Post
    (λ k a. besides_of a.0 % 256)
Reply-besides_cut_to_a_byte = wrong_at tt (Got (address 264), tt) refl tt (λ n. eqb n 8) refl refl

-- CONDITIONS

-- a place is free where no task is live: that of an ended task too
pub Condition-is_free_ended : RuledOut (λ k. fits-Condition ⊗ fits_end) Condition-is_free.Pre Condition-is_free.Post
    (λ k a. not (is_live a.0))
Condition-is_free_ended = passes Ended refl refl refl

-- the place of a task in a wait is free
pub Condition-is_free_in_a_wait : RuledOut (λ k. fits-Condition ⊗ fits_end) Condition-is_free.Pre Condition-is_free.Post
    (λ k a. is_free a.0 || waits a.0)
Condition-is_free_in_a_wait = passes (EcbWait 1) refl refl refl

-- whatever is not free is live: an ended task too
pub Condition-is_live_ended : RuledOut (λ k. fits-Condition ⊗ fits_end) Condition-is_live.Pre Condition-is_live.Post
    (λ k a. not (is_free a.0))
Condition-is_live_ended = passes Ended refl refl refl

-- only a ready task is live: none in a wait
pub Condition-is_live_only_ready :
    RuledOut (λ k. fits-Condition ⊗ fits_end) Condition-is_live.Pre Condition-is_live.Post
    (λ k a. is_ready a.0)
Condition-is_live_only_ready = fails ResourceWait refl refl refl

-- a live task is ready: one in a wait too
pub Condition-is_ready_in_a_wait :
    RuledOut (λ k. fits-Condition ⊗ fits_end) Condition-is_ready.Pre Condition-is_ready.Post
    (λ k a. is_live a.0)
Condition-is_ready_in_a_wait = passes (EcbWait 1) refl refl refl

-- a task that is in no wait is ready: an ended one too
pub Condition-is_ready_ended : RuledOut (λ k. fits-Condition ⊗ fits_end) Condition-is_ready.Pre Condition-is_ready.Post
    (λ k a. not (is_free a.0) && not (waits a.0))
Condition-is_ready_ended = passes Ended refl refl refl

-- any wait is a resource wait: an ECB wait too
pub Condition-in_resource_wait_ecb_wait :
    RuledOut (λ k. fits-Condition ⊗ fits_end) Condition-in_resource_wait.Pre Condition-in_resource_wait.Post
    (λ k a. waits a.0)
Condition-in_resource_wait_ecb_wait = passes (EcbWait 1) refl refl refl

-- a task that is neither ready nor in an ECB wait is in a resource wait: an ended one too
pub Condition-in_resource_wait_ended :
    RuledOut (λ k. fits-Condition ⊗ fits_end) Condition-in_resource_wait.Pre Condition-in_resource_wait.Post
    (λ k a. not (is_free a.0) && not (is_ready a.0 || in_ecb_wait a.0))
Condition-in_resource_wait_ended = passes Ended refl refl refl

-- any wait is an ECB wait: a resource wait too
pub Condition-in_ecb_wait_resource_wait :
    RuledOut (λ k. fits-Condition ⊗ fits_end) Condition-in_ecb_wait.Pre Condition-in_ecb_wait.Post
    (λ k a. waits a.0)
Condition-in_ecb_wait_resource_wait = passes ResourceWait refl refl refl

-- an ECB wait that needs two posts or more
abbrev needs_several : Condition → Bool
needs_several Free = false
needs_several Ready = false
needs_several ResourceWait = false
needs_several (EcbWait n) = ltb 1 n
needs_several Ended = false

-- a task that needs just one post is no longer in a wait
pub Condition-in_ecb_wait_one_post_needed :
    RuledOut (λ k. fits-Condition ⊗ fits_end) Condition-in_ecb_wait.Pre Condition-in_ecb_wait.Post
    (λ k a. needs_several a.0)
Condition-in_ecb_wait_one_post_needed = fails (EcbWait 1) refl refl refl

-- ECB waits are overlooked
pub Condition-waits_no_ecb_wait : RuledOut (λ k. fits-Condition ⊗ fits_end) Condition-waits.Pre Condition-waits.Post
    (λ k a. in_resource_wait a.0)
Condition-waits_no_ecb_wait = fails (EcbWait 1) refl refl refl

-- whatever is not ready waits: an ended task too
pub Condition-waits_ended : RuledOut (λ k. fits-Condition ⊗ fits_end) Condition-waits.Pre Condition-waits.Post
    (λ k a. not (is_ready a.0))
Condition-waits_ended = passes Ended refl refl refl

-- TASKS

-- a subtask of task 1, with an ECB
abbrev sub : Task
sub = record { condition = Ready; mother = task 1; limit = 200; dispatching = 150; ecb = Some (ecb 5) }

-- a free place is a subtask of the job step task
pub Task-free_of_task_1 : RuledOut (λ k. fits_end) Task-free.Pre Task-free.Post
    (λ k a. record { condition = Free; mother = task job_step_task; limit = 0; dispatching = 0; ecb = None })
Task-free_of_task_1 = wrong_at tt tt refl tt (λ x. eqb x.mother.0 1) refl refl

-- a free place has ECB 0, in place of none
pub Task-free_with_ecb_0 : RuledOut (λ k. fits_end) Task-free.Pre Task-free.Post
    (λ k a. record { condition = Free; mother = task 0; limit = 0; dispatching = 0; ecb = Some (ecb 0) })
Task-free_with_ecb_0 = wrong_at tt tt refl tt (λ x. has_ecb x.ecb) refl refl

-- a task with other priorities; a task with no ECB
abbrev with_priorities : ℕ → ℕ → Task → Task
with_priorities l d x = record { condition = x.condition; mother = x.mother; limit = l; dispatching = d; ecb = x.ecb }

abbrev without_ecb : Task → Task
without_ecb x =
    record { condition = x.condition; mother = x.mother; limit = x.limit; dispatching = x.dispatching; ecb = None }

-- limit and dispatching priority are exchanged
pub Task-with_condition_priorities_exchanged :
    RuledOut (λ k. fits-Task ⊗ fits-Condition ⊗ fits_end) Task-with_condition.Pre Task-with_condition.Post
    (λ k a. with_priorities a.0.dispatching a.0.limit (with_condition a.0 a.1.0))
Task-with_condition_priorities_exchanged = wrong_at tt (sub, (Ended, tt)) refl tt (λ x. eqb x.limit 150) refl refl

-- the condition stays as it was
pub Task-with_condition_stays :
    RuledOut (λ k. fits-Task ⊗ fits-Condition ⊗ fits_end) Task-with_condition.Pre Task-with_condition.Post
    (λ k a. a.0)
Task-with_condition_stays = wrong_at tt (sub, (Ended, tt)) refl tt (λ x. is_ready x.condition) refl refl

-- the ECB is lost
pub Task-with_condition_ecb_lost :
    RuledOut (λ k. fits-Task ⊗ fits-Condition ⊗ fits_end) Task-with_condition.Pre Task-with_condition.Post
    (λ k a. without_ecb (with_condition a.0 a.1.0))
Task-with_condition_ecb_lost = wrong_at tt (sub, (Ended, tt)) refl tt (λ x. not (has_ecb x.ecb)) refl refl

-- 255 is refused
pub Task-priority_good_highest_refused :
    RuledOut (λ k. fits_u16 ⊗ fits_end) Task-priority_good.Pre Task-priority_good.Post
    (λ k a. ltb a.0 highest_priority)
Task-priority_good_highest_refused = fails 255 refl refl refl

-- 256 passes
pub Task-priority_good_one_above_passes :
    RuledOut (λ k. fits_u16 ⊗ fits_end) Task-priority_good.Pre Task-priority_good.Post
    (λ k a. leb a.0 (highest_priority + 1))
Task-priority_good_one_above_passes = passes 256 refl refl refl

-- -256 passes
pub Task-dpmod_good_minus_256_passes : RuledOut (λ k. fits_i16 ⊗ fits_end) Task-dpmod_good.Pre Task-dpmod_good.Post
    (λ k a. le_z (neg_ℤ (pos (highest_priority + 1))) a.0 && le_z a.0 (pos highest_priority))
unfolding tables_open
Task-dpmod_good_minus_256_passes = passes (neg_ℤ (pos 256)) refl refl refl

-- none below 0 passes: -1 is refused
pub Task-dpmod_good_minus_1_refused : RuledOut (λ k. fits_i16 ⊗ fits_end) Task-dpmod_good.Pre Task-dpmod_good.Post
    (λ k a. le_z (pos 0) a.0 && le_z a.0 (pos highest_priority))
unfolding tables_open
Task-dpmod_good_minus_1_refused = fails (neg_ℤ (pos 1)) refl refl refl

-- 255 is refused
pub Task-dpmod_good_255_refused : RuledOut (λ k. fits_i16 ⊗ fits_end) Task-dpmod_good.Pre Task-dpmod_good.Post
    (λ k a. le_z (neg_ℤ (pos highest_priority)) a.0 && lt_z a.0 (pos highest_priority))
unfolding tables_open
Task-dpmod_good_255_refused = fails (pos 255) refl refl refl

-- 4,095 is refused
pub Task-code_good_highest_refused : RuledOut (λ k. fits_u16 ⊗ fits_end) Task-code_good.Pre Task-code_good.Post
    (λ k a. ltb a.0 highest_end_code)
Task-code_good_highest_refused = fails 4095 refl refl refl

-- 4,096 passes
pub Task-code_good_one_above_passes : RuledOut (λ k. fits_u16 ⊗ fits_end) Task-code_good.Pre Task-code_good.Post
    (λ k a. leb a.0 (highest_end_code + 1))
Task-code_good_one_above_passes = passes 4096 refl refl refl
