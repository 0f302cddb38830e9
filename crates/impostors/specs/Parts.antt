-- PARTS OF TABLES that counterexamples are made of.
use Rattle.std.specs.Prelude.{ℕ, ◌+◌, Bool, false, not, cond, ◌&&◌, ◌||◌, List, [], ◌∷◌, eqb, leb, ltb}
use Rattle.std.specs.Borrow.{Bor, MutBor}
use Rattle.lists.specs.Lists.{every}
use Rattle.lists.specs.Tables.{padded}
use Rattle.kinds.specs.Limits.{highest_task, all_ecbs}
use Rattle.kinds.specs.Ecbs.{no_ecb}
use Rattle.kinds.specs.Tasks.{no_task, is_ready}
use Rattle.kinds.specs.Replies.{refusal_number, fault_number}
use Rattle.kinds.specs.Replies.{reply_of}
use Rattle.kinds.specs.declared.replies.Reply.TheVariants.{Done}
use Rattle.rules.specs.Steps.{Step, Outcome}
use Rattle.rules.specs.Admission.{on_go}
use Rattle.tables.specs.Tables.{tables_of}
use Rattle.tables.specs.declared.AllTables.{AllTables}
use Rattle.tables.specs.declared.made.Made.{Made}
use Rattle.kinds.specs.declared.numbers.Address.{Address}
use Rattle.kinds.specs.declared.areas.Area.{Area}
use Rattle.kinds.specs.declared.ecbs.Ecb.{Ecb}
use Rattle.kinds.specs.declared.tasks.Task.{Task}
use Rattle.kinds.specs.declared.tasks.Condition.{Condition}
use Rattle.kinds.specs.declared.tasks.Condition.TheVariants.{Ready, ResourceWait, EcbWait, Ended}
use Rattle.std.specs.Prelude.{Option, Some, Ok, Err, None}
use Rattle.kinds.specs.Replies.{Verdict}
use Rattle.kinds.specs.declared.replies.No.TheVariants.{Refuse, Fail}
use Rattle.kinds.specs.declared.numbers.EcbNumber.{EcbNumber}
use Rattle.rules.specs.Control.{Entry}
use Rattle.rules.specs.Enq.{entry_for}
use Rattle.rules.specs.Dispatch.{no_better}
use Rattle.rules.specs.Storage.{first_page, past_page, bytes_apart, one_holder}
use Rattle.rules.specs.Table.{exc, row_of}
use Rattle.history.specs.Samples.{x}
use Rattle.tasks.specs.TaskTables.{task_table_of}
use Rattle.tasks.specs.declared.TaskTable.{TaskTable}
use Rattle.ecbs.specs.Blocks.{ecb_table_of}
use Rattle.ecbs.specs.declared.EcbTable.{EcbTable}
use Rattle.impostors.specs.Samples.{task, ecb}

-- what is lent to be read, and bytes that are lent to be written
abbrev pub lent : {A : Type 0} → A → Bor A
lent x = record { ref_ptr = (0, 0); now = x }

abbrev pub mut_lent : List ℕ → MutBor (List ℕ)
mut_lent l = record { ref_ptr = (0, 0); ghost_name = 0; now = l }

abbrev pub address : ℕ → Address
address n = record { 0 = n }

-- the number that a verdict stands for, 0 where it is to go on
abbrev pub verdict_number : Verdict → ℕ
verdict_number (Ok _) = 0
verdict_number (Err (Refuse why)) = refusal_number why
verdict_number (Err (Fail what)) = fault_number what

abbrev pub goes : Verdict → Bool
goes v = eqb (verdict_number v) 0

-- ENTRIES: task 1 owns x, and 2 waits for it
abbrev pub owner_and_waiter : List Entry
owner_and_waiter = entry_for 1 (exc x) ∷ entry_for 2 (exc x) ∷ []

-- TASKS 1, 2 and so on, the other places free
abbrev pub tasks : List Task → TaskTable
tasks l = task_table_of (padded highest_task no_task l)

-- a task 200/150 of this mother, in this condition and with this ECB
abbrev pub under : ℕ → Condition → Option EcbNumber → Task
under m k e = row_of k m 200 150 e

-- task 1, which has no mother
abbrev pub first : Task
first = under 0 Ready None

-- a task of this mother; one that waits for an entry's control; for so many posts
abbrev pub ready : ℕ → Task
ready m = under m Ready None

abbrev pub held : ℕ → Task
held m = under m ResourceWait None

abbrev pub waiting : ℕ → ℕ → Task
waiting m n = under m (EcbWait n) None

-- it was attached with ECB 5, has ended, and is not detached
abbrev pub ended : ℕ → Task
ended m = under m Ended (Some (ecb 5))

-- the highest number of the ready tasks that none is above, or 0
abbrev last_from : List Task → ℕ → ℕ → List Task → ℕ
last_from ts n found [] = found
last_from ts n found (y ∷ l) = last_from ts (n + 1) (cond (is_ready y.condition && every (no_better y) ts) n found) l

abbrev pub last_best : List Task → ℕ
last_best ts = last_from ts 1 0 ts

-- ECBS 0, 1 and so on, the others zero
abbrev pub events : List Ecb → EcbTable
events l = ecb_table_of (padded all_ecbs no_ecb l)

-- task w waits on it
abbrev pub awaited : ℕ → Ecb
awaited w = record { waiter = task w; complete = false; code = 0 }

-- as it would be before a post
abbrev pub incomplete : Ecb → Ecb
incomplete e = record { waiter = e.waiter; complete = false; code = e.code }

-- AREAS: the two are apart, where only the first page of the first is judged
abbrev pub apart_at_first : Area → Area → Bool
apart_at_first a b =
    bytes_apart a b && (one_holder a b || not (leb (first_page b) (first_page a) && ltb (first_page a) (past_page b)))

-- WHAT A BODY MAKES of tables t by a verdict and an outcome, as its contract has it
abbrev pub making : Verdict → AllTables → Outcome Step → Made
making v t o = record {
  verdict = v;
  reply = on_go v (reply_of o.number o.besides) Done;
  tables = on_go v (tables_of o.tables) t;
}
