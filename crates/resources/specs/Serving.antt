-- What ENQ and DEQ make of the queue, of the tasks and of the codes area.
use Rattle.std.specs.Prelude.{◌≡◌, Bool, true, false, not, ◌&&◌, ◌||◌, List, map, ℕ, length}
use Rattle.lists.specs.Lists.{every, unskipped}
use Rattle.lists.specs.Pick.{pick}
use Rattle.kinds.specs.Tasks.{with_condition}
use Rattle.kinds.specs.declared.numbers.TaskNumber.{TaskNumber}
use Rattle.std.specs.Prelude.{Ok}
use Rattle.kinds.specs.declared.replies.Reply.{Reply}
use Rattle.kinds.specs.declared.replies.Reply.TheVariants.{Done, Four}
use Rattle.kinds.specs.declared.requests.DeqRet.{DeqRet}
use Rattle.kinds.specs.declared.requests.Ret.{Ret}
use Rattle.kinds.specs.declared.tasks.Task.{Task}
use Rattle.kinds.specs.declared.tasks.Condition.TheVariants.{ResourceWait}
use Rattle.rules.specs.Names.{Names, names_of, names_good}
use Rattle.rules.specs.Control.{Entry, available}
use Rattle.rules.specs.Codes.{written_on}
use Rattle.rules.specs.Family.{place, with_place}
use Rattle.rules.specs.Admission.{codes_through}
use Rattle.rules.specs.Deq.{deq_verdict, deq_written}
use Rattle.rules.specs.Enq.{duplicated, to_queue, too_few_free, enq_verdict, with_tail, made_exclusive, enq_written}
use Rattle.queue.specs.Queues.{entries_in}
use Rattle.queue.specs.declared.Queue.{Queue}
use Rattle.resources.specs.Coding.{wants_entry, asks_free}
use Rattle.resources.specs.Looking.{queues_by, enq_looks}
use Rattle.resources.specs.declared.looks.Looks.{Looks}

-- "answer 0 if every code is 0, else 4"
abbrev pub reply_to : Bool → Reply
reply_to true = Done
reply_to false = Four

-- an ENQ that goes on, with what was looked for
pub record EnqTold (ret : Ret) (q : List Entry) (c : ℕ) (l : Names) (looks : Looks) : Type 0 where
  pub good : names_good l ≡ true
  pub fresh : duplicated ret q c l ≡ false
  pub room : too_few_free ret q c l ≡ false
  pub seen : looks ≡ enq_looks ret q c l

-- the caller is to wait for one of the names that are queued for; under USE each was available
unfoldable pub caller_waits : Ret → List Entry → Names → Looks → Bool
caller_waits ret q l looks =
    pick (asks_free ret || not (queues_by ret looks.zero)) false
    (not (every (available q) (unskipped looks.has.of l.asks)))

-- THE COLUMN "THEN", by whether every code is 0: the queue
unfoldable pub queue_left : Ret → List Entry → ℕ → Names → Bool → List Entry
queue_left ret q c l zero =
    pick (queues_by ret zero) (with_tail q c (to_queue ret q c l))
    (pick (wants_entry ret && zero) (map (made_exclusive c (names_of l)) q) q)

-- and the tasks, of which the caller alone may begin to wait
unfoldable pub tasks_left : List Task → ℕ → Bool → List Task
tasks_left ts c waits = pick (not waits) ts (with_place ts c (with_condition (place ts c) ResourceWait))

-- the codes at the front of an area, if they are due
abbrev pub written_if : Bool → List ℕ → List ℕ → List ℕ
written_if due codes area = pick due (written_on codes area) area

-- what the codes area holds in the end, by the verdict of the tests: after ENQ
abbrev pub enq_leaves : Queue → TaskNumber → Ret → Names → List ℕ → List ℕ
enq_leaves q c ret l area =
    codes_through (Ok tt) (enq_verdict (entries_in q) c ret l (length area)) area (enq_written (entries_in q) c ret l area)

-- and after DEQ
abbrev pub deq_leaves : Queue → TaskNumber → DeqRet → Names → List ℕ → List ℕ
deq_leaves q c ret l area =
    codes_through (Ok tt) (deq_verdict (entries_in q) c ret l (length area)) area (deq_written (entries_in q) c ret l area)
