-- NO IMPOSTOR MEETS THE CONTRACT OF `serve`: tables and a request for each, and what is then false.
use mathlib.Core.Path.{◌≡◌, refl, sym, ap}
use mathlib.Core.Bool.{Bool, false, not}
use mathlib.Core.List.{List, [], ◌∷◌}
use mathlib.Core.Logic.{inl}
use lib.Dec.{eqb}
use Rattle.lists.specs.Lists.{some}
use Rattle.kinds.specs.Replies.{Besides}
use Rattle.kinds.specs.Tasks.{in_resource_wait}
use Rattle.kinds.specs.declared.tasks.Task.{Task}
use Rattle.kinds.specs.declared.tasks.Condition.{Condition}
use Rattle.kinds.specs.declared.tasks.Condition.TheVariants.{Free, Ready, ResourceWait, EcbWait, Ended}
use Rattle.kinds.specs.declared.requests.Request.TheVariants.{End, Dispatch}
use Rattle.kinds.specs.declared.requests.Ret.TheVariants.{None}
use Rattle.kinds.specs.declared.requests.DeqRet.TheVariants.{None as DeqNone}
use Rattle.kinds.specs.declared.replies.Refusal.{Refusal}
use Rattle.rules.specs.Steps.{Served}
use Rattle.rules.specs.Table.{exc}
use Rattle.rules.specs.ResourceWaits.{let_go}
use Rattle.laws.specs.Answering.{goes_no_refusal}
use Rattle.history.specs.Samples.{start, x}
use Rattle.services.specs.declared.Tables.{Tables}
use Rattle.impostors.specs.Opened.{tables_open}
use Rattle.impostors.specs.Impostors.{Given, Service, Caught, ImpostorsCaught, caught, on, all_go, refuses_all}
use Rattle.impostors.specs.Impostors.{says_zero, copies_back, grants_at_once}
use Rattle.impostors.specs.Answers.{done_says}
use Rattle.impostors.specs.Samples.{task, alone, enq, deq, after, owned, second, awaited}

-- nobody is left in a resource wait where all are let go
abbrev waiting : Task → Bool
waiting x = in_resource_wait x.condition

let_go_lem : (k : Condition) → in_resource_wait (let_go k) ≡ false
let_go_lem Free = refl
let_go_lem Ready = refl
let_go_lem ResourceWait = refl
let_go_lem (EcbWait n) = refl
let_go_lem Ended = refl

nobody_waits : (ts : List Task) → some waiting (all_go ts) ≡ false
nobody_waits [] = refl
nobody_waits (x ∷ ts) = rw (let_go_lem x.condition) (nobody_waits ts)

abbrev somebody_waits : Served Tables → Bool
somebody_waits o = some waiting o.outcome.tables.all.tasks.places

-- 2 asks for what task 1 owns
abbrev enq_by_2 : Given
enq_by_2 = on (after start owned) second

-- DISPATCH of a fresh step is done
pub refusing_caught : (why : Given → Refusal) → Caught (refuses_all why)
unfolding tables_open
refusing_caught why = record {
  given = on start (alone Dispatch);
  fitting = refl;
  by = λ k. goes_no_refusal 0 (why (on start (alone Dispatch))) (inl refl)
      (ap (λ (o : Served Tables). o.outcome.number) (sym (k [] (0, 0) 0)));
}

-- task 2 of a fresh step is not live, and its END is refused
pub saying_zero_caught : (besides : Given → Besides) (f : Service) → Caught (says_zero besides f)
unfolding tables_open
saying_zero_caught besides f =
    caught (says_zero besides f) (on start (alone (End (task 2) 0))) refl (λ o. eqb o.outcome.number 0)
    (ap (λ n. eqb n 0) (done_says (besides (on start (alone (End (task 2) 0))))).0) refl

-- task 1 of a fresh step asks for x, and there is an entry
pub copying_caught : (f : Service) → Caught (copies_back f)
unfolding tables_open
copying_caught f =
    caught (copies_back f) (on start (enq 1 None 0 (exc x ∷ []))) refl
    (λ o. eqb o.outcome.tables.all.queue.count 0) refl refl

-- 2 has to wait
pub granting_caught_at_enq : (f : Service) → Caught (grants_at_once f)
unfolding tables_open
granting_caught_at_enq f =
    caught (grants_at_once f) enq_by_2 refl (λ o. not (somebody_waits o))
    (ap not (nobody_waits (f enq_by_2).answer.tables.all.tasks.places)) refl

-- 2 waits, and has to go on when task 1 gives x back
pub granting_caught_at_deq : (f : Service) → Caught (grants_at_once f)
unfolding tables_open
granting_caught_at_deq f =
    caught (grants_at_once f) (on (after start awaited) (deq 1 DeqNone 0 (exc x ∷ []))) refl somebody_waits refl refl

pub impostors_caught : ImpostorsCaught
impostors_caught = record {
  refusing = refusing_caught;
  saying_zero = saying_zero_caught;
  copying = copying_caught;
  granting_at_enq = granting_caught_at_enq;
  granting_at_deq = granting_caught_at_deq;
}
