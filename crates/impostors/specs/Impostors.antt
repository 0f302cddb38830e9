-- IMPOSTORS: whole services that look like ours and are not. The first is made from any choice of refusals, the others
-- from any other service, of which they keep all but their vice; so each stands for many.
use Rattle.std.specs.Prelude.{ℕ, ◌≡◌, Bool, true, false, ◌&&◌, List, [], map}
use Rattle.std.specs.Borrow.{MutBor}
use Rattle.lists.specs.Lists.{every}
use Rattle.kinds.specs.Replies.{Besides, done_by}
use Rattle.kinds.specs.Tasks.{with_condition}
use Rattle.kinds.specs.declared.numbers.TaskNumber.{TaskNumber}
use Rattle.kinds.specs.declared.numbers.EcbNumber.{EcbNumber}
use Rattle.kinds.specs.declared.tasks.Task.{Task}
use Rattle.kinds.specs.declared.names.NameList.{NameList}
use Rattle.kinds.specs.declared.ecbs.EcbList.{EcbList}
use Rattle.kinds.specs.declared.requests.Request.{Request}
use Rattle.kinds.specs.declared.requests.Request.TheVariants.{Attach, Detach, End, Abend, Enq, Deq, Wait, Post, Clear}
use Rattle.kinds.specs.declared.requests.Request.TheVariants.{Getmain, Freemain, Dispatch}
use Rattle.kinds.specs.declared.replies.Refusal.{Refusal}
use Rattle.kinds.specs.declared.replies.Reply.TheVariants.{Refused}
use Rattle.rules.specs.Steps.{Step, Served}
use Rattle.rules.specs.ResourceWaits.{let_go}
use Rattle.tasks.specs.TaskTables.{task_table_of}
use Rattle.tables.specs.Tables.{put_tasks}
use Rattle.services.specs.Kept.{in_tables, tables_of, said_with}
use Rattle.services.specs.Serve.{served_of}
use Rattle.services.specs.declared.Tables.{Tables}
use Rattle.services.specs.declared.Answer.{Answer}
use Rattle.services.proofs.Tables.serve.Reads as serve
use Rattle.impostors.specs.Wrong.{told_apart}
use Rattle.impostors.specs.Fitting.{fits_u8, fits-NameList, fits-EcbList, fits-Request, fits-Tables}
use Rattle.impostors.specs.Samples.{Asking, asked}

-- what `serve` is given, and what it gives back
pub record Given : Type 0 where
  pub tables : Tables
  pub asking : Asking

pub record Back : Type 0 where
  pub answer : Answer
  pub codes : List ℕ

abbrev pub Service : Type 0
Service = Given → Back

-- a service keeps the contract of `serve` where this is given, wherever the codes area is lent from (its lifetime, its
-- pointer, its ghost name)
abbrev pub Keeps : Service → Given → Type 0
Keeps f g =
    (κ : List ℕ) (p : ℕ × ℕ) (γ : ℕ)
    → serve.Post (κ, tt) (lent p γ g.asking.area) (f g).answer (lent p γ (f g).codes)
  where
    lent : ℕ × ℕ → ℕ → List ℕ → Tables × (Request × (NameList × (EcbList × (MutBor (List ℕ) × Unit {0}))))
    lent p γ area =
        let r : MutBor (List ℕ) = record { ref_ptr = p; ghost_name = γ; now = area } in
        (g.tables, (g.asking.request, (g.asking.names, (g.asking.ecbs, (r, tt)))))

-- what is given fits the types of the parameters
abbrev pub fits-Given : Given → Bool
fits-Given g =
    (fits-Tables g.tables && fits-Request g.asking.request)
    && (fits-NameList g.asking.names && (fits-EcbList g.asking.ecbs && every fits_u8 g.asking.area))

-- it meets the contract; it is caught: there are tables and a request for which it does not
abbrev pub Serves : Service → Type 0
Serves f = (g : Given) → Keeps f g

pub record Caught (f : Service) : Type 0 where
  pub given : Given
  pub fitting : fits-Given given ≡ true
  pub by : Keeps f given → ⊥

pub caught_fails : (f : Service) → Caught f → Serves f → ⊥
caught_fails f c s = c.by (s c.given)

-- what it says, and what is promised
abbrev pub says : Service → Given → Served Tables
says f g = said_with (f g).answer (f g).codes

abbrev pub promised : Given → Served Tables
promised g = served_of g.tables (asked g.asking)

-- caught by a test that tells the two apart
pub caught : (f : Service) (g : Given) → fits-Given g ≡ true → (test : Served Tables → Bool) → test (says f g) ≡ true
    → test (promised g) ≡ false → Caught f
caught f g t test h n = record { given = g; fitting = t; by = λ k. told_apart (k [] (0, 0) 0) test h n }

-- with other tables
abbrev pub back : Back → Tables → Back
back b t = record { answer = record { tables = t; reply = b.answer.reply }; codes = b.codes }

-- by the service that is asked for: what a DETACH, an END, an ENQ, a
-- DEQ, a POST, a GETMAIN and a FREEMAIN come to, and first all others
abbrev pub by_service : {X : Type 0} → X → X → (TaskNumber → ℕ → X) → X → X → (EcbNumber → X)
    → (TaskNumber → ℕ → ℕ → Bool → X) → X → Request → X
by_service x detach end enq deq post getmain freemain (Attach c lpmod dpmod ecb) = x
by_service x detach end enq deq post getmain freemain (Detach c task) = detach
by_service x detach end enq deq post getmain freemain (End c code) = end c code
by_service x detach end enq deq post getmain freemain (Abend c code step) = x
by_service x detach end enq deq post getmain freemain (Enq c ret) = enq
by_service x detach end enq deq post getmain freemain (Deq c ret) = deq
by_service x detach end enq deq post getmain freemain (Wait c n) = x
by_service x detach end enq deq post getmain freemain (Post c e code) = post e
by_service x detach end enq deq post getmain freemain (Clear c e) = x
by_service x detach end enq deq post getmain freemain (Getmain c bytes subpool conditional) =
    getmain c bytes subpool conditional
by_service x detach end enq deq post getmain freemain (Freemain c address bytes subpool) = freemain
by_service x detach end enq deq post getmain freemain Dispatch = x

-- a request on the tables that keep a step
abbrev pub on : Step → Asking → Given
on s a = record { tables = tables_of s; asking = a }

-- THE FOUR OF DOCUMENT 01

-- "one that refuses all requests", by whatever number
abbrev pub refuses_all : (Given → Refusal) → Service
refuses_all why g = record { answer = record { tables = g.tables; reply = Refused (why g) }; codes = g.asking.area }

-- "one that always says 0", whatever it says besides
abbrev pub says_zero : (Given → Besides) → Service → Service
says_zero besides f g =
    record { answer = record { tables = (f g).answer.tables; reply = done_by (besides g) }; codes = (f g).codes }

-- "one that copies the tables back untouched"
abbrev pub copies_back : Service → Service
copies_back f g = back (f g) g.tables

-- "one that grants all queued names at the first call and nothing at DEQ"
abbrev pub all_go : List Task → List Task
all_go ts = map (λ (x : Task). with_condition x (let_go x.condition)) ts

abbrev pub grants_at_once : Service → Service
grants_at_once f g =
    by_service (f g) (f g) (λ c code. f g)
    (back (f g)
    (in_tables (put_tasks (f g).answer.tables.all (task_table_of (all_go (f g).answer.tables.all.tasks.places)))
    (f g).answer.tables.names.bytes))
    (back (f g) (in_tables (put_tasks (f g).answer.tables.all g.tables.all.tasks)
    (f g).answer.tables.names.bytes))
    (λ e. f g) (λ c bytes subpool conditional. f g) (f g) g.asking.request

-- none of them meets the contract of `serve`
pub record ImpostorsCaught : Type 0 where
  pub refusing : (why : Given → Refusal) → Caught (refuses_all why)
  pub saying_zero : (besides : Given → Besides) (f : Service) → Caught (says_zero besides f)
  pub copying : (f : Service) → Caught (copies_back f)
  pub granting_at_enq : (f : Service) → Caught (grants_at_once f)
  pub granting_at_deq : (f : Service) → Caught (grants_at_once f)
