-- What one request does to tables: the one definition of its outcome, `serviceOf`, on the step that they stand for; and
-- the words of the one path to it: whom a request names, the gate, and what the verdict makes of the service's body.
use Rattle.kinds.specs.declared.numbers.TaskNumber.{TaskNumber}
use Rattle.std.specs.Prelude.{Option, None, Some}
use Rattle.std.specs.Prelude.{◌≡◌, Bool, true, false, List, ℕ}
use Rattle.lists.specs.Pick.{pick}
use Rattle.kinds.specs.Replies.{fault_number}
use Rattle.kinds.specs.declared.requests.Request.{Request}
use Rattle.kinds.specs.declared.requests.Request.TheVariants.{Attach, Detach, End, Abend, Enq, Deq, Wait, Post, Clear}
use Rattle.kinds.specs.declared.requests.Request.TheVariants.{Getmain, Freemain, Dispatch}
use Rattle.kinds.specs.declared.replies.Refusal.TheVariants.{Unsound}
use Rattle.kinds.specs.declared.replies.Fault.{Fault}
use Rattle.std.specs.Prelude.{Ok, Err}
use Rattle.kinds.specs.Replies.{Verdict, Gate}
use Rattle.kinds.specs.declared.replies.No.TheVariants.{Refuse, Fail}
use Rattle.rules.specs.Tests.{first_of}
use Rattle.rules.specs.Steps.{Step, Outcome, Served, refused, failed, kept_by}
use Rattle.rules.specs.Names.{Names}
use Rattle.rules.specs.Events.{Ecbs}
use Rattle.rules.specs.Ending.{ended}
use Rattle.rules.specs.Admission.{gate_by, gate_of, open_gate}
use Rattle.rules.specs.Form.{by_caller}
use Rattle.rules.specs.Serve.{Asked, service_of}
use Rattle.laws.specs.Tested.{gate_at}
use Rattle.laws.specs.RenamedSteps.{NamesTested}
use Rattle.resources.specs.Looking.{enq_named, deq_named}
use Rattle.tables.specs.Tables.{sound_tables, Admitted}
use Rattle.tables.specs.Tables as all
use Rattle.tables.specs.Bodies.{Told, told}
use Rattle.tables.specs.declared.AllTables.{AllTables}
use Rattle.tables.specs.declared.made.Made.{Made}
use Rattle.services.specs.Kept.{step_of, soundb, answered_with}
use Rattle.services.specs.declared.Tables.{Tables}

unfoldable pub served_of : Tables → Asked → Served Tables
served_of t a = answered_with t a.area (λ s area. service_of s a.request a.names a.ecbs area)

-- whom a request names
abbrev pub caller_in : Request → Option TaskNumber
caller_in q = by_caller q Some None

-- the gate of a caller, and that of DISPATCH and of the reports, which name none
abbrev pub gate_for : Option TaskNumber → Step → Gate
gate_for None s = open_gate s
gate_for (Some c) s = gate_of s c

-- with 100 before it
unfoldable pub gated : Tables → (Step → Gate) → Gate
gated t g = pick (soundb t) (g (step_of t)) (Err Unsound)

-- what the names beside a request say of it: 101 and 110 of ENQ, 101 of DEQ; no other request has names
abbrev pub named_by : Request → Names → Gate
named_by (Attach c lpmod dpmod ecb) ns = Ok tt
named_by (Detach c task) ns = Ok tt
named_by (End c code) ns = Ok tt
named_by (Abend c code step) ns = Ok tt
named_by (Enq c ret) ns = gate_by (first_of (enq_named ret ns))
named_by (Deq c ret) ns = gate_by (first_of (deq_named ns))
named_by (Wait c n) ns = Ok tt
named_by (Post c e code) ns = Ok tt
named_by (Clear c e) ns = Ok tt
named_by (Getmain c bytes subpool conditional) ns = Ok tt
named_by (Freemain c address bytes subpool) ns = Ok tt
named_by Dispatch ns = Ok tt

-- one gate behind another
abbrev pub both_gates : Gate → Gate → Gate
both_gates (Ok _) g = g
both_gates (Err why) g = Err why

-- the caller's gate, and behind it that of the names
abbrev pub entry_of : Tables → Request → Names → Gate
entry_of t q ns = both_gates (gated t (gate_for (caller_in q))) (named_by q ns)

-- the request has names beside it
abbrev pub asks_names : Request → Bool
asks_names (Attach c lpmod dpmod ecb) = false
asks_names (Detach c task) = false
asks_names (End c code) = false
asks_names (Abend c code step) = false
asks_names (Enq c ret) = true
asks_names (Deq c ret) = true
asks_names (Wait c n) = false
asks_names (Post c e code) = false
asks_names (Clear c e) = false
asks_names (Getmain c bytes subpool conditional) = false
asks_names (Freemain c address bytes subpool) = false
asks_names Dispatch = false

-- what both gates give to the service behind them
pub record Admits (t : Tables) (q : Request) (ns : Names) : Type 0 where
  pub sound : soundb t ≡ true
  pub gate : gate_at (step_of t) q ≡ Ok tt
  pub names : NamesTested q ns

-- the same where names are pointers, as the body of the service gets it
pub record Behind (t : AllTables) (q : Request) (ns : Names) : Type 0 where
  pub sound : sound_tables t ≡ true
  pub gate : gate_at (all.step_of t) q ≡ Ok tt
  pub names : NamesTested q ns

-- what a program error makes of the tables: its caller ends
abbrev pub ended_by : Fault → AllTables → Option TaskNumber → AllTables
ended_by what t None = t
ended_by what t (Some c) = all.tables_of (ended (all.step_of t) c.0 (fault_number what))

-- there is a caller, and it can be ended
abbrev pub Ends : AllTables → Option TaskNumber → Type 0
Ends t None = ⊥
Ends t (Some c) = Admitted t c

-- what the verdict makes of what a body tells: a refusal leaves the tables, a program error ends the caller
abbrev settled_by : Verdict → Outcome AllTables → Option TaskNumber → Outcome AllTables
settled_by (Ok _) o w = o
settled_by (Err (Refuse why)) o w = refused why o.tables
settled_by (Err (Fail what)) o w = failed what (ended_by what o.tables w)

unfoldable pub settled_as : Told → Option TaskNumber → Outcome AllTables
settled_as k w = settled_by k.verdict k.outcome w

-- a body that has failed was called, and leaves its caller to be ended
abbrev pub EndsIfFailed : Made → Option TaskNumber → Type 0
EndsIfFailed k w = (what : Fault) → k.verdict ≡ Err (Fail what) → Ends k.tables w

-- kept in all tables
abbrev pub served_in : Served Step → Served AllTables
served_in o = record { outcome = kept_by all.tables_of o.outcome; codes = o.codes }

-- what the body of request q made of t, and left in the codes area, comes to what the rules say of it
pub record Settles (t : AllTables) (ns : Names) (es : Ecbs) (area : List ℕ) (k : Made) (left : List ℕ) (q : Request)
    : Type 0 where
  pub says : record { outcome = settled_as (told k) (caller_in q); codes = left }
      ≡ served_in (service_of (all.step_of t) q ns es area)
  pub ends : EndsIfFailed k (caller_in q)
