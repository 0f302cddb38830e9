-- CALLS of `serve` and of the twelve services themselves, one after the other, each on the tables that the one before
-- it gave. A call is whatever the function's own contract lets happen, and nothing else.
use Rattle.std.specs.Prelude.{ℕ, List, [], ◌∷◌}
use Rattle.kinds.specs.Replies.{number_of, besides_of}
use Rattle.kinds.specs.declared.requests.Request.{Request}
use Rattle.kinds.specs.declared.requests.Request.TheVariants.{Attach, Detach, End, Abend, Enq, Deq, Wait, Post, Clear}
use Rattle.kinds.specs.declared.requests.Request.TheVariants.{Getmain, Freemain, Dispatch}
use Rattle.names.specs.Named.{names_in}
use Rattle.ecbs.specs.Blocks.{ecbs_in}
use Rattle.rules.specs.Names.{Names}
use Rattle.rules.specs.Events.{Ecbs}
use Rattle.rules.specs.Serve.{Asked}
use Rattle.rules.specs.Reading.{Turn}
use Rattle.services.specs.declared.Tables.{Tables}
use Rattle.services.specs.declared.Answer.{Answer}
use Rattle.services.proofs.Tables.serve.Reads as serve
use Rattle.services.proofs.Tables.attach.Reads as attach
use Rattle.services.proofs.Tables.detach.Reads as detach
use Rattle.services.proofs.Tables.end.Reads as end
use Rattle.services.proofs.Tables.abend.Reads as abend
use Rattle.services.proofs.Tables.enq.Reads as enq
use Rattle.services.proofs.Tables.deq.Reads as deq
use Rattle.services.proofs.Tables.wait.Reads as wait
use Rattle.services.proofs.Tables.post.Reads as post
use Rattle.services.proofs.Tables.clear.Reads as clear
use Rattle.services.proofs.Tables.getmain.Reads as getmain
use Rattle.services.proofs.Tables.freemain.Reads as freemain
use Rattle.services.proofs.Tables.dispatch.Reads as dispatch
use Rattle.calls.specs.Called.{Called}

-- what a service that is called by its own name was asked, with the lists and the codes area that it takes

abbrev no_names : Names
no_names = record { count = 0; asks = [] }

abbrev no_ecbs : Ecbs
no_ecbs = record { count = 0; ecbs = [] }

abbrev alone : Request → Asked
alone r = record { request = r; names = no_names; ecbs = no_ecbs; area = [] }

abbrev naming : Request → Names → List ℕ → Asked
naming r l area = record { request = r; names = l; ecbs = no_ecbs; area = area }

abbrev listing : Request → Ecbs → Asked
listing r l = record { request = r; names = no_names; ecbs = l; area = [] }

-- the tables it was given, what it was asked, what came back, and what the codes area holds in the end
pub data Call : Tables → Asked → Answer → List ℕ → Type 0 where
  served : (c : Called serve.Post) → Call c.given.0
      (record {
        request = c.given.1.0;
        names = names_in c.given.1.1.0;
        ecbs = ecbs_in c.given.1.1.1.0;
        area = c.given.1.1.1.1.0.now;
      })
      c.result c.exits.1.1.1.1.0.now
  attached : (c : Called attach.Post) → Call c.given.0
      (alone (Attach c.given.1.0 c.given.1.1.0 c.given.1.1.1.0 c.given.1.1.1.1.0))
      c.result []
  detached : (c : Called detach.Post)
      → Call c.given.0 (alone (Detach c.given.1.0 c.given.1.1.0)) c.result []
  ended : (c : Called end.Post) → Call c.given.0 (alone (End c.given.1.0 c.given.1.1.0)) c.result []
  abended : (c : Called abend.Post) → Call c.given.0
      (alone (Abend c.given.1.0 c.given.1.1.0 c.given.1.1.1.0)) c.result []
  enqueued : (c : Called enq.Post) → Call c.given.0
      (naming (Enq c.given.1.0 c.given.1.1.0) (names_in c.given.1.1.1.0)
      c.given.1.1.1.1.0.now)
      c.result c.exits.1.1.1.1.0.now
  dequeued : (c : Called deq.Post) → Call c.given.0
      (naming (Deq c.given.1.0 c.given.1.1.0) (names_in c.given.1.1.1.0)
      c.given.1.1.1.1.0.now)
      c.result c.exits.1.1.1.1.0.now
  waited : (c : Called wait.Post) → Call c.given.0
      (listing (Wait c.given.1.0 c.given.1.1.1.0) (ecbs_in c.given.1.1.0)) c.result []
  posted : (c : Called post.Post) → Call c.given.0
      (alone (Post c.given.1.0 c.given.1.1.0 c.given.1.1.1.0)) c.result []
  cleared : (c : Called clear.Post)
      → Call c.given.0 (alone (Clear c.given.1.0 c.given.1.1.0)) c.result []
  got : (c : Called getmain.Post) → Call c.given.0
      (alone (Getmain c.given.1.0 c.given.1.1.0 c.given.1.1.1.0 c.given.1.1.1.1.0))
      c.result []
  freed : (c : Called freemain.Post) → Call c.given.0
      (alone (Freemain c.given.1.0 c.given.1.1.0 c.given.1.1.1.0 c.given.1.1.1.1.0))
      c.result []
  dispatched : (c : Called dispatch.Post) → Call c.given.0 (alone Dispatch) c.result []

-- what an onlooker sees of it
abbrev pub seen_of : Asked → Answer → Turn
seen_of a r = record {
  request = a.request;
  names = a.names;
  number = number_of r.reply;
  besides = besides_of r.reply;
}

pub data Calls : Tables → List Turn → Tables → Type 0 where
  stop : {t : Tables} → Calls t [] t
  call : {t u : Tables} {us : List Turn} {a : Asked} {r : Answer} {codes : List ℕ} → Call t a r codes
      → Calls r.tables us u → Calls t (seen_of a r ∷ us) u
