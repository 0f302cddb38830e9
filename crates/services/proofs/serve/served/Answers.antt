-- Case by case of the request: the body of the service that it names, and what its verdict comes to.
use mathlib.Core.Path.{refl, subst}
use Rattle.rules.specs.Serve.{service_of}
use Rattle.tables.proofs.Admits.{admitted_packed}
use Rattle.kinds.specs.declared.requests.Request.{Request}
use Rattle.names.specs.Pointers.{pointed_in}
use Rattle.services.specs.Serve.{Behind}
use Rattle.services.proofs.Glue.{behind_names, behind_admits, known, plain_known, coded_known, dispatch_settles}
use mir.Syntax.{w16}
use mir.Facts.{to_z-of_z}
use Rattle.std.proofs.Common.{SFits, rules}
use Rattle.services.proofs.serve.served.Goals as goal

pub served-requires : goal.served-requires
served-requires c =
    behind_admits c.args.t _ _ c.in-Attach.is _ c.requires _ refl

pub served-requires-in-Detach : goal.served-requires-in-Detach
served-requires-in-Detach c =
    behind_admits c.args.t _ _ c.in-Detach.is _ c.requires _ refl

pub served-requires-in-End : goal.served-requires-in-End
served-requires-in-End c =
    behind_admits c.args.t _ _ c.in-End.is _ c.requires _ refl

pub served-requires-in-Abend : goal.served-requires-in-Abend
served-requires-in-Abend c =
    behind_admits c.args.t _ _ c.in-Abend.is _ c.requires _ refl

pub served-requires-in-Enq : goal.served-requires-in-Enq
served-requires-in-Enq c = (
  behind_admits c.args.t _ _ c.in-Enq.is _ c.requires _ refl,
  (behind_names c.args.t _ _ c.in-Enq.is _ c.requires _ refl).0,
)

pub served-requires-in-Deq : goal.served-requires-in-Deq
served-requires-in-Deq c = (
  behind_admits c.args.t _ _ c.in-Deq.is _ c.requires _ refl,
  behind_names c.args.t _ _ c.in-Deq.is _ c.requires _ refl,
)

pub served-requires-in-Wait : goal.served-requires-in-Wait
served-requires-in-Wait c =
    behind_admits c.args.t _ _ c.in-Wait.is _ c.requires _ refl

pub served-requires-in-Post : goal.served-requires-in-Post
served-requires-in-Post c =
    let a = behind_admits c.args.t _ _ c.in-Post.is _ c.requires _ refl in
    admitted_packed _ _ a

pub served-requires-in-Clear : goal.served-requires-in-Clear
served-requires-in-Clear c =
    let a = behind_admits c.args.t _ _ c.in-Clear.is _ c.requires _ refl in
    admitted_packed _ _ a

pub served-requires-in-Getmain : goal.served-requires-in-Getmain
served-requires-in-Getmain c =
    let a = behind_admits c.args.t _ _ c.in-Getmain.is _ c.requires _ refl in
    admitted_packed _ _ a

pub served-requires-in-Freemain : goal.served-requires-in-Freemain
served-requires-in-Freemain c =
    let a = behind_admits c.args.t _ _ c.in-Freemain.is _ c.requires _ refl in
    admitted_packed _ _ a

pub returns-in-Attach : goal.returns-in-Attach
unfolding service_of
returns-in-Attach c =
    let f : SFits w16 c.in-Attach.dpmod = search rules in
    let e = rw (to_z-of_z {w = w16} {z = c.in-Attach.dpmod} f) at c.served.ensures in
    plain_known c.args.t _ _ c.in-Attach.is _ c.requires _ refl refl _ _ _ e _ _ _ refl

pub returns-in-Detach : goal.returns-in-Detach
unfolding service_of
returns-in-Detach c =
    plain_known c.args.t _ _ c.in-Detach.is _ c.requires _ refl refl _ _ _ c.served-in-Detach.ensures _ _ _ refl

pub returns-in-End : goal.returns-in-End
unfolding service_of
returns-in-End c =
    plain_known c.args.t _ _ c.in-End.is _ c.requires _ refl refl _ _ _ c.served-in-End.ensures _ _ _ refl

pub returns-in-Abend : goal.returns-in-Abend
unfolding service_of
returns-in-Abend c =
    plain_known c.args.t _ _ c.in-Abend.is _ c.requires _ refl refl _ _ _ c.served-in-Abend.ensures _ _ _ refl

pub returns-in-Enq : goal.returns-in-Enq
unfolding service_of
returns-in-Enq c =
    let e = c.served-in-Enq.ensures in
    coded_known c.args.t _ _ c.in-Enq.is _ c.requires _ refl refl _ _ _ e.result_value _ _ _ _ _ e.codes_after refl

pub returns-in-Deq : goal.returns-in-Deq
unfolding service_of
returns-in-Deq c =
    let e = c.served-in-Deq.ensures in
    coded_known c.args.t _ _ c.in-Deq.is _ c.requires _ refl refl _ _ _ e.result_value _ _ _ _ _ e.codes_after refl

pub returns-in-Wait : goal.returns-in-Wait
unfolding service_of
returns-in-Wait c =
    plain_known c.args.t _ _ c.in-Wait.is _ c.requires _ refl refl _ _ _ c.served-in-Wait.ensures _ _ _ refl

pub returns-in-Post : goal.returns-in-Post
unfolding service_of
returns-in-Post c =
    plain_known c.args.t _ _ c.in-Post.is _ c.requires _ refl refl _ _ _ c.served-in-Post.ensures _ _ _ refl

pub returns-in-Clear : goal.returns-in-Clear
unfolding service_of
returns-in-Clear c =
    plain_known c.args.t _ _ c.in-Clear.is _ c.requires _ refl refl _ _ _ c.served-in-Clear.ensures _ _ _ refl

pub returns-in-Getmain : goal.returns-in-Getmain
unfolding service_of
returns-in-Getmain c =
    plain_known c.args.t _ _ c.in-Getmain.is _ c.requires _ refl refl _ _ _ c.served-in-Getmain.ensures _ _ _ refl

pub returns-in-Freemain : goal.returns-in-Freemain
unfolding service_of
returns-in-Freemain c =
    plain_known c.args.t _ _ c.in-Freemain.is _ c.requires _ refl refl _ _ _ c.served-in-Freemain.ensures _ _ _ refl

pub returns-in-Dispatch : goal.returns-in-Dispatch
returns-in-Dispatch c =
    let e = c.in-Dispatch.is in
    known c.args.t _ _ e
    (dispatch_settles c.args.t _ _ _ _ _ (subst (λ (q : Request). Behind c.args.t q
    (pointed_in c.args.names)) e c.requires)
    c.dispatched-n.ensures c.goes.ensures)
