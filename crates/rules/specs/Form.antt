-- WHAT 101 ALLOWS, of any request, and whom a request names.
use Rattle.std.specs.Prelude.{ℕ, Bool, true, ◌&&◌}
use Rattle.kinds.specs.Ranges.{task_good}
use Rattle.kinds.specs.declared.numbers.TaskNumber.{TaskNumber}
use Rattle.kinds.specs.declared.requests.Request.{Request}
use Rattle.kinds.specs.declared.requests.Request.TheVariants.{Attach, Detach, End, Abend, Enq, Deq, Wait, Post, Clear}
use Rattle.kinds.specs.declared.requests.Request.TheVariants.{Getmain, Freemain, Dispatch}
use Rattle.rules.specs.Names.{Names, names_good}
use Rattle.rules.specs.Events.{Ecbs, ecbs_good}
use Rattle.rules.specs.Attach.{attach_good}
use Rattle.rules.specs.Detach.{detach_good}
use Rattle.rules.specs.End.{end_good}
use Rattle.rules.specs.Enq.{enq_good}
use Rattle.rules.specs.Post.{post_good}
use Rattle.rules.specs.Clear.{clear_good}
use Rattle.rules.specs.Getmain.{getmain_good}
use Rattle.rules.specs.Freemain.{freemain_good}

-- "All but DISPATCH name the calling task.": f of that task, z of DISPATCH
abbrev pub by_caller : {A : Type 0} → Request → (TaskNumber → A) → A → A
by_caller (Attach c lpmod dpmod ecb) f z = f c
by_caller (Detach c task) f z = f c
by_caller (End c code) f z = f c
by_caller (Abend c code step) f z = f c
by_caller (Enq c ret) f z = f c
by_caller (Deq c ret) f z = f c
by_caller (Wait c n) f z = f c
by_caller (Post c e code) f z = f c
by_caller (Clear c e) f z = f c
by_caller (Getmain c bytes subpool conditional) f z = f c
by_caller (Freemain c address bytes subpool) f z = f c
by_caller Dispatch f z = z

-- the calling task, 0 where none is named
abbrev pub caller_of : Request → ℕ
caller_of r = by_caller r (λ c. c.0) 0

-- the caller's number is one that a task can have; one that is not is 102's, and not 101's
abbrev pub caller_good : Request → Bool
caller_good r = by_caller r (λ c. task_good c.0) true

-- 101: "a number is outside its stated range, a list count is 0 or above 16, .." is what this refuses
unfoldable pub ranges_good : Request → Names → Ecbs → Bool
ranges_good (Attach c lpmod dpmod ecb) ns es = attach_good lpmod dpmod ecb
ranges_good (Detach c task) ns es = detach_good task
ranges_good (End c code) ns es = end_good code
ranges_good (Abend c code step) ns es = end_good code
ranges_good (Enq c ret) ns es = enq_good ret ns
ranges_good (Deq c ret) ns es = names_good ns
ranges_good (Wait c n) ns es = ecbs_good es
ranges_good (Post c e code) ns es = post_good e code
ranges_good (Clear c e) ns es = clear_good e
ranges_good (Getmain c bytes subpool conditional) ns es = getmain_good bytes subpool
ranges_good (Freemain c address bytes subpool) ns es = freemain_good address bytes subpool
ranges_good Dispatch ns es = true

-- a request that 101 does not refuse, and whose caller is one that a task can be
unfoldable pub form_holds : Request → Names → Ecbs → Bool
form_holds r ns es = caller_good r && ranges_good r ns es
