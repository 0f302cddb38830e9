-- No second result fits the contract of a public function, whoever wrote it.
use mathlib.Core.Path.{sym, ◌∙◌}
use Rattle.lists.specs.Promise.{Once, OnceWith}
use Rattle.services.proofs.Leaves.{answer_once, served_once}
use Rattle.services.proofs.Tables.abend.Reads as abend
use Rattle.services.proofs.Tables.attach.Reads as attach
use Rattle.services.proofs.Tables.clear.Reads as clear
use Rattle.services.proofs.Tables.deq.Reads as deq
use Rattle.services.proofs.Tables.detach.Reads as detach
use Rattle.services.proofs.Tables.dispatch.Reads as dispatch
use Rattle.services.proofs.Tables.end.Reads as end
use Rattle.services.proofs.Tables.enq.Reads as enq
use Rattle.services.proofs.Tables.freemain.Reads as freemain
use Rattle.services.proofs.Tables.fresh.Reads as fresh
use Rattle.services.proofs.Tables.getmain.Reads as getmain
use Rattle.services.proofs.Tables.sound.Reads as sound
use Rattle.services.proofs.Tables.post.Reads as post
use Rattle.services.proofs.Tables.queues.Reads as queues
use Rattle.services.proofs.Tables.serve.Reads as serve
use Rattle.services.proofs.Tables.stuck.Reads as stuck
use Rattle.services.proofs.Tables.wait.Reads as wait

pub abend_once : Once abend.Post
abend_once k a x y e d p q = answer_once x y (p ∙ sym q)

pub attach_once : Once attach.Post
attach_once k a x y e d p q = answer_once x y (p ∙ sym q)

pub clear_once : Once clear.Post
clear_once k a x y e d p q = answer_once x y (p ∙ sym q)

pub deq_once : OnceWith deq.Post (λ k e. e.1.1.1.1.0.now)
deq_once k a x y e d p q = served_once x y _ _ (p ∙ sym q)

pub detach_once : Once detach.Post
detach_once k a x y e d p q = answer_once x y (p ∙ sym q)

pub dispatch_once : Once dispatch.Post
dispatch_once k a x y e d p q = answer_once x y (p ∙ sym q)

pub end_once : Once end.Post
end_once k a x y e d p q = answer_once x y (p ∙ sym q)

pub enq_once : OnceWith enq.Post (λ k e. e.1.1.1.1.0.now)
enq_once k a x y e d p q = served_once x y _ _ (p ∙ sym q)

pub freemain_once : Once freemain.Post
freemain_once k a x y e d p q = answer_once x y (p ∙ sym q)

pub fresh_once : Once fresh.Post
fresh_once k a x y e d p q = answer_once x y (p ∙ sym q)

pub getmain_once : Once getmain.Post
getmain_once k a x y e d p q = answer_once x y (p ∙ sym q)

pub sound_once : Once sound.Post
sound_once k a x y e d p q = p ∙ sym q

pub post_once : Once post.Post
post_once k a x y e d p q = answer_once x y (p ∙ sym q)

pub queues_once : OnceWith queues.Post (λ k e. e.1.0.now)
queues_once k a x y e d p q = served_once x y _ _ (p ∙ sym q)

pub serve_once : OnceWith serve.Post (λ k e. e.1.1.1.1.0.now)
serve_once k a x y e d p q = served_once x y _ _ (p ∙ sym q)

pub stuck_once : OnceWith stuck.Post (λ k e. e.1.0.now)
stuck_once k a x y e d p q = served_once x y _ _ (p ∙ sym q)

pub wait_once : Once wait.Post
wait_once k a x y e d p q = answer_once x y (p ∙ sym q)
