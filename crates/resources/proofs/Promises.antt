-- No second result fits the contract of a public function, whoever wrote it.
use mathlib.Core.Path.{sym, ◌∙◌, refl}
use Rattle.lists.specs.Promise.{Once, OnceWith}
use Rattle.tables.proofs.Bodies.{made_once}
use Rattle.resources.proofs.enq.served.Reads as enq_served
use Rattle.resources.proofs.deq.served.Reads as deq_served
use Rattle.resources.proofs.named.enq_named.Reads as enq_named
use Rattle.resources.proofs.named.deq_named.Reads as deq_named
use Rattle.resources.proofs.codes.enq_codes_due.Reads as enq_codes_due
use Rattle.resources.proofs.codes.deq_codes_due.Reads as deq_codes_due
use Rattle.resources.proofs.codes.write.Reads as write
use Rattle.resources.proofs.looks.enq_looks.Reads as enq_looks
use Rattle.resources.proofs.looks.deq_looks.Reads as deq_looks
use Rattle.resources.proofs.enq.enq_found.Reads as enq_found
use Rattle.resources.proofs.deq.deq_found.Reads as deq_found

pub enq_named_once : Once enq_named.Post
enq_named_once k a x y e d p q = p ∙ sym q

pub deq_named_once : Once deq_named.Post
deq_named_once k a x y e d p q = p ∙ sym q

pub enq_codes_due_once : Once enq_codes_due.Post
enq_codes_due_once k a x y e d p q = p ∙ sym q

pub deq_codes_due_once : Once deq_codes_due.Post
deq_codes_due_once k a x y e d p q = p ∙ sym q

pub write_once : OnceWith write.Post (λ k e. e.1.1.0.now)
write_once k a x y e d p q = (refl, p ∙ sym q)

pub enq_looks_once : Once enq_looks.Post
enq_looks_once k a x y e d p q = p ∙ sym q

pub deq_looks_once : Once deq_looks.Post
deq_looks_once k a x y e d p q = p ∙ sym q

pub enq_found_once : Once enq_found.Post
enq_found_once k a x y e d p q = p ∙ sym q

pub deq_found_once : Once deq_found.Post
deq_found_once k a x y e d p q = p ∙ sym q

pub enq_served_once : OnceWith enq_served.Post (λ k e. e.1.1.1.1.0.now)
enq_served_once k a x y e d p q = (made_once x y (p.0 ∙ sym q.0), p.1 ∙ sym q.1)

pub deq_served_once : OnceWith deq_served.Post (λ k e. e.1.1.1.1.0.now)
deq_served_once k a x y e d p q = (made_once x y (p.0 ∙ sym q.0), p.1 ∙ sym q.1)
