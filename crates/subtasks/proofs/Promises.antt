-- No second result fits the contract of a public function, whoever wrote it.
use mathlib.Core.Path.{sym, ◌∙◌}
use Rattle.lists.specs.Promise.{Once}
use Rattle.tables.proofs.Bodies.{made_once}
use Rattle.subtasks.proofs.abend.served.Reads as abend_served
use Rattle.subtasks.proofs.attach.served.Reads as attach_served
use Rattle.subtasks.proofs.detach.detach_verdict.Reads as detach_verdict
use Rattle.subtasks.proofs.detach.served.Reads as detach_served
use Rattle.subtasks.proofs.end.end_verdict.Reads as end_verdict
use Rattle.subtasks.proofs.end.served.Reads as end_served

pub abend_served_once : Once abend_served.Post
abend_served_once k a x y e d p q = made_once x y (p ∙ sym q)

pub attach_served_once : Once attach_served.Post
attach_served_once k a x y e d p q = made_once x y (p ∙ sym q)

pub detach_verdict_once : Once detach_verdict.Post
detach_verdict_once k a x y e d p q = p ∙ sym q

pub detach_served_once : Once detach_served.Post
detach_served_once k a x y e d p q = made_once x y (p ∙ sym q)

pub end_verdict_once : Once end_verdict.Post
end_verdict_once k a x y e d p q = p ∙ sym q

pub end_served_once : Once end_served.Post
end_served_once k a x y e d p q = made_once x y (p ∙ sym q)
