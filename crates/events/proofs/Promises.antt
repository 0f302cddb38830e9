-- No second result fits the contract of a public function, whoever wrote it.
use mathlib.Core.Path.{sym, ◌∙◌}
use Rattle.lists.specs.Promise.{Once}
use Rattle.tables.proofs.Bodies.{made_once}
use Rattle.events.proofs.clear.served.Reads as clear_served
use Rattle.events.proofs.ecb_list.complete_of.Reads as complete_of
use Rattle.events.proofs.ecb_list.wait_verdict.Reads as wait_verdict
use Rattle.events.proofs.ecb_list.wait_set.Reads as wait_set
use Rattle.events.proofs.post.served.Reads as post_served
use Rattle.events.proofs.wait.served.Reads as wait_served

pub clear_served_once : Once clear_served.Post
clear_served_once k a x y e d p q = made_once x y (p ∙ sym q)

pub complete_of_once : Once complete_of.Post
complete_of_once k a x y e d p q = p ∙ sym q

pub wait_verdict_once : Once wait_verdict.Post
wait_verdict_once k a x y e d p q = p ∙ sym q

pub wait_set_once : Once wait_set.Post
wait_set_once k a x y e d p q = p ∙ sym q

pub post_served_once : Once post_served.Post
post_served_once k a x y e d p q = made_once x y (p ∙ sym q)

pub wait_served_once : Once wait_served.Post
wait_served_once k a x y e d p q = made_once x y (p ∙ sym q)
