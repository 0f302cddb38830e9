-- No second result fits the contract of a public function, whoever wrote it.
use mathlib.Core.Path.{sym, ◌∙◌}
use Rattle.lists.specs.Promise.{Once}
use Rattle.between.proofs.entries_ending.entries_left.Reads as entries_left
use Rattle.between.proofs.entries.entries_live.Reads as entries_live
use Rattle.between.proofs.entries.waits_good.Reads as waits_good
use Rattle.between.proofs.waking.wake.Reads as wake
use Rattle.between.proofs.waiters_ending.wait_bits_left.Reads as wait_bits_left
use Rattle.between.proofs.waiters.waiters_good.Reads as waiters_good
use Rattle.between.proofs.waiters.needs_good.Reads as needs_good
use Rattle.between.proofs.waiters.post.Reads as post
use Rattle.between.proofs.owners.owners_good.Reads as owners_good
use Rattle.between.proofs.owners.areas_left.Reads as areas_left

pub entries_left_once : Once entries_left.Post
entries_left_once k a x y e d p q = p ∙ sym q

pub entries_live_once : Once entries_live.Post
entries_live_once k a x y e d p q = p ∙ sym q

pub waits_good_once : Once waits_good.Post
waits_good_once k a x y e d p q = p ∙ sym q

pub wake_once : Once wake.Post
wake_once k a x y e d p q = p ∙ sym q

pub wait_bits_left_once : Once wait_bits_left.Post
wait_bits_left_once k a x y e d p q = p ∙ sym q

pub waiters_good_once : Once waiters_good.Post
waiters_good_once k a x y e d p q = p ∙ sym q

pub needs_good_once : Once needs_good.Post
needs_good_once k a x y e d p q = p ∙ sym q

pub post_once : Once post.Post
post_once k a x y e d p q = p ∙ sym q

pub owners_good_once : Once owners_good.Post
owners_good_once k a x y e d p q = p ∙ sym q

pub areas_left_once : Once areas_left.Post
areas_left_once k a x y e d p q = p ∙ sym q
