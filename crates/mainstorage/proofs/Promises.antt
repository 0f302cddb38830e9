-- No second result fits the contract of a public function, whoever wrote it.
use mathlib.Core.Path.{sym, ◌∙◌}
use Rattle.lists.specs.Promise.{Once}
use Rattle.tables.proofs.Bodies.{made_once}
use Rattle.mainstorage.proofs.asked.area_at.Reads as area_at
use Rattle.mainstorage.proofs.freemain.served.Reads as freemain_served
use Rattle.mainstorage.proofs.getmain.served.Reads as getmain_served
use Rattle.mainstorage.proofs.room.lowest.Reads as lowest

pub area_at_once : Once area_at.Post
area_at_once k a x y e d p q = p ∙ sym q

pub freemain_served_once : Once freemain_served.Post
freemain_served_once k a x y e d p q = made_once x y (p ∙ sym q)

pub getmain_served_once : Once getmain_served.Post
getmain_served_once k a x y e d p q = made_once x y (p ∙ sym q)

pub lowest_once : Once lowest.Post
lowest_once k a x y e d p q = p ∙ sym q
