-- No second result fits the contract of a public function, whoever wrote it.
use mathlib.Core.Path.{sym, ◌∙◌}
use Rattle.lists.specs.Promise.{Once}
use Rattle.storage.proofs.areas.end_of.Reads as end_of_lem
use Rattle.storage.proofs.areas.apart.Reads as apart
use Rattle.storage.proofs.areas.same_area.Reads as same_area
use Rattle.storage.proofs.areas.shape_good.Reads as shape_good
use Rattle.storage.proofs.empty.Reads as empty
use Rattle.storage.proofs.packed.Reads as packed
use Rattle.storage.proofs.areas_fit.Reads as areas_fit
use Rattle.storage.proofs.shapes_good.Reads as shapes_good
use Rattle.storage.proofs.areas_in_order.Reads as areas_in_order
use Rattle.storage.proofs.insert.Reads as insert
use Rattle.storage.proofs.has_area.Reads as has_area
use Rattle.storage.proofs.without.Reads as without

pub end_of_once : Once end_of_lem.Post
end_of_once k a x y e d p q = p ∙ sym q

pub apart_once : Once apart.Post
apart_once k a x y e d p q = p ∙ sym q

pub same_area_once : Once same_area.Post
same_area_once k a x y e d p q = p ∙ sym q

pub shape_good_once : Once shape_good.Post
shape_good_once k a x y e d p q = p ∙ sym q

pub empty_once : Once empty.Post
empty_once k a x y e d p q = p ∙ sym q

pub packed_once : Once packed.Post
packed_once k a x y e d p q = p ∙ sym q

pub areas_fit_once : Once areas_fit.Post
areas_fit_once k a x y e d p q = p ∙ sym q

pub shapes_good_once : Once shapes_good.Post
shapes_good_once k a x y e d p q = p ∙ sym q

pub areas_in_order_once : Once areas_in_order.Post
areas_in_order_once k a x y e d p q = p ∙ sym q

pub insert_once : Once insert.Post
insert_once k a x y e d p q = p ∙ sym q

pub has_area_once : Once has_area.Post
has_area_once k a x y e d p q = p ∙ sym q

pub without_once : Once without.Post
without_once k a x y e d p q = p ∙ sym q
