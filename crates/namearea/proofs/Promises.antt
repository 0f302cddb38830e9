-- No second result fits the contract of a public function, whoever wrote it.
use mathlib.Core.Path.{refl, sym, ◌∙◌}
use Rattle.lists.specs.Promise.{Once, OnceWith}
use Rattle.namearea.proofs.scanning.scan.Reads as scan
use Rattle.namearea.proofs.packing.repack.Reads as repack
use Rattle.namearea.proofs.points.points_of.Reads as points_of
use Rattle.namearea.proofs.append.append.Reads as append
use Rattle.namearea.proofs.lawful.names_lawful.Reads as names_lawful
use Rattle.namearea.proofs.area.NameArea.empty.Reads as empty

pub scan_once : Once scan.Post
scan_once k a x y e d p q = p ∙ sym q

pub points_of_once : Once points_of.Post
points_of_once k a x y e d p q = p ∙ sym q

pub names_lawful_once : Once names_lawful.Post
names_lawful_once k a x y e d p q = p ∙ sym q

pub NameArea-empty_once : Once empty.Post
NameArea-empty_once k a x y e d p q = p ∙ sym q

pub append_once : OnceWith append.Post (λ k e. e.0.now)
append_once k a x y e d p q = (refl, p ∙ sym q)

-- the offsets
pub repack_once_1 : OnceWith repack.Post (λ k e. e.1.1.0.now)
repack_once_1 k a x y e d p q = (refl, p.0 ∙ sym q.0)

-- the area
pub repack_once_2 : OnceWith repack.Post (λ k e. e.1.1.1.0.now)
repack_once_2 k a x y e d p q = (refl, p.1 ∙ sym q.1)
