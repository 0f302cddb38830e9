-- A place is found only for a length in range and with a place left, and `insert` puts the area there.
use Rattle.std.proofs.Common.{sym, ap, ◌∙◌, arith}
use Rattle.rules.specs.Storage.{area_at}
use Rattle.storage.specs.declared.Storage.{Storage}
use Rattle.mainstorage.specs.Found.{place_asked}
use Rattle.mainstorage.proofs.getmain.put.Goals as goal

pub area_at-requires : goal.area_at-requires
area_at-requires c = (place_asked _ _ _ _ _ (sym c.requires.1 ∙ c.in-Some.is)).0

pub insert-requires : goal.insert-requires
insert-requires c =
    let p = c.requires in
    let h = (place_asked _ _ _ _ _ (sym p.1 ∙ c.in-Some.is)).1 in
    (p.0, omega (arith, ap (λ (z : Storage). z.count) p.0.form))

pub returns-in-Some : goal.returns-in-Some
unfolding area_at
returns-in-Some c = rw c.in-Some.is (cc)
