-- The name at the offset lies within the bytes, and a length or a last byte that differs tells that it is another.
use Rattle.std.proofs.Common.{arith, sym, ◌∙◌}
use Rattle.std.proofs.lemmas.Bool.{eqb-false}
use Rattle.namearea.specs.Scanning.{fits_parts}
use Rattle.namearea.specs.Steps.{not_spelt}
use Rattle.namearea.proofs.scanning.is_spelt.Goals.{then-bytes-o, else-bytes-o}
use Rattle.namearea.proofs.scanning.is_spelt.Goals as goal

pub overflow_add-o : goal.overflow_add-o
overflow_add-o c = omega (arith, fits_parts _ _ c.requires.1)

pub bounds-bytes-o : goal.bounds-bytes-o
bounds-bytes-o c = omega (arith, fits_parts _ _ c.requires.1)

pub overflow_add-o-then-bytes-o : goal.overflow_add-o-then-bytes-o
overflow_add-o-then-bytes-o c = omega (arith, fits_parts _ _ c.requires.1)

pub bounds-bytes-o-then-bytes-o : goal.bounds-bytes-o-then-bytes-o
bounds-bytes-o-then-bytes-o c = omega (arith, fits_parts _ _ c.requires.1)

pub returns-else-bytes-o-2 : goal.returns-else-bytes-o-2
returns-else-bytes-o-2 c =
    let a = c.args in
    c.if-bytes-o-2.false
    ∙ sym (not_spelt a.bytes.now a.o a.name.now c.requires.1
    (λ e q. elim c.if-bytes-o.branch [
      | then-bytes-o w ↦ eqb-false _ _ (sym w.value-is ∙ c.if-bytes-o-2.false) (q ∙ sym c.requires.3)
      | else-bytes-o w ↦ w.if-bytes-o.false e
    ]))
