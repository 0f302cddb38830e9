-- The name lies within the bytes.
use Rattle.std.proofs.Common.{ap, ◌∙◌, ◌≡◌, ◌+◌, ◌-◌, arith, get_or, take, drop}
use Rattle.namearea.specs.Scanning.{fits_parts, fit_spelt}
use Rattle.namearea.proofs.scanning.spelt_at.Goals as goal

pub overflow_add-size : goal.overflow_add-size
overflow_add-size c = omega (arith, fits_parts _ _ c.requires.1)

pub bounds-bytes-o : goal.bounds-bytes-o
bounds-bytes-o c = omega (arith, fits_parts _ _ c.requires.1)

pub overflow_add-result : goal.overflow_add-result
overflow_add-result c = omega (arith, fits_parts _ _ c.requires.1)

pub slice_bounds-result-end : goal.slice_bounds-result-end
slice_bounds-result-end c = omega (arith, fits_parts _ _ c.requires.1)

pub returns-clause-value : goal.returns-clause-value
returns-clause-value c =
    let bytes = c.args.bytes.now in
    let o = c.args.o in
    let size = get_or bytes (o + 8) 0 + 9 in
    let e : (o + size) - o ≡ size = omega arith in
    ap (λ n. take n (drop o bytes)) e ∙ fit_spelt bytes o c.requires.1
