-- The name lies within the bytes, so the length byte and the first three bytes can be read, and they decide.
use Rattle.std.proofs.Common.{rules, ◌≡◌, not, ◌&&◌, Bool, sym, ap, ◌∙◌, ◌-◌, arith, length, take, drop, take_all, length-drop}
use Rattle.lists.specs.Lists.{same_bytes}
use Rattle.kinds.specs.Limits.{system_bytes}
use Rattle.namearea.specs.Scanning.{fits_parts}
use Rattle.namearea.specs.Lawfulness.{lawful_there}
use Rattle.namearea.proofs.lawful.lawful_at.Goals as goal

pub overflow_add-o : goal.overflow_add-o
overflow_add-o c = omega (arith, fits_parts _ _ c.requires.1)

pub bounds-bytes-o : goal.bounds-bytes-o
bounds-bytes-o c = omega (arith, fits_parts _ _ c.requires.1)

pub slice_bounds-starts_with-count : goal.slice_bounds-starts_with-count
slice_bounds-starts_with-count c = omega (arith, fits_parts _ _ c.requires.1)

pub slice_bounds-starts_with-start : goal.slice_bounds-starts_with-start
slice_bounds-starts_with-start c = omega (arith, fits_parts _ _ c.requires.1)

pub returns-then-minor_good : goal.returns-then-minor_good
returns-then-minor_good c =
    let bytes = c.args.bytes.now in
    let o = c.args.o in
    let rest = take (length bytes - o) (drop o bytes) in
    let all : rest ≡ drop o bytes = take_all (length bytes - o) (drop o bytes) (omega (arith, length-drop o bytes)) in
    let t : c.starts_with.result ≡ same_bytes (take 3 rest) system_bytes = search rules in
    ap not (t ∙ ap (λ l. same_bytes (take 3 l) system_bytes) all)
    ∙ sym (lawful_there bytes o c.requires.1
    ∙ ap (λ (b : Bool). b && not (same_bytes (take 3 (drop o bytes)) system_bytes))
    (sym c.minor_good.ensures ∙ c.if-minor_good.true))

pub returns-else-minor_good : goal.returns-else-minor_good
returns-else-minor_good c =
    c.if-minor_good.false
    ∙ sym (lawful_there c.args.bytes.now c.args.o c.requires.1
    ∙ ap (λ (b : Bool). b && not (same_bytes (take 3 (drop c.args.o c.args.bytes.now)) system_bytes))
    (sym c.minor_good.ensures ∙ c.if-minor_good.false))
