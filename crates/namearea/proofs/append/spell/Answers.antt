-- Three parts, one behind the other.
use Rattle.std.proofs.Common.{rules, ◌≡◌, ◌+◌, ◌-◌, ◌++◌, sym, ap, arith, length, take, drop, length-set, length-take-le, ◌∙◌}
use Rattle.kinds.specs.Limits.{major_bytes, longest_minor}
use Rattle.names.specs.Named.{resource_of}
use Rattle.names.proofs.Shown.{shown_length, shown_within}
use Rattle.namearea.specs.Appending.{overlaid_put, overlaid_length, overlaid_spelt}
use Rattle.namearea.proofs.append.spell.Goals as goal

pub slice_bounds-copy_from_slice-end-3 : goal.slice_bounds-copy_from_slice-end-3
slice_bounds-copy_from_slice-end-3 c =
    let at = c.args.at in
    let bytes = c.args.bytes.now in
    let n = c.args.name in
    let j : length n.major ≡ major_bytes = search rules in
    let one = take at bytes ++ (c.copy_from_slice.new.self ++ drop ((at + 8) - at) (drop at bytes)) in
    let s = shown_length n.length n.minor in
    let l : length one ≡ length bytes =
    ap length
    (overlaid_put at ((at + 8) - at) bytes c.copy_from_slice.new.self n.major
    c.copy_from_slice.ensures.after (omega arith))
    ∙ overlaid_length at bytes n.major (omega arith) in
    omega (arith, length-set one (at + 8) n.length)

pub returns-clause-bytes_after : goal.returns-clause-bytes_after
returns-clause-bytes_after c =
    let at = c.args.at in
    let bytes = c.args.bytes.now in
    let n = c.args.name in
    let minor = take n.length n.minor in
    let m : length n.minor ≡ longest_minor = search rules in
    let j : length n.major ≡ major_bytes = search rules in
    let t : length minor ≡ n.length = length-take-le n.length n.minor (omega arith) in
    let s = shown_length n.length n.minor in
    overlaid_spelt at bytes _ _ (resource_of n) n.length minor j (omega arith) (sym s)
    (sym (shown_within n.length n.minor (omega arith)))
    (overlaid_put at ((at + 8) - at) bytes c.copy_from_slice.new.self n.major
    c.copy_from_slice.ensures.after (omega arith))
    (overlaid_put (at + 9) ((at + (n.length + 9)) - (at + 9)) _ c.copy_from_slice-2.new.self minor
    c.copy_from_slice-2.ensures.after (omega arith))

pub returns-clause-value : goal.returns-clause-value
returns-clause-value c = omega (arith, shown_length c.args.name.length c.args.name.minor)
