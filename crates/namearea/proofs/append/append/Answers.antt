use Rattle.std.proofs.Common.{rules, ◌≡◌, ◌<◌, ◌+◌, ap, ◌∙◌, arith, length, get_or-take, length-take-le, lt-ltb, le-ltb}
use Rattle.kinds.specs.Limits.{longest_list}
use Rattle.kinds.specs.declared.names.Wanted.{Wanted}
use Rattle.names.specs.Named.{wanted_name}
use Rattle.namearea.specs.Spelling.{spelt, size_of}
use Rattle.namearea.specs.Pointing.{overlaid, no_wanted, zero_pointed, new_names}
use Rattle.namearea.specs.Appending.{writing_none, writing_old, writing_new, writing_all, short, room_here}
use Rattle.namearea.proofs.append.append.Goals.{then-p-i, else-p-i}
use Rattle.namearea.proofs.append.append.Goals as goal

pub loop-i-init : goal.loop-i-init
unfolding new_names
loop-i-init c =
    let n : length c.args.l.names ≡ longest_list = search rules in
    let m : length c.args.p.list.names ≡ longest_list = search rules in
    writing_none (omega arith) (omega arith) c.requires.bytes_len.0 c.requires.l_bound

pub spell-at-requires-clause-bytes_len : goal.spell-at-requires-clause-bytes_len
spell-at-requires-clause-bytes_len c =
    let v = c.loop-i.invariant in
    let l = c.args.l in
    let k = length-take-le l.count l.names v.few in
    let e = get_or-take l.count l.names c.loop-i.i no_wanted (omega arith) in
    let s = short v (omega arith) no_wanted zero_pointed c.requires.l_value in
    (v.long, omega (arith, ap (λ (w : Wanted). w.name.length) e))

pub spell-at-requires-clause-name_bound : goal.spell-at-requires-clause-name_bound
spell-at-requires-clause-name_bound c =
    let v = c.loop-i.invariant in
    let l = c.args.l in
    let k = length-take-le l.count l.names v.few in
    let e = get_or-take l.count l.names c.loop-i.i no_wanted (omega arith) in
    let r = room_here v (omega arith) no_wanted zero_pointed c.requires.l_value (le-ltb _ _ c.if-p-i.true) in
    omega (arith, ap (λ (w : Wanted). size_of (wanted_name w)) e)

pub loop-i-preserved : goal.loop-i-preserved
loop-i-preserved c =
    let v = c.loop-i.invariant in
    let l = c.args.l in
    let i = c.loop-i.i in
    let k = length-take-le l.count l.names v.few in
    let h : i < l.count = omega arith in
    let e = get_or-take l.count l.names i no_wanted h in
    elim c.if-p-i.branch [
      | then-p-i w ↦ writing_new v h no_wanted zero_pointed c.requires.l_value (le-ltb _ _ w.if-p-i.true)
          c.if-p-i.at c.if-p-i.bytes
          (w.at-is ∙ w.spell-at.ensures.value ∙ ap (λ (x : Wanted). c.loop-i.at + size_of (wanted_name x)) e)
          (w.bytes-is ∙ w.spell-at.ensures.bytes_after
          ∙ ap (λ (x : Wanted). overlaid c.loop-i.at c.loop-i.bytes (spelt (wanted_name x))) e)
      | else-p-i w ↦ rw (w.bytes-is, w.at-is) (writing_old v h no_wanted zero_pointed (lt-ltb _ _ w.if-p-i.false))
    ]

pub returns : goal.returns
unfolding new_names
returns c =
    let k = length-take-le c.args.l.count c.args.l.names c.loop-i.invariant.few in
    writing_all c.loop-i.invariant (omega arith)
