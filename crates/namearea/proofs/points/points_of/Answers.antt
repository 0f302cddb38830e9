use Rattle.std.proofs.Common.{rules, ◌≡◌, ◌<◌, refl, ap, ◌∙◌, arith, length, get_or-take, length-take-le}
use Rattle.lists.specs.Tables.{padded}
use Rattle.kinds.specs.Limits.{longest_list}
use Rattle.kinds.specs.declared.names.Wanted.{Wanted}
use Rattle.names.specs.Named.{wanted_name, names_in}
use Rattle.names.proofs.Listed.{good_count}
use Rattle.namearea.specs.Pointing.{no_wanted, shown_by, place_of, stand_of}
use Rattle.namearea.specs.Placing.{pointing_none, pointing_next, pointing_all, short, stand_low}
use Rattle.namearea.proofs.points.points_of.Goals as goal

pub loop-i-init : goal.loop-i-init
unfolding padded
loop-i-init c =
    let e = c.names_end-from.ensures in
    let few = good_count (names_in c.args.l) c.requires.l_value in
    let n : length c.args.l.names ≡ longest_list = search rules in
    pointing_none few (omega arith) e.value (omega (arith, e.upper_bound, c.requires.in_use.room))

pub find-requires-clause-length_le_longest_minor : goal.find-requires-clause-length_le_longest_minor
find-requires-clause-length_le_longest_minor c =
    let v = c.loop-i.invariant in
    let l = c.args.l in
    let k = length-take-le l.count l.names v.many in
    let e = get_or-take l.count l.names c.loop-i.i no_wanted (omega arith) in
    let s = short v (omega arith) c.requires.l_value no_wanted in
    omega (arith, ap (λ (w : Wanted). w.name.length) e)

pub settle-at-requires : goal.settle-at-requires
settle-at-requires c =
    let v = c.loop-i.invariant in
    let l = c.args.l in
    let k = length-take-le l.count l.names v.many in
    let e = get_or-take l.count l.names c.loop-i.i no_wanted (omega arith) in
    let s = short v (omega arith) c.requires.l_value no_wanted in
    (omega (arith, v.near, v.few), omega (arith, ap (λ (w : Wanted). w.name.length) e))

pub overflow_cast-names : goal.overflow_cast-names
overflow_cast-names c =
    let v = c.loop-i.invariant in
    let a = c.args in
    let l = a.l in
    let i = c.loop-i.i in
    let k = length-take-le l.count l.names v.many in
    let h : i < l.count = omega arith in
    let e = get_or-take l.count l.names i no_wanted h in
    let ns = shown_by a.ats.now a.n a.bytes.now in
    let w = stand_low v h c.requires.l_value no_wanted c.find.result
    (c.find.ensures ∙ ap (λ (w : Wanted). place_of ns (wanted_name w)) e) c.settle-at.result
    (c.settle-at.ensures ∙ ap (λ (w : Wanted). stand_of c.find.result c.loop-i.end w.name.length) e) in
    omega (arith, v.few)

pub loop-i-preserved : goal.loop-i-preserved
loop-i-preserved c =
    let v = c.loop-i.invariant in
    let a = c.args in
    let l = a.l in
    let i = c.loop-i.i in
    let k = length-take-le l.count l.names v.many in
    let h : i < l.count = omega arith in
    let e = get_or-take l.count l.names i no_wanted h in
    let ns = shown_by a.ats.now a.n a.bytes.now in
    pointing_next v h c.requires.l_value no_wanted c.find.result
    (c.find.ensures ∙ ap (λ (w : Wanted). place_of ns (wanted_name w)) e) c.settle-at.result
    (c.settle-at.ensures ∙ ap (λ (w : Wanted). stand_of c.find.result c.loop-i.end w.name.length) e) _
    (ap (λ (w : Wanted). w.exclusive) e) refl

pub returns : goal.returns
returns c =
    let v = c.loop-i.invariant in
    let k = length-take-le c.args.l.count c.args.l.names v.many in
    pointing_all v (omega (arith, v.within))
