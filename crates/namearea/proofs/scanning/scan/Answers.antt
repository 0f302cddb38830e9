use Rattle.std.proofs.Common.{sym, ap, ◌∙◌, ◌-◌, arith, eqb, drop, length, take, take_all, length-drop, length-take-le, get_or-take}
use Rattle.lists.specs.Lists.{every}
use Rattle.namearea.specs.Steps.{next_end, turn_ends, turn_goes, turn_over}
use Rattle.namearea.proofs.scanning.scan.Goals as goal

pub returns-in_default : goal.returns-in_default
returns-in_default c =
    let i = c.loop-i.i in
    let ats = c.args.ats.now in
    let k = length-take-le c.args.n ats c.requires.0 in
    turn_ends c.loop-i.invariant (omega arith) c.next_end.result
    (c.next_end.ensures
    ∙ ap (next_end c.args.bytes.now (take i ats) c.loop-i.at) (get_or-take c.args.n ats i 0 (omega arith)))
    c.in_default.is

pub loop-i-preserved : goal.loop-i-preserved
loop-i-preserved c =
    let i = c.loop-i.i in
    let ats = c.args.ats.now in
    let k = length-take-le c.args.n ats c.requires.0 in
    turn_goes c.loop-i.invariant (omega arith) c.next_end.result
    (c.next_end.ensures
    ∙ ap (next_end c.args.bytes.now (take i ats) c.loop-i.at) (get_or-take c.args.n ats i 0 (omega arith))) _
    c.in-Some.is

pub returns : goal.returns
returns c =
    let bytes = c.args.bytes.now in
    let at = c.loop-i.at in
    let k = length-take-le c.args.n c.args.ats.now c.requires.0 in
    c.rest_zero.ensures
    ∙ ap (every (eqb 0)) (take_all (length bytes - at) (drop at bytes) (omega (arith, length-drop at bytes)))
    ∙ sym (turn_over c.loop-i.invariant (omega (arith, c.loop-i.invariant.within)))
