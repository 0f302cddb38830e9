-- An offset that was there gets what it got before; the name of another goes to the end of the names so far.
use Rattle.std.proofs.Common.{subst, sym, ◌+◌, ◌-◌, ◌++◌, arith, length, get_or, take, drop, set}
use Rattle.namearea.specs.There.{FirstOf}
use Rattle.namearea.specs.Packing.{Laid, laid_seen, laid_long, laid_room, laid_new}
use Rattle.namearea.proofs.packing.lay.Goals as goal

pub returns-in-Some : goal.returns-in-Some
returns-in-Some c =
    let p = c.requires in
    let f = subst (FirstOf c.args.ats.now c.args.i (get_or c.args.ats.now c.args.i 0)) c.in-Some.is
    c.first_of.ensures in
    laid_seen p.laid p.clear.0 p.clear.2 f

pub overflow_add-end : goal.overflow_add-end
overflow_add-end c =
    let p = c.requires in
    let f = subst (FirstOf c.args.ats.now c.args.i (get_or c.args.ats.now c.args.i 0)) c.in_default.is
    c.first_of.ensures in
    omega (arith, laid_room p.laid p.clear.0 p.clear.2 f)

pub slice_bounds-copy_from_slice-end : goal.slice_bounds-copy_from_slice-end
slice_bounds-copy_from_slice-end c =
    let p = c.requires in
    let f = subst (FirstOf c.args.ats.now c.args.i (get_or c.args.ats.now c.args.i 0)) c.in_default.is
    c.first_of.ensures in
    omega (arith, laid_room p.laid p.clear.0 p.clear.2 f, laid_long p.laid p.clear.0 p.clear.2)

pub overflow_cast-to : goal.overflow_cast-to
overflow_cast-to c =
    let p = c.requires in
    let f = subst (FirstOf c.args.ats.now c.args.i (get_or c.args.ats.now c.args.i 0)) c.in_default.is
    c.first_of.ensures in
    omega (arith, laid_room p.laid p.clear.0 p.clear.2 f)

pub returns : goal.returns
returns c =
    let p = c.requires in
    let a = c.args in
    let name = c.spelt_at-name in
    let m = (a.at + length name.result.now) - a.at in
    let f = subst (FirstOf a.ats.now a.i (get_or a.ats.now a.i 0)) c.in_default.is c.first_of.ensures in
    subst (λ part. Laid 16384 a.old.now a.ats.now (a.i + 1) (set a.to.now a.i a.at)
    (take a.at a.new.now ++ (part ++ drop m (drop a.at a.new.now))) (a.at + length name.result.now))
    (sym c.copy_from_slice.ensures.after)
    (laid_new p.laid p.clear.0 p.clear.2 f m name.result.now name.ensures.value (omega arith))
