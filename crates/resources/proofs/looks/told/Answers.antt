use mathlib.Core.Path.{refl}
use native.Mathlib.Omega.{arith}
use Rattle.resources.proofs.Looked.{no_codes, code_next, told_is}
use Rattle.resources.proofs.looks.told.Goals as goal

pub loop-i-init : goal.loop-i-init
loop-i-init c = no_codes _

pub loop-i-preserved : goal.loop-i-preserved
loop-i-preserved c =
    let l = c.loop-i in code_next _ l.i l.codes.bytes _ l.zero (omega arith) c.code-k.ensures l.invariant

pub returns : goal.returns
returns c =
    let l = c.loop-i in
    let a = c.args in
    told_is a.has a.clear a.wanted l.i a.n _ refl (omega arith) l.invariant
