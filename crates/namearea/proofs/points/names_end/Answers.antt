use Rattle.std.proofs.Common.{ℕ, ◌<◌, ◌+◌, subst, sym, ap, ◌∙◌, arith, get_or-take, length-take-le}
use Rattle.namearea.specs.Finding.{Passed, pass_start, pass_seen, pass_new, all_passed}
use Rattle.namearea.proofs.points.names_end.Goals.{then-o-at, else-o-at}
use Rattle.namearea.proofs.points.names_end.Goals as goal

pub loop-o-init : goal.loop-o-init
loop-o-init c = pass_start c.requires

pub loop-o-preserved : goal.loop-o-preserved
loop-o-preserved c =
    let v = c.loop-o.invariant in
    let a = c.args in
    let i = c.loop-o.o-index in
    let k = length-take-le a.n a.ats.now v.used.few in
    let h : i < a.n = omega arith in
    let e = get_or-take a.n a.ats.now i 0 h in
    elim c.if-o-at.branch [
      | then-o-at w ↦ subst (λ (t : ℕ). Passed a.ats.now a.n a.bytes.now t (i + 1))
          (sym (w.at-is ∙ ap (λ (t : ℕ). c.loop-o.at + t) w.spelt_at.ensures.size))
          (pass_new v h (sym e ∙ w.if-o-at.true))
      | else-o-at w ↦ subst (λ (t : ℕ). Passed a.ats.now a.n a.bytes.now t (i + 1)) (sym w.at-is)
          (pass_seen v h (λ q. w.if-o-at.false (e ∙ q)))
    ]

pub returns : goal.returns
returns c =
    let v = c.loop-o.invariant in
    let k = length-take-le c.args.n c.args.ats.now v.used.few in
    record { value = all_passed v (omega (arith, v.within)); upper_bound = v.low }
