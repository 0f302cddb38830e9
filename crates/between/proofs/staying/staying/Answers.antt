use Rattle.std.proofs.Common.{sym, ◌∙◌, arith}
use Rattle.between.proofs.Stays.{one_stays, one_goes}
use Rattle.between.proofs.staying.staying.Goals.{then-stays, else-stays}
use Rattle.between.proofs.staying.staying.Goals as goal

pub loop-x-preserved : goal.loop-x-preserved
loop-x-preserved g c =
    let l = c.loop-x in
    elim c.if-stays.branch [
      | then-stays w ↦ rw (w.kept-is, w.n-is) (record {
        few = omega arith;
        front = λ p h.
            one_stays p _ _ _ _ _ c.x-item.result (omega arith) c.x-item.is (l.invariant.front p h) (omega arith)
            (sym (h _ _ c.stays.ensures) ∙ w.if-stays.true);
      })
      | else-stays w ↦ rw (w.kept-is, w.n-is) (record {
        few = omega arith;
        front = λ p h.
            one_goes p _ _ _ _ _ c.x-item.result (omega arith) c.x-item.is (l.invariant.front p h)
            (sym (h _ _ c.stays.ensures) ∙ w.if-stays.false);
      })
    ]
