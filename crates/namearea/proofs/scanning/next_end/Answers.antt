-- Each return is one of the ways in which an entry comes out.
use Rattle.std.proofs.Common.{Some, ap, ◌∙◌, take, arith}
use Rattle.std.specs.Bool.{then_some}
use Rattle.lists.specs.Pick.{test_held, test_failed}
use Rattle.namearea.specs.There.{turned}
use Rattle.namearea.specs.Steps.{next_apart, next_out, next_named, next_new}
use Rattle.namearea.proofs.scanning.next_end.Goals.{then-not-fits-via-then-not-fits, then-not-fits-via-else-not-fits+then-named_before}
use Rattle.namearea.proofs.scanning.next_end.Goals as goal

pub returns-then-o-at : goal.returns-then-o-at
returns-then-o-at c =
    let a = c.args in
    c.then_some.ensures
    ∙ ap (λ b. then_some b a.at) (c.contains.ensures.value ∙ turned a.o (take a.i a.ats.now))
    ∙ next_apart c.requires.walked a.o c.if-o-at.true

pub returns-then-not-fits : goal.returns-then-not-fits
returns-then-not-fits c =
    elim c.then-not-fits.branch [
      | then-not-fits-via-then-not-fits w ↦
          next_out c.requires.walked c.args.o c.if-o-at.false (test_failed _ _ c.fits.ensures w.if-not-fits.true)
      | then-not-fits-via-else-not-fits+then-named_before w ↦
          next_named c.requires.walked c.args.o c.if-o-at.false (test_held _ _ c.fits.ensures w.if-not-fits.false)
          (test_held _ _ w.named_before.ensures w.if-named_before.true)
    ]

pub returns : goal.returns
returns c =
    ap Some (omega arith) ∙ next_new c.requires.walked c.args.o c.if-o-at.false
    (test_held _ _ c.fits.ensures c.if-not-fits.false) (test_failed _ _ c.named_before.ensures c.if-named_before.false)
