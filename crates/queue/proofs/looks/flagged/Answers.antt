use Rattle.std.proofs.Common.{arith, List, map, false, length, refl, sym, ap, ◌∙◌, take_all}
use Rattle.std.proofs.lemmas.Fn.{says_at}
use Rattle.lists.specs.Tables.{padded}
use Rattle.kinds.specs.Limits.{longest_list}
use Rattle.kinds.specs.declared.names.Pointed.{Pointed}
use Rattle.queue.proofs.Filled.{none_filled, filled_next, filled_all}
use Rattle.queue.proofs.looks.flagged.Goals as goal

pub loop-i-init : goal.loop-i-init
loop-i-init g c = λ f h. none_filled _ _ _

pub loop-i-preserved : goal.loop-i-preserved
loop-i-preserved g c = λ f h.
    filled_next false f _ _ _ _ _ (omega arith) (omega arith) (sym (h _ _ (says_at g.F.Fn c.ask.ensures refl)))
    (c.loop-i.invariant f h)

pub returns : goal.returns
returns g c =
    let l = c.args.names.now in
    λ f h. filled_all false f l _ (length l) _ (omega arith) (c.loop-i.invariant f h)
    ∙ ap (λ (t : List Pointed). padded longest_list false (map f t)) (take_all (length l) l (omega arith))
