-- A waiter that is none, or has no place, changes nothing; one that has a place cites the contract of `comes_to`.
use Rattle.std.proofs.Common.{◌≡◌, sym, ap, ◌∙◌, arith, rules, ne_eqb, eq-eqb}
use Rattle.std.proofs.lemmas.Bool.{not-true, not-false, not_from_true, not_from_false}
use Rattle.lists.specs.Arrays.{mapped_length}
use Rattle.lists.specs.Pick.{pick}
use Rattle.rules.specs.Events.{woken}
use Rattle.between.specs.Posts.{signals_of}
use Rattle.between.specs.Steps.{woken_past}
use Rattle.between.proofs.Numbers.{in_range, out_of_range}
use Rattle.between.proofs.waiters.woken.Goals as goal

pub returns-then-not-is_good : goal.returns-then-not-is_good
unfolding signals_of woken pick
returns-then-not-is_good c =
    out_of_range c.args.w.0 (sym c.is_good.ensures ∙ not-true _ (not_from_false _ c.if-not-is_good.true))
    (λ h. rw (eq-eqb _ _ h))
    (λ h. ap signals_of (woken_past _ _ _ (search (rules, mapped_length)) h))

pub comes_to-requires : goal.comes_to-requires
comes_to-requires c =
    let h = in_range c.args.w.0 (sym c.is_good.ensures ∙ not-false _ (not_from_true _ c.if-not-is_good.false)) in
    (omega (arith, h), h.1)

pub returns : goal.returns
unfolding woken pick
returns c =
    let h = in_range c.args.w.0 (sym c.is_good.ensures ∙ not-false _ (not_from_true _ c.if-not-is_good.false)) in
    let n = ne_eqb c.args.w.0 0 (λ (z : c.args.w.0 ≡ 0). omega (arith, h)) in
    rw n (rw (c.one_post_fewer.ensures, c.at-now.ensures) at c.comes_to.ensures)
