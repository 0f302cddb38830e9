use Rattle.std.proofs.Common.{rules, arith, refl, sym, ◌∙◌}
use Rattle.lists.specs.Arrays.{mapped_length}
use Rattle.mainstorage.proofs.Searching.{search_first, none_beyond, none_at_end, found_at}
use Rattle.cost.proofs.Multiples.{search_on}
use Rattle.cost.proofs.every.every_multiple.Goals as goal

pub loop-n-init : goal.loop-n-init
loop-n-init c = search_first _ _ _ c.requires (search (rules, mapped_length))

pub returns-then-end_of : goal.returns-then-end_of
returns-then-end_of c = none_beyond c.loop-n.invariant _ _ refl c.end_of.ensures c.if-end_of.true

pub returns-then-all_apart : goal.returns-then-all_apart
returns-then-all_apart c =
    found_at c.loop-n.invariant _ (omega (arith, c.loop-n-test.true)) refl (omega (arith, c.end_of.ensures))
    (sym c.all_apart.ensures ∙ c.if-all_apart.true)

pub loop-n-preserved : goal.loop-n-preserved
loop-n-preserved c =
    search_on c.loop-n.invariant (omega (arith, c.loop-n-test.true)) _ refl (omega (arith, c.end_of.ensures))
    (sym c.all_apart.ensures ∙ c.if-all_apart.false) _ (omega arith)

pub returns : goal.returns
returns c = none_at_end c.loop-n.invariant (omega (arith, c.loop-n-test.false))
