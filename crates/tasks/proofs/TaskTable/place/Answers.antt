-- A good number's place stands there, by the law of a place; another number has none.
use Rattle.std.proofs.Common.{sym, ◌∙◌, arith, rules}
use Rattle.kinds.specs.Within.{within}
use Rattle.laws.specs.Places.{place_at}
use Rattle.tasks.proofs.Chains.{place_bad}
use Rattle.tasks.proofs.TaskTable.place.Goals as goal

pub overflow_sub-result : goal.overflow_sub-result
overflow_sub-result c = (within 1 32 c.args.n.0 (sym c.if-is_good.ensures)).0

pub bounds-self-n : goal.bounds-self-n
bounds-self-n c = omega (arith, within 1 32 c.args.n.0 (sym c.if-is_good.ensures))

pub returns-then-is_good : goal.returns-then-is_good
returns-then-is_good c = sym (place_at _ _ (within 1 32 c.args.n.0 (sym c.if-is_good.ensures)).0)

pub returns-else-is_good : goal.returns-else-is_good
returns-else-is_good c = c.free.ensures ∙ sym (place_bad _ _ (search rules) (sym c.if-is_good.ensures))
