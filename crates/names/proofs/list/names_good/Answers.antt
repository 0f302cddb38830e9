-- Each return cites the tests that led to it.
use Rattle.std.proofs.Common.{rules, tests, ◌≡◌, ◌∙◌, take}
use Rattle.std.proofs.lemmas.Iterator.{YieldsList-from_slice}
use Rattle.std.proofs.lemmas.Iterator.Search.{all_from_yields_List}
use Rattle.lists.specs.Lists.{every}
use Rattle.lists.specs.Pick.{on_true, on_false, chosen, test_held, test_failed}
use Rattle.rules.specs.Names.{legal, names_of, names_good}
use Rattle.names.specs.Named.{names_in}
use Rattle.names.proofs.Listed.{every_listed, distinct_listed}
use Rattle.names.proofs.list.names_good.Goals.{After-all}
use Rattle.names.proofs.list.names_good.Goals as goal

all_are : (c : After-all) → c.all.result ≡ every legal (names_of (names_in c.args.l))
all_are c =
    let l = c.args.l in
    all_from_yields_List _ _ _ _ c.all.ensures.ran (YieldsList-from_slice (take l.count l.names) cc)
    (λ x b q k. search (rules, tests))
    ∙ every_listed legal l

pub returns-then-not-count_good : goal.returns-then-not-count_good
unfolding names_good
returns-then-not-count_good c = search chosen depth 10

pub returns-then-all : goal.returns-then-all
unfolding names_good
returns-then-all c =
    let p = test_held _ _ c.count_good.ensures c.if-not-count_good.false in
    let q = test_held _ _ (all_are c.before.before) c.if-all.true in
    on_true _ _ _ _ p (on_true _ _ _ _ q (c.all_once.ensures ∙ distinct_listed c.args.l))

pub returns-else-all : goal.returns-else-all
unfolding names_good
returns-else-all c =
    let p = test_held _ _ c.count_good.ensures c.if-not-count_good.false in
    let q = test_failed _ _ (all_are c.before) c.if-all.false in
    on_true _ _ _ _ p (on_false _ _ _ _ q c.if-all.false)
