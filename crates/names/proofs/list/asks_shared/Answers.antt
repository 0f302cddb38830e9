use Rattle.std.proofs.Common.{rules, tests, not, ◌∙◌, take}
use Rattle.std.proofs.lemmas.Iterator.{YieldsList-from_slice}
use Rattle.std.proofs.lemmas.Iterator.Search.{any_from_yields_List}
use Rattle.lists.specs.Loops.{any_shown}
use Rattle.rules.specs.Names.{Ask}
use Rattle.names.specs.Named.{ask_of}
use Rattle.names.proofs.list.asks_shared.Goals.{in-Chng, in_default}
use Rattle.names.proofs.list.asks_shared.Goals as goal

pub returns-then-matches : goal.returns-then-matches
returns-then-matches c =
    let l = c.args.l in
    elim c.match-matches.branch [
      | in-Chng w ↦ rw w.in-Chng.is
          (any_from_yields_List _ _ _ _ c.any.ensures.ran (YieldsList-from_slice (take l.count l.names) cc)
          (λ x b q k. search (rules, tests))
          ∙ any_shown ask_of (λ (a : Ask). not a.exclusive) l.count l.names)
      | in_default w ↦ search rules
    ]
