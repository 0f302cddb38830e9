use borrow.Author.Rules.{rules}
use Rattle.rules.specs.Names.{is_system}
use Rattle.names.proofs.is_system.Goals as goal

pub returns : goal.returns
unfolding is_system
returns c = search rules
