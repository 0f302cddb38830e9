-- The answer is the test of the minor part's length; the major part is as long as its array.
use borrow.Author.Rules.{rules}
use Rattle.names.proofs.Shown.{legal_is}
use Rattle.names.proofs.is_legal.Goals as goal

pub returns : goal.returns
returns c = search (rules, legal_is)
