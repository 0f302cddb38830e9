-- By the length of the array.
use borrow.Author.Rules.{rules}
use Rattle.lists.specs.Arrays.{mapped_length}
use Rattle.queue.proofs.Tests.{fits_is}
use Rattle.queue.proofs.queue_fits.Goals as goal

pub returns : goal.returns
returns c = fits_is c.args.q (search (rules, mapped_length))
