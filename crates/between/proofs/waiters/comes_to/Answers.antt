-- The return cites the contracts of the look-up, of the new condition and of the wait bits that are left.
use Rattle.between.specs.Posts.{signals_of}
use Rattle.between.proofs.waiters.comes_to.Goals as goal

pub returns : goal.returns
unfolding signals_of
returns c = cc
