use Rattle.std.proofs.Common.{rules, arith, Bool, ◌≡◌, ◌∙◌, length, take, length-take}
use Rattle.lists.specs.Arrays.{mapped_length}
use Rattle.kinds.specs.Limits.{longest_list}
use Rattle.queue.specs.Flagging.{all_set_but}
use Rattle.queue.proofs.Flagged.{but_skipped}
use Rattle.queue.proofs.looks.all_set_but.Goals as goal

pub returns : goal.returns
unfolding all_set_but
returns c =
    let a = c.args in
    let long : length a.skip.of ≡ longest_list = search (rules, mapped_length) in
    c.set_or_skipped.ensures ∙ but_skipped (take a.n a.f.of) a.skip.of (omega (arith, long, length-take {A = Bool}))
