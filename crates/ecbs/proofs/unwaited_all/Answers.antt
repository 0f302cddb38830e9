use Rattle.std.proofs.Common.{rules}
use Rattle.std.proofs.lemmas.List.Edits.{map_over_more}
use Rattle.rules.specs.Events.{unwaited}
use Rattle.ecbs.proofs.unwaited_all.Goals as goal

pub loop-x-preserved : goal.loop-x-preserved
loop-x-preserved c =
    let l = c.loop-x in
    rw c.unwaited.ensures
    (map_over_more (unwaited c.args.w.0) c.args.e.ecbs l.x-items l.x-index _ (search rules) l.invariant (search rules))
