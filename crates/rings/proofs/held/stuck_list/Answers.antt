use Rattle.std.proofs.Common.{arith}
use Rattle.rings.proofs.Ahead.{lines_room, lines_next, lines_all}
use Rattle.rings.proofs.held.stuck_list.Goals as goal

pub push_line-requires : goal.push_line-requires
push_line-requires c =
    let r = lines_room c.loop-t.invariant (omega arith) in
    (c.requires, omega arith, omega arith, omega arith)

pub loop-t-preserved : goal.loop-t-preserved
loop-t-preserved c = lines_next c.loop-t.invariant (omega arith) (omega arith) c.push_line.ensures

pub returns : goal.returns
returns c = lines_all c.before.loop-t.invariant (omega arith)
