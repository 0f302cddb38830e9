-- The ending needs packed tables of a running step, and a last place that is not live.
use Rattle.std.proofs.Common.{arith, ap}
use Rattle.kinds.specs.Tasks.{is_live}
use Rattle.kinds.specs.declared.tasks.Task.{Task}
use Rattle.rules.specs.Ending.{detached}
use Rattle.rules.specs.Detach.{detach_done}
use Rattle.tables.proofs.Admits.{admitted_packed, admitted_running}
use Rattle.tables.proofs.Bodies.{bodies}
use Rattle.subtasks.proofs.detach.served.Goals as goal

pub without-requires : goal.without-requires
without-requires c =
    let t = c.args.t in
    let a = c.args.caller in (
      admitted_packed t a c.requires,
      (admitted_running t a c.requires, ap (λ (x : Task). is_live x.condition) c.free.ensures),
    )

pub returns-in-Ok : goal.returns-in-Ok
unfolding detach_done detached
returns-in-Ok c = grind (arith, bodies)
