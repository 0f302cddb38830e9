-- The ECB that the place has, as `at` reads it, is one of the table's.
use Rattle.laws.specs.Admitted.{open_used}
use Rattle.tables.specs.Tables.{step_of}
use Rattle.tables.proofs.Admits.{admitted_packed, admitted_running}
use Rattle.tables.proofs.Leaving.{ecb_place}
use Rattle.tables.proofs.ending.ended.Goals as goal

pub kept_as_ended-requires : goal.kept_as_ended-requires
kept_as_ended-requires c =
    let s = step_of c.args.t in
    let u = open_used s c.args.c c.requires.gate in
    let r = admitted_running c.args.t c.args.c c.requires in
    let e = ecb_place s _ _ _ r u c.at-x.ensures c.in-Some.is in
    (admitted_packed c.args.t c.args.c c.requires, (r, e))
