-- The new task has a place, which is what the contracts of the calls say.
use Rattle.std.proofs.Common.{sym, ap, ◌∙◌, to_z-of_z}
use Rattle.kinds.specs.Replies.Besides.{NewNumber}
use Rattle.rules.specs.Steps.{done_with}
use Rattle.rules.specs.Attach.{attach_done}
use Rattle.laws.specs.Mothers.{fits_length}
use Rattle.tables.proofs.Admits.{admitted_packed, admitted_running, tasks_put}
use Rattle.tables.proofs.Bodies.{body_goes}
use Rattle.subtasks.proofs.NewTask.{found}
use Rattle.subtasks.proofs.attach.served.Goals as goal

pub with_place-f-requires : goal.with_place-f-requires
with_place-f-requires c =
    let l = fits_length _ (admitted_running c.args.t c.args.caller c.requires).tasks.fits in
    found _ _ _ _ _ l (sym (rw (to_z-of_z c.ranges.dpmod) at c.attach_verdict.ensures) ∙ c.in-Ok.is) c.lowest_free-n.ensures

pub returns-in-Ok : goal.returns-in-Ok
unfolding attach_done
returns-in-Ok c =
    let v = rw (to_z-of_z c.ranges.dpmod) at c.attach_verdict.ensures in
    let x = rw (to_z-of_z c.ranges.dpmod) at c.new_task-x.ensures in
    let e = rw (c.with_place-f.ensures, x, c.at.ensures, c.lowest_free-n.ensures) at c.put_tasks.ensures in
    let p = admitted_packed c.args.t c.args.caller c.requires in
    body_goes _ _ _ _ _ _ (sym c.in-Ok.is ∙ v) c.goes.ensures
    (rw (c.lowest_free-n.ensures, e) (ap (done_with (NewNumber _)) (tasks_put c.args.t p _)))
