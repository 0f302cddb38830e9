-- Where the verdict is to go on, the place that was found is the lowest address of the rules.
use Rattle.std.proofs.Common.{sym, ap, ◌∙◌}
use Rattle.std.specs.Prelude.{Option}
use Rattle.kinds.specs.declared.numbers.Address.{Address}
use Rattle.rules.specs.Steps.{kept_by}
use Rattle.rules.specs.Getmain.{wanted, given, getmain_done}
use Rattle.storage.specs.Stored.{areas_in}
use Rattle.tables.specs.Tables.{step_of, tables_of}
use Rattle.tables.proofs.Bodies.{body_goes}
use Rattle.mainstorage.specs.Found.{place_found}
use Rattle.mainstorage.proofs.Serving.{put_leaves}
use Rattle.mainstorage.proofs.getmain.served.Goals as goal

pub returns-in-Ok : goal.returns-in-Ok
unfolding getmain_done
returns-in-Ok c =
    let a = c.args in
    let f = c.getmain_found-found in
    let w = wanted a.bytes a.subpool a.caller.0 in
    let v = sym c.in-Ok.is ∙ f.ensures.0 in
    let l = f.ensures.1 ∙ place_found (areas_in a.t.storage) _ _ _ a.conditional (sym v) in
    let e = ap (λ (q : Option Address). kept_by tables_of (given (step_of a.t) w q)) l in
    body_goes _ _ _ _ _ _ v c.goes.ensures
    (rw (c.reply_at.ensures, c.put_storage.ensures, c.put-s.ensures) (put_leaves a.t c.requires w f.result.place ∙ e))
