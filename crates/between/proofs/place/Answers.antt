-- Each return cites the law of the place: none, or what stands there.
use Rattle.std.proofs.Common.{◌≡◌, ◌-◌, get_or, sym, ◌∙◌, arith, rules}
use Rattle.std.proofs.lemmas.Option.{unwrap_or-slice_get}
use Rattle.kinds.specs.Tasks.{no_task}
use Rattle.laws.specs.Places.{place_none, place_at}
use Rattle.between.proofs.place.Goals as goal

pub returns-then-n-eq0 : goal.returns-then-n-eq0
returns-then-n-eq0 c = c.free.ensures ∙ sym (place_none _ _ c.if-n-eq0.true)

pub returns : goal.returns
returns c =
    let a = c.args in
    let e : c.unwrap_or.result ≡ get_or a.f.now.places (a.n.0 - 1) no_task = search (rules, unwrap_or-slice_get) in
    e ∙ sym (place_at a.f.now.places a.n.0 (omega arith))
