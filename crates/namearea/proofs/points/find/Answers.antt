use Rattle.std.proofs.Common.{rules, Option, Some, Bool, ℕ, ◌≡◌, ◌<◌, ◌+◌, refl, subst, sym, ap, ◌∙◌, arith, length, get_or-take, length-take-le}
use Rattle.std.specs.Bool.{then_some}
use Rattle.kinds.specs.Limits.{longest_minor}
use Rattle.names.specs.Named.{resource_of}
use Rattle.namearea.specs.Pointing.{name_of, place_in, shown_by}
use Rattle.namearea.specs.Finding.{Passed, pass_start, pass_seen, pass_new, seen_out, new_out, found, not_found}
use Rattle.namearea.proofs.points.find.Goals.{then-o-at+else-shows, else-o-at}
use Rattle.namearea.proofs.points.find.Goals as goal

pub loop-o-init : goal.loop-o-init
loop-o-init c = (pass_start c.requires.in_use, refl)

pub returns-then-shows : goal.returns-then-shows
returns-then-shows c =
    let v = c.loop-o.invariant in
    let a = c.args in
    let i = c.loop-o.o-index in
    let m : length a.name.minor ≡ longest_minor = search rules in
    let k = length-take-le a.n a.ats.now v.0.used.few in
    let h : i < a.n = omega arith in
    let f = found v.0 h (sym (get_or-take a.n a.ats.now i 0 h) ∙ c.if-o-at.true) a.name (omega arith)
    (sym c.if-shows.true ∙ c.shows.ensures) in
    ap {B = Option ℕ} Some f.0
    ∙ ap (λ (b : Bool). then_some b (place_in (shown_by a.ats.now a.n a.bytes.now) (resource_of a.name))) f.1

pub loop-o-preserved : goal.loop-o-preserved
loop-o-preserved c =
    let v = c.loop-o.invariant in
    let a = c.args in
    let i = c.loop-o.o-index in
    let x = name_of a.name.major a.name.minor a.name.length in
    let k = length-take-le a.n a.ats.now v.0.used.few in
    let h : i < a.n = omega arith in
    let e = get_or-take a.n a.ats.now i 0 h in
    elim c.if-o-at.branch [
      | then-o-at+else-shows w ↦ (
        subst (λ (t : ℕ). Passed a.ats.now a.n a.bytes.now t (i + 1))
            (sym (w.at-is ∙ ap (λ (t : ℕ). c.loop-o.at + t) w.spelt_at.ensures.size))
            (pass_new v.0 h (sym e ∙ w.if-o-at.true)),
        new_out v.0 h (sym e ∙ w.if-o-at.true) x v.1 (sym w.if-shows.false ∙ w.shows.ensures),
      )
      | else-o-at w ↦ (
        subst (λ (t : ℕ). Passed a.ats.now a.n a.bytes.now t (i + 1)) (sym w.at-is)
            (pass_seen v.0 h (λ q. w.if-o-at.false (e ∙ q))),
        seen_out v.0 h (λ q. w.if-o-at.false (e ∙ q)) x v.1,
      )
    ]

pub returns : goal.returns
returns c =
    let v = c.loop-o.invariant in
    let a = c.args in
    let m : length a.name.minor ≡ longest_minor = search rules in
    let k = length-take-le a.n a.ats.now v.0.used.few in
    let f = not_found v.0 (omega (arith, v.0.within)) a.name (omega arith) v.1 in
    ap (λ (b : Bool). then_some b (place_in (shown_by a.ats.now a.n a.bytes.now) (resource_of a.name))) f.1
