-- 100 first; then the admission tests, of a caller on its place, which sound tables show.
use Rattle.std.specs.Prelude.{None}
use mathlib.Core.Path.{◌≡◌, sym, ◌∙◌}
use borrow.Author.Tests.{not-true, not-false}
use Rattle.rules.specs.Admission.{open_gate}
use Rattle.services.specs.Serve.{gate_for}
use Rattle.services.proofs.Glue.{gate_unsound, gate_is, caller_gate}
use borrow.Author.Rules.{rules}
use Rattle.std.proofs.lemmas.Bool.{not_from_true, not_from_false}
use Rattle.services.proofs.gate.Goals as goal

pub returns-then-not-is_sound : goal.returns-then-not-is_sound
returns-then-not-is_sound c = gate_unsound _ (gate_for c.args.who)
    (sym c.is_sound.ensures ∙ not-true _ (not_from_false _ c.if-not-is_sound.true))

pub returns-in-None : goal.returns-in-None
unfolding open_gate
returns-in-None c =
    let k : c.args.who ≡ None = search rules in
    gate_is _ (gate_for c.args.who) _
    (sym c.is_sound.ensures ∙ not-false _
    (not_from_true _ c.if-not-is_sound.false)) (rw k c.admit.ensures)

pub returns-in-Some : goal.returns-in-Some
returns-in-Some c =
    gate_is _ (gate_for c.args.who) _ (sym c.is_sound.ensures ∙
    not-false _ (not_from_true _ c.if-not-is_sound.false))
    (rw c.in-Some.is
    (caller_gate c.args.t _
    _ _ _ _ _ c.admit-in-Some.ensures c.is_live.ensures
    c.waits.ensures c.at-condition.ensures))
