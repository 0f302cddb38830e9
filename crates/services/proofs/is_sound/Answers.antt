-- Each test in its turn: the rules with pointers for names, the area, the names.
use mathlib.Core.Path.{sym, ap, ◌∙◌}
use mathlib.Core.List.{List, []}
use Prim.Native.Nat.{ℕ}
use native.Mathlib.Omega.{arith}
use borrow.Author.Tests.{not-true, not-false}
use Rattle.lists.specs.Lists.{every}
use Rattle.rules.specs.Names.{lawful}
use Rattle.namearea.specs.Scanning.{names_of, scanned}
use Rattle.namearea.specs.Settled.{kept_fits}
use Rattle.services.proofs.Names.{offsets_read, offsets_long, test_tables, test_area, test_names}
use Rattle.std.proofs.lemmas.Bool.{not_from_true, not_from_false}
use Rattle.services.proofs.is_sound.Goals as goal

pub returns-then-not-sound : goal.returns-then-not-sound
returns-then-not-sound c = test_tables c.args.t _ c.requires
    (sym c.sound.ensures ∙ not-true _ (not_from_false _ c.if-not-sound.true))

pub scan-requires : goal.scan-requires
scan-requires c =
    let s = sym c.sound.ensures ∙ not-false _
    (not_from_true _ c.if-not-sound.false) in (
      offsets_long c.args.t _ s
          c.offsets_of-at.ensures,
      omega
          (arith, c.requires),
    )

pub returns-else-scan : goal.returns-else-scan
returns-else-scan c =
    let o = offsets_read c.args.t.queue _ c.offsets_of-at.ensures in
    c.if-scan.false ∙ test_area c.args.t _
    c.requires
    (ap (scanned _ [] 0) (sym o) ∙ sym c.scan.ensures ∙ c.if-scan.false)

pub names_lawful-requires : goal.names_lawful-requires
names_lawful-requires c =
    let s = sym c.sound.ensures
    ∙ c.if-not-sound.false in
    let k = sym c.scan.ensures ∙ c.if-scan.true in (
      offsets_long c.args.t _ s c.offsets_of-at.ensures,
      omega (
        arith,
        c.requires,
      ),
      kept_fits _ _ k,
    )

pub returns-then-scan : goal.returns-then-scan
returns-then-scan c =
    let o = offsets_read c.args.t.queue _ c.offsets_of-at.ensures in
    let s = sym c.sound.ensures ∙ c.if-not-sound.false in
    let k = sym c.scan.ensures ∙ c.if-scan.true in
    c.names_lawful.ensures ∙ ap (λ (os : List ℕ). every lawful
    (names_of c.args.names.now os)) o
    ∙ test_names c.args.t _ c.requires s (ap (scanned _ [] 0) (sym o) ∙ k)
