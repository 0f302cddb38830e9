-- Where both lengths are one, both answers cite that the bytes which are there are compared.
use Rattle.std.proofs.Common.{rules, ◌≡◌, true, false, take, eqb-true, sym, ◌∙◌}
use mathlib.Core.Bool.{and-true, and-false}
use Rattle.lists.specs.Lists.{same_bytes}
use Rattle.names.proofs.Shown.{minors, differ}
use Rattle.names.proofs.same_name.Goals.{then-a-b, else-a-b}
use Rattle.names.proofs.same_name.Goals as goal

pub returns-then-same_bytes : goal.returns-then-same_bytes
returns-then-same_bytes c =
    let a = c.args.a in
    let b = c.args.b in
    elim c.if-a-b.branch [
      | then-a-b w ↦
          let t : same_bytes (take c.used-n.result a.minor) (take c.used-n.result b.minor) ≡ true = cc in
          c.same_bytes-then-same_bytes.ensures
          ∙ sym (minors a b _ w.if-a-b.true (search rules) (search rules) c.used-n.ensures ∙ rw (t, and-true))
      | else-a-b w ↦ absurd (w.if-a-b.false (eqb-true _ _ (sym w.value-is ∙ c.if-same_bytes.true)))
    ]

pub returns-else-same_bytes : goal.returns-else-same_bytes
returns-else-same_bytes c =
    let a = c.args.a in
    let b = c.args.b in
    c.if-same_bytes.false
    ∙ elim c.if-a-b.branch [
      | then-a-b w ↦
          let t : same_bytes (take c.used-n.result a.minor) (take c.used-n.result b.minor) ≡ false = cc in
          sym (minors a b _ w.if-a-b.true (search rules) (search rules) c.used-n.ensures ∙ rw (t, and-false))
      | else-a-b w ↦ differ a b w.if-a-b.false
    ]
