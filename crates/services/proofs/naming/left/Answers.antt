-- Where the offsets are the same nothing is to be packed.
use mathlib.Core.Path.{sym, ◌∙◌}
use Rattle.services.proofs.Names.{left_clear, left_same}
use Rattle.services.proofs.naming.left.Goals as goal

pub same_offsets-requires : goal.same_offsets-requires
same_offsets-requires c = (c.requires.few, c.requires.packed.room)

pub returns-then-same_offsets : goal.returns-then-same_offsets
returns-then-same_offsets c = left_same c.args.before c.args.t
    c.args.names c.requires
    (sym c.same_offsets.ensures ∙ c.if-same_offsets.true)

pub packed_anew-requires : goal.packed_anew-requires
packed_anew-requires c = (
  c.requires.packed,
  left_clear c.args.before
      c.args.t c.args.names c.requires,
)

pub returns : goal.returns
returns c = c.packed_anew.ensures
