-- The names of the first i offsets are laid (invariant).
use mathlib.Core.Path.{◌≡◌}
use lib.ListN.{length}
use Rattle.namearea.specs.Packing.{Laid}
use Rattle.namearea.proofs.packing.repack.Given as goal

abbrev pub invariant-loop-i : goal.invariant-loop-i
invariant-loop-i l =
    Laid 16384 l.old l.ats l.i l.to l.new l.at × (length l.to ≡ length l.initial.to)
    × (length l.new ≡ length l.initial.new)
