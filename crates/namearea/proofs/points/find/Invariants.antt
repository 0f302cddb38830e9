-- The names before the entry are passed, and the sought name is none of them (invariant).
use mathlib.Core.Path.{◌≡◌}
use mathlib.Core.Bool.{false}
use Rattle.namearea.specs.Firsts.{is_in}
use Rattle.namearea.specs.Pointing.{shown_by, name_of}
use Rattle.namearea.specs.Finding.{Passed}
use Rattle.namearea.proofs.points.find.Given as goal

abbrev pub invariant-loop-o : goal.invariant-loop-o
invariant-loop-o l =
    Passed l.ats l.n l.bytes l.at l.o-index
    × (is_in (name_of l.name.major l.name.minor l.name.length) (shown_by l.ats l.o-index l.bytes) ≡ false)
