-- A name by its offset. The queue compares offsets: what stands for a name there is the number of the byte where the
-- name lies in the name area. It is written as a lawful name, so that the rules speak of it as of any other.
use Rattle.std.specs.Prelude.{◌≡◌, true, not, ◌&&◌, [], ◌∷◌, map, ℕ, eqb, get_or, take}
use Rattle.std.proofs.Common.{ap, ◌∙◌}
use Rattle.std.proofs.Math.Bool.{and-true, and-false}
use Rattle.lists.specs.Pick.{pick}
use Rattle.kinds.specs.Ranges.{between}
use Rattle.kinds.specs.declared.names.Pointed.{Pointed}
use Rattle.kinds.specs.declared.names.PointedList.{PointedList}
use Rattle.rules.specs.Names.{Resource, Ask, Names, same_name, legal, is_system, lawful}

abbrev pub pointer : ℕ → Resource
pointer o = record { major = o ∷ 0 ∷ 0 ∷ 0 ∷ 0 ∷ 0 ∷ 0 ∷ 0 ∷ []; minor = 0 ∷ [] }

-- the offset that it was made of
abbrev pub offset_of : Resource → ℕ
offset_of n = get_or n.major 0 0

-- two are one exactly when the offsets are
pub same_pointer : (a b : ℕ) → same_name (pointer a) (pointer b) ≡ eqb a b
same_pointer a b = and-true (eqb a b && true) ∙ and-true (eqb a b)

pub lawful_pointer : (o : ℕ) → lawful (pointer o) ≡ true
unfolding lawful legal is_system pick
lawful_pointer o = ap not (and-false (eqb o 0xE2))

-- the names beside a request, by their offsets
abbrev pub pointed_ask : Pointed → Ask
pointed_ask w = record { exclusive = w.exclusive; name = pointer w.name.0 }

abbrev pub pointed_in : PointedList → Names
pointed_in l = record { count = l.count; asks = take l.count (map pointed_ask l.names) }
