-- The name area's struct: how it keeps the names of some entries, and the test that it does.
use Rattle.std.specs.Prelude.{Bool, ◌&&◌, List, [], ℕ, eqb, length}
use Rattle.kinds.specs.Limits.{name_area}
use Rattle.rules.specs.Names.{Resource}
use Rattle.namearea.specs.Scanning.{area_for, scanned}
use Rattle.namearea.specs.declared.area.NameArea.{NameArea}

-- what is stored of names, as the struct has it
abbrev pub area_of : List Resource → NameArea
area_of ns = record { bytes = area_for name_area ns }

-- it holds the names that these offsets show, each once, packed, in the order of first entries, and nothing else
unfoldable pub holds : NameArea → List ℕ → Bool
holds a os = eqb (length a.bytes) name_area && scanned a.bytes [] 0 os
