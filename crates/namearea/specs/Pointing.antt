-- Where the names beside a request lie, or would come to lie: behind the names in use.
use Rattle.std.specs.Prelude.{◌≡◌, Bool, true, false, cond, Option, Some, None, List, [], ◌∷◌, ◌++◌, map, ℕ, ◌+◌, ◌≤◌, ltb, length, take, drop}
use Rattle.std.specs.Bool.{then_some}
use Rattle.lists.specs.Lists.{every}
use Rattle.lists.specs.Tables.{padded}
use Rattle.kinds.specs.Limits.{longest_list, name_area}
use Rattle.kinds.specs.declared.names.NameList.{NameList}
use Rattle.kinds.specs.declared.names.Pointed.{Pointed}
use Rattle.kinds.specs.declared.names.Wanted.{Wanted}
use Rattle.rules.specs.Names as names
use Rattle.rules.specs.Names.{Resource, Ask, same_name, firsts}
use Rattle.names.specs.Named.{names_in}
use Rattle.namearea.specs.Firsts.{is_in}
use Rattle.namearea.specs.Spelling.{needed, offset_in, name_at}
use Rattle.namearea.specs.Scanning.{names_of, fits_at, Kept}
use Rattle.namearea.specs.declared.points.Points.{Points}

-- the first n offsets show the names of the area, and nothing else is there
pub record InUse (ats : List ℕ) (n : ℕ) (bytes : List ℕ) : Type 0 where
  pub few : n ≤ length ats
  pub room : length bytes ≤ name_area
  pub kept : Kept bytes (take n ats)
  pub fit : every (fits_at bytes) (take n ats) ≡ true

-- the names that the first n offsets show
abbrev pub shown_by : List ℕ → ℕ → List ℕ → List Resource
shown_by ats n bytes = names_of bytes (take n ats)

-- where a name stands among the names of a list, or else where these end
abbrev pub place_in : List Resource → Resource → ℕ
place_in ns n = offset_in (firsts ns) n

-- a name whose minor part has so many bytes at the front of an array
abbrev pub name_of : List ℕ → List ℕ → ℕ → Resource
name_of major minor size = record { major = major; minor = take size minor }

-- the name at an offset is that one
abbrev pub at_shows : List ℕ → ℕ → List ℕ → List ℕ → ℕ → Bool
at_shows bytes at major minor size = same_name (name_at bytes at) (name_of major minor size)

-- where a name stands, if it is one of these
abbrev pub place_of : List Resource → Resource → Option ℕ
place_of ns n = then_some (is_in n ns) (place_in ns n)

-- where a name of the list comes to stand, and the end of the names with it
abbrev pub stand_of : Option ℕ → ℕ → ℕ → ℕ × ℕ
stand_of (Some at) end size = (at, end)
stand_of None end size = (end, end + (size + 9))

-- a name of a list, by where it stands among these
abbrev pub pointed_to : List Resource → Ask → Pointed
pointed_to fs a = record { exclusive = a.exclusive; name = record { 0 = offset_in fs a.name } }

-- an unused place of the list
abbrev pub zero_pointed : Pointed
zero_pointed = record { exclusive = false; name = record { 0 = 0 } }

-- what is read past the end of a list
abbrev pub no_wanted : Wanted
no_wanted = record { exclusive = false; name = record { major = []; minor = []; length = 0 } }

-- all names, those in use first, and those of the list behind them
abbrev pub with_list : List Resource → NameList → List Resource
with_list ns l = firsts (ns ++ names.names_of (names_in l))

-- the offsets of a list, and the two ends
unfoldable pub points_to : List Resource → NameList → Points
points_to ns l = record {
  list = record {
    count = l.count;
    names = padded longest_list zero_pointed (map (pointed_to (with_list ns l)) (names_in l).asks);
  };
  from = needed (firsts ns);
  end = needed (with_list ns l);
}

-- the bytes from a place on, with others written over them
abbrev pub overlaid : ℕ → List ℕ → List ℕ → List ℕ
overlaid at bytes part = take at bytes ++ (part ++ drop (length part) (drop at bytes))

-- the names whose offsets are not below the end of those in use
abbrev pub new_from : ℕ → List Pointed → List Ask → List Resource
new_from from ps [] = []
new_from from [] (a ∷ asks) = []
new_from from (p ∷ ps) (a ∷ asks) = cond (ltb p.name.0 from) (new_from from ps asks) (a.name ∷ new_from from ps asks)

-- the names of a list that are new, as its offsets tell
unfoldable pub new_names : Points → NameList → List Resource
new_names p l = new_from p.from p.list.names (names_in l).asks
