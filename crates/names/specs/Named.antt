-- The name that a name's struct shows, and the names beside a request.
use Rattle.std.specs.Prelude.{Bool, ℕ, List, ◌++◌, map, length, take, replicate}
use Rattle.lists.specs.Tables.{padded}
use Rattle.kinds.specs.Limits.{longest_minor}
use Rattle.kinds.specs.declared.names.Name.{Name}
use Rattle.kinds.specs.declared.names.Wanted.{Wanted}
use Rattle.kinds.specs.declared.names.NameList.{NameList}
use Rattle.rules.specs.Names.{Resource, Ask, Names, same_name}

-- the first n bytes; those that are not there count as zero, so that a stated length is never lost
unfoldable pub shown : ℕ → List ℕ → List ℕ
shown n bytes = take n (bytes ++ replicate n 0)

abbrev pub resource_of : Name → Resource
resource_of n = record { major = n.major; minor = shown n.length n.minor }

-- the struct that keeps a name: zeros behind the minor part
abbrev pub kept : Resource → Name
kept n = record { major = n.major; minor = padded longest_minor 0 n.minor; length = length n.minor }

-- the name that is asked for
abbrev pub wanted_name : Wanted → Resource
wanted_name w = resource_of w.name

-- two ask for one name, in whatever modes
abbrev pub same_wanted : Wanted → Wanted → Bool
same_wanted v w = same_name (wanted_name v) (wanted_name w)

abbrev pub ask_of : Wanted → Ask
ask_of w = record { exclusive = w.exclusive; name = wanted_name w }

-- the names within the count
abbrev pub names_in : NameList → Names
names_in l = record { count = l.count; asks = take l.count (map ask_of l.names) }
