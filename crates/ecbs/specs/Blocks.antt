-- The ECBs' struct and the list that it stands for; the tally of wait bits.
use Rattle.std.specs.Prelude.{ℕ, ◌+◌, List, map, replicate, take}
use Rattle.lists.specs.Lists.{how_many, numbers}
use Rattle.kinds.specs.Limits.{all_ecbs, highest_task}
use Rattle.kinds.specs.Ecbs.{no_ecb}
use Rattle.kinds.specs.declared.ecbs.Ecb.{Ecb}
use Rattle.kinds.specs.declared.ecbs.EcbList.{EcbList}
use Rattle.kinds.specs.declared.numbers.EcbNumber.{EcbNumber}
use Rattle.rules.specs.Events.{Ecbs}
use Rattle.rules.specs.SoundEcbs.{waited_on_by}
use Rattle.ecbs.specs.declared.EcbTable.{EcbTable}
use Rattle.ecbs.specs.declared.Tally.{Tally}

abbrev pub ecb_table_of : List Ecb → EcbTable
ecb_table_of es = record { ecbs = es }

-- the ECBs of a step that has just begun
abbrev pub no_events : List Ecb
no_events = replicate all_ecbs no_ecb

-- how many of the ECBs each task waits on, for so many tasks of which n is the first
unfoldable pub tally_from : ℕ → ℕ → List Ecb → List ℕ
tally_from k n es = map (λ t. how_many (waited_on_by t) es) (numbers n k)

abbrev pub tally_of : List Ecb → Tally
tally_of es = record { ecbs = tally_from (highest_task + 1) 0 es }

-- the ECBs within the count of a list beside a request
abbrev pub ecbs_in : EcbList → Ecbs
ecbs_in l = record { count = l.count; ecbs = take l.count (map (λ (e : EcbNumber). e.0) l.ecbs) }
