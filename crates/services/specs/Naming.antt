-- The names that a request leaves in use.
use Rattle.std.specs.Prelude.{◌≡◌, true, ℕ, ◌≤◌, eqb}
use Rattle.lists.specs.Lists.{every, some}
use Rattle.kinds.specs.Limits.{most_entries}
use Rattle.kinds.specs.declared.names.NameList.{NameList}
use Rattle.namearea.specs.Scanning.{points_for, names_of}
use Rattle.namearea.specs.Spelling.{spelling}
use Rattle.namearea.specs.Areas.{area_of, holds}
use Rattle.namearea.specs.Pointing.{overlaid, new_names}
use Rattle.namearea.specs.declared.points.Points.{Points}
use Rattle.namearea.specs.declared.area.NameArea.{NameArea}
use Rattle.queue.specs.Queues.{entries_in, stored_entries, PackedEntries}
use Rattle.queue.specs.Pointing.{offsets_in, pointed_by}
use Rattle.queue.specs.declared.Queue.{Queue}
use Rattle.tables.specs.Tables.{put_queue}
use Rattle.tables.specs.declared.AllTables.{AllTables}
use Rattle.services.specs.declared.Tables.{Tables}

-- entries have left, or none has: each that is there points to a name that was in use before
pub record Left (before after : Queue) (area : NameArea) : Type 0 where
  pub held : holds area (offsets_in before) ≡ true
  pub few : before.count ≤ most_entries
  pub packed : PackedEntries after
  pub there : every (λ (o : ℕ). some (eqb o) (offsets_in before)) (offsets_in after) ≡ true

-- the names that the entries show, packed in the order of first entries, and the entries pointing to them
unfoldable pub repacked : AllTables → NameArea → Tables
repacked t area =
    let ns = names_of area.bytes (offsets_in t.queue) in
    record {
      all = put_queue t (stored_entries (pointed_by (points_for ns) (entries_in t.queue)));
      names = area_of ns;
    }

-- the names that are new behind those in use
unfoldable pub joined_by : AllTables → NameArea → NameList → Points → Tables
joined_by t area l p = record {
  all = t;
  names = record { bytes = overlaid p.from area.bytes (spelling (new_names p l)) };
}
