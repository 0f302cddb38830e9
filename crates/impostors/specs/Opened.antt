-- THE TABLES OPEN, under one name: a proof that says `unfolding tables-open` computes with every definition of document
-- 01 and with the tables that keep a step.
use Rattle.lists.specs.Once.{once_from}
use Rattle.lists.specs.Tables.{padded}
use Rattle.rules.specs.Opened.{rules_open}
use Rattle.laws.specs.Waking.{wake_at}
use Rattle.laws.specs.Wiping.{wipe_at}
use Rattle.names.specs.Named.{shown}
use Rattle.namearea.specs.Spelling.{spelling, needed, offset_in, name_at}
use Rattle.namearea.specs.Scanning.{fits_at, new_at, scanned}
use Rattle.namearea.specs.Areas.{holds}
use Rattle.namearea.specs.Pointing.{points_to, new_names}
use Rattle.queue.specs.Queues.{is_zero, rest_zero, packed_entries}
use Rattle.queue.specs.Marking.{marked_by, with_mark}
use Rattle.rings.specs.Listings.{report_reply, report_written}
use Rattle.queue.specs.Flagging.{flags_of, all_set_but}
use Rattle.ecbs.specs.Blocks.{tally_from}
use Rattle.events.specs.Waits.{waited_by}
use Rattle.storage.specs.Stored.{is_zero as is_zero_area, rest_zero as rest_zero_areas, packed_areas}
use Rattle.mainstorage.specs.Bars.{bar_of, next_at}
use Rattle.mainstorage.specs.Found.{place_for}
use Rattle.between.specs.Waiting.{wake_if}
use Rattle.between.specs.Posts.{signals_of}
use Rattle.tables.specs.Tables.{sound_tables}
use Rattle.tables.specs.Bodies.{told, body_of}
use Rattle.resources.specs.Coding.{codes_of}
use Rattle.resources.specs.Looking.{looks_of}
use Rattle.services.specs.Kept.{soundb, answered, answered_with}
use Rattle.services.specs.Serve.{served_of}

unfoldable pub tables_open : Unit {0}
unfolding rules_open once_from padded wake_at wipe_at shown spelling needed
    offset_in name_at fits_at new_at scanned holds points_to new_names is_zero rest_zero packed_entries marked_by with_mark
    report_reply report_written flags_of all_set_but tally_from
    waited_by is_zero_area rest_zero_areas packed_areas bar_of next_at place_for wake_if codes_of looks_of signals_of sound_tables
    told body_of soundb answered answered_with served_of
tables_open = tt
