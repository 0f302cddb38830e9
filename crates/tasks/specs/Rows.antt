-- What the rules of sound tables ask of each place by itself.
use Rattle.std.specs.Prelude.{Bool, not, ◌&&◌, ◌||◌, leb}
use Rattle.kinds.specs.Ranges.{priority_good}
use Rattle.kinds.specs.Tasks.{is_free}
use Rattle.kinds.specs.declared.tasks.Task.{Task}
use Rattle.rules.specs.Attach.{maybe_good}
use Rattle.rules.specs.SoundTasks.{ended_good, zero_task}

abbrev pub in_order : Task → Bool
in_order x = priority_good x.limit && leb x.dispatching x.limit

abbrev pub ecb_in_range : Task → Bool
ecb_in_range x = maybe_good x.ecb

abbrev pub not_ended_or_named : Task → Bool
not_ended_or_named x = ended_good x.condition x.ecb

abbrev pub used_or_zero : Task → Bool
used_or_zero x = not (is_free x.condition) || zero_task x
