-- Each return is decided by the tests made so far; packed tables count no more than their places, as later tests ask.
use Rattle.lists.specs.Pick.{test_held_not, chosen}
use Rattle.rules.specs.Sound.{over_good, running_good, sound_step}
use Rattle.queue.proofs.Views.{packed_kept as queue-kept}
use Rattle.storage.specs.Kept.{packed_kept as areas-kept}
use Rattle.tables.specs.Tables.{sound_tables}
use Rattle.std.proofs.lemmas.Bool.{not_from_true}
use Rattle.tables.proofs.sound.sound.Goals as goal

pub returns-then-not-packed : goal.returns-then-not-packed
unfolding sound_tables
returns-then-not-packed c = search chosen depth 12

pub returns-then-not-packed-2 : goal.returns-then-not-packed-2
unfolding sound_tables
returns-then-not-packed-2 c = search chosen depth 12

pub over_good-requires : goal.over_good-requires
over_good-requires c =
    let h = test_held_not _ _ c.packed.ensures (not_from_true _ c.if-not-packed.false) in
    let k = test_held_not _ _ c.packed-2.ensures (not_from_true _ c.if-not-packed-2.false) in
    ((queue-kept _ h).room, (areas-kept _ k).room)

pub returns-then-t : goal.returns-then-t
unfolding sound_tables sound_step over_good
returns-then-t c = search chosen depth 12

pub running_good-requires : goal.running_good-requires
running_good-requires c =
    let h = test_held_not _ _ c.packed.ensures (not_from_true _ c.if-not-packed.false) in
    let k = test_held_not _ _ c.packed-2.ensures (not_from_true _ c.if-not-packed-2.false) in
    ((queue-kept _ h).room, (areas-kept _ k).room)

pub returns : goal.returns
unfolding sound_tables sound_step running_good
returns c = search chosen depth 12
