-- Each table is what the contract of its pass says, with the tasks that the ending leaves.
use Rattle.rules.specs.Ending.{entry_stays, left_by}
use Rattle.queue.proofs.Views.{keep_packed}
use Rattle.tables.proofs.Leaving.{left_queue, left_tasks, left_ecbs, left_areas}
use Rattle.tables.proofs.ending.without.Goals as goal

pub wake-requires : goal.wake-requires
wake-requires c =
    let p = c.requires in
    (keep_packed (entry_stays c.end_tasks-left.result.places) _ _ p.0.queue c.entries_left-entries.ensures).room

pub returns : goal.returns
unfolding left_by
returns c =
    let b = c.before.before.before.before in
    let a = b.before.before.before.before.before in
    let l = b.end_tasks-left.ensures in
    let q = c.entries_left-entries.ensures in
    rw (
      left_queue a.args.t _ _ a.requires.1.0 a.requires.1.1 _ l _ q,
      left_tasks a.args.t _ _ a.requires.1.0 a.requires.1.1 _ l _ _ q c.wake.ensures,
      left_ecbs a.args.t _ _ a.requires.1.0 a.requires.1.1 _ l _ c.wait_bits_left.ensures,
      left_areas a.args.t _ _ a.requires.1.0 a.requires.1.1 _ l _ c.areas_left.ensures,
    )
