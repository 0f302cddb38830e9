-- Whoever is live has a task number: 1 to 32.
use Rattle.std.specs.Prelude.{◌≡◌, true, List, ℕ, leb, length}
use Rattle.std.proofs.Common.{arith, le-leb}
use Rattle.std.proofs.lemmas.Bool.{and_from}
use Rattle.lists.specs.Lists.{every}
use Rattle.lists.specs.Every.{every_gives}
use Rattle.kinds.specs.Limits.{lowest_task, highest_task}
use Rattle.kinds.specs.Ranges.{task_good}
use Rattle.kinds.specs.declared.tasks.Task.{Task}
use Rattle.rules.specs.Control.{Entry}
use Rattle.rules.specs.Family.{live}
use Rattle.rules.specs.SoundTasks.{tasks_fit}
use Rattle.rules.specs.SoundQueue.{entries_live}
use Rattle.laws.specs.Chains.{used_pos, used_within}
use Rattle.laws.specs.Mothers.{fits_length}
use Rattle.laws.specs.Admitted.{live_used}

pub live_good : (ts : List Task) (n : ℕ) → length ts ≡ highest_task → live ts n ≡ true → task_good n ≡ true
live_good ts n f h =
    let u = live_used ts n h in
    and_from (leb lowest_task n) (leb n highest_task)
    (le-leb lowest_task n (omega (arith, used_pos ts n u)))
    (le-leb n highest_task (omega (arith, used_within ts n u)))

-- and so has whoever has an entry
pub entries_good : (ts : List Task) (q : List Entry) → tasks_fit ts ≡ true → entries_live ts q ≡ true
    → every (λ (e : Entry). task_good e.task) q ≡ true
unfolding entries_live
entries_good ts q f h =
    every_gives (λ (e : Entry). live ts e.task) (λ (e : Entry). task_good e.task)
    (λ e. live_good ts e.task (fits_length ts f)) q h
