-- Wrong answers that the contracts of `between::owners` rule out.
use Prim.Native.Nat.{ℕ}
use mathlib.Core.Path.{refl}
use mathlib.Core.Bool.{Bool, true, not}
use mathlib.Core.List.{List, [], ◌∷◌}
use native.Mathlib.Omega.{arith}
use lib.Dec.{eqb}
use Rattle.lists.specs.Pick.{pick}
use Rattle.lists.specs.Lists.{keep, every}
use Rattle.kinds.specs.Tasks.{is_ready}
use Rattle.kinds.specs.declared.areas.Area.{Area}
use Rattle.kinds.specs.declared.tasks.Task.{Task}
use Rattle.rules.specs.Family.{live, used, condition_of}
use Rattle.rules.specs.HandCases.{area}
use Rattle.history.specs.Samples.{start}
use Rattle.tasks.specs.TaskTables.{task_table_of}
use Rattle.tasks.specs.declared.TaskTable.{TaskTable}
use Rattle.storage.specs.Stored.{areas_in, stored_areas, PackedAreas}
use Rattle.storage.specs.Kept.{stored_packed}
use Rattle.between.proofs.owners.owners_good.Reads as owners_good
use Rattle.between.proofs.owners.areas_left.Reads as areas_left
use Rattle.impostors.specs.Fitting.{◌⊗◌, fits-TaskTable, fits-Storage, fits_end}
use Rattle.impostors.specs.Opened.{tables_open}
use Rattle.impostors.specs.Wrong.{RuledOut, wrong_at}
use Rattle.impostors.specs.Samples.{after, ended_once, waited_on}

-- task 2, attached with an ECB, has ended; 2 waits on ECB 3
abbrev ended : TaskTable
ended = task_table_of (after start ended_once).tasks

abbrev waiting : TaskTable
waiting = task_table_of (after start waited_on).tasks

-- 8 bytes of task 2 in subpool 5; 8 of the step
abbrev of_task2 : List Area
of_task2 = area 0 8 5 2 ∷ []

abbrev of_step : List Area
of_step = area 0 8 0 0 ∷ []

packed_one : (x : Area) → PackedAreas (stored_areas (x ∷ []))
packed_one x = stored_packed (x ∷ []) _ refl (omega arith)

-- an area of subpool 0 is the step's, any other is judged by its owner; the same, but subpool 0 may be anyone's
abbrev owned_as : (List Task → ℕ → Bool) → List Task → Area → Bool
owned_as f ts y = pick (eqb y.subpool 0) (eqb y.owner.0 0) (f ts y.owner.0)

abbrev stays_as : (List Task → ℕ → Bool) → List Task → Area → Bool
stays_as f ts y = pick (eqb y.subpool 0) true (f ts y.owner.0)

-- an ended task may own one
pub owners_good_of_an_ended_task :
    RuledOut (λ k. fits-Storage ⊗ fits-TaskTable ⊗ fits_end) owners_good.Pre owners_good.Post
    (λ k a. every (owned_as used a.1.0.places) (areas_in a.0))
unfolding tables_open
owners_good_of_an_ended_task = wrong_at tt (stored_areas of_task2, (ended, tt)) refl (omega arith) (λ b. b) refl refl

-- an area of subpool 0 may be a task's
pub owners_good_of_subpool_0 :
    RuledOut (λ k. fits-Storage ⊗ fits-TaskTable ⊗ fits_end) owners_good.Pre owners_good.Post
    (λ k a. every (stays_as live a.1.0.places) (areas_in a.0))
unfolding tables_open
owners_good_of_subpool_0 =
    wrong_at tt (stored_areas (area 0 8 0 1 ∷ []), (ended, tt)) refl (omega arith) (λ b. b) refl refl

-- an area of the step is refused, since no task owns it
pub owners_good_not_of_the_step :
    RuledOut (λ k. fits-Storage ⊗ fits-TaskTable ⊗ fits_end) owners_good.Pre owners_good.Post
    (λ k a. every (λ (y : Area). live a.1.0.places y.owner.0) (areas_in a.0))
unfolding tables_open
owners_good_not_of_the_step = wrong_at tt (stored_areas of_step, (ended, tt)) refl (omega arith) not refl refl

-- areas of subpool 0 go too
pub areas_left_subpool_0_too :
    RuledOut (λ k. fits-Storage ⊗ fits-TaskTable ⊗ fits_end) areas_left.Pre areas_left.Post
    (λ k a. stored_areas (keep (λ (y : Area). live a.1.0.places y.owner.0) (areas_in a.0)))
unfolding tables_open
areas_left_subpool_0_too =
    wrong_at tt (stored_areas of_step, (ended, tt)) refl (packed_one _) (λ s. eqb s.count 0) refl refl

-- those of an ended task stay
pub areas_left_not_of_the_ended :
    RuledOut (λ k. fits-Storage ⊗ fits-TaskTable ⊗ fits_end) areas_left.Pre areas_left.Post
    (λ k a. stored_areas (keep (stays_as used a.1.0.places) (areas_in a.0)))
unfolding tables_open
areas_left_not_of_the_ended =
    wrong_at tt (stored_areas of_task2, (ended, tt)) refl (packed_one _) (λ s. eqb s.count 1) refl refl

-- those of a task that waits go too
pub areas_left_of_the_waiting_too :
    RuledOut (λ k. fits-Storage ⊗ fits-TaskTable ⊗ fits_end) areas_left.Pre areas_left.Post
    (λ k a. stored_areas (keep (stays_as (λ ts n. is_ready (condition_of ts n)) a.1.0.places) (areas_in a.0)))
unfolding tables_open
areas_left_of_the_waiting_too =
    wrong_at tt (stored_areas of_task2, (waiting, tt)) refl (packed_one _) (λ s. eqb s.count 0) refl refl
