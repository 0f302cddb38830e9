-- No second result fits the contract of a public function, whoever wrote it.
use mathlib.Core.Path.{sym, ◌∙◌}
use Rattle.lists.specs.Promise.{Once}
use Rattle.tasks.proofs.choice.lowest_free.Reads as lowest_free
use Rattle.tasks.proofs.choice.dispatched.Reads as dispatched
use Rattle.tasks.proofs.empty.Reads as empty
use Rattle.tasks.proofs.at.Reads as at
use Rattle.tasks.proofs.is_live.Reads as is_live
use Rattle.tasks.proofs.in_use.Reads as in_use
use Rattle.tasks.proofs.with_place.Reads as with_place
use Rattle.tasks.proofs.direct.is_subtask.Reads as is_subtask
use Rattle.tasks.proofs.direct.has_subtasks.Reads as has_subtasks
use Rattle.tasks.proofs.sound.ecb_good.Reads as ecb_good
use Rattle.tasks.proofs.sound.tasks_fit.Reads as tasks_fit
use Rattle.tasks.proofs.sound.job_step_good.Reads as job_step_good
use Rattle.tasks.proofs.sound.mothers_good.Reads as mothers_good
use Rattle.tasks.proofs.sound.priorities_good.Reads as priorities_good
use Rattle.tasks.proofs.sound.task_ecbs_good.Reads as task_ecbs_good
use Rattle.tasks.proofs.sound.ended_tasks_good.Reads as ended_tasks_good
use Rattle.tasks.proofs.sound.free_places_good.Reads as free_places_good
use Rattle.tasks.proofs.sound.all_zero.Reads as all_zero
use Rattle.tasks.proofs.ending.end_tasks.Reads as end_tasks

pub lowest_free_once : Once lowest_free.Post
lowest_free_once k a x y e d p q = λ i. record { 0 = (p ∙ sym q) i }

pub dispatched_once : Once dispatched.Post
dispatched_once k a x y e d p q = λ i. record { 0 = (p ∙ sym q) i }

pub empty_once : Once empty.Post
empty_once k a x y e d p q = p ∙ sym q

pub at_once : Once at.Post
at_once k a x y e d p q = p ∙ sym q

pub is_live_once : Once is_live.Post
is_live_once k a x y e d p q = p ∙ sym q

pub in_use_once : Once in_use.Post
in_use_once k a x y e d p q = p ∙ sym q

pub with_place_once : Once with_place.Post
with_place_once k a x y e d p q = p ∙ sym q

pub is_subtask_once : Once is_subtask.Post
is_subtask_once k a x y e d p q = p ∙ sym q

pub has_subtasks_once : Once has_subtasks.Post
has_subtasks_once k a x y e d p q = p ∙ sym q

pub ecb_good_once : Once ecb_good.Post
ecb_good_once k a x y e d p q = p ∙ sym q

pub tasks_fit_once : Once tasks_fit.Post
tasks_fit_once k a x y e d p q = p ∙ sym q

pub job_step_good_once : Once job_step_good.Post
job_step_good_once k a x y e d p q = p ∙ sym q

pub mothers_good_once : Once mothers_good.Post
mothers_good_once k a x y e d p q = p ∙ sym q

pub priorities_good_once : Once priorities_good.Post
priorities_good_once k a x y e d p q = p ∙ sym q

pub task_ecbs_good_once : Once task_ecbs_good.Post
task_ecbs_good_once k a x y e d p q = p ∙ sym q

pub ended_tasks_good_once : Once ended_tasks_good.Post
ended_tasks_good_once k a x y e d p q = p ∙ sym q

pub free_places_good_once : Once free_places_good.Post
free_places_good_once k a x y e d p q = p ∙ sym q

pub all_zero_once : Once all_zero.Post
all_zero_once k a x y e d p q = p ∙ sym q

pub end_tasks_once : Once end_tasks.Post
end_tasks_once k a x y e d p q = p ∙ sym q
