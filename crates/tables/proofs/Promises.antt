-- No second result fits the contract of a public function, whoever wrote it.
use mathlib.Core.Path.{sym, ◌∙◌}
use Rattle.lists.specs.Promise.{Once}
use Rattle.tables.proofs.sound.sound.Reads as sound
use Rattle.tables.proofs.over_with.Reads as over_with
use Rattle.tables.proofs.put_tasks.Reads as put_tasks
use Rattle.tables.proofs.put_queue.Reads as put_queue
use Rattle.tables.proofs.put_ecbs.Reads as put_ecbs
use Rattle.tables.proofs.put_storage.Reads as put_storage
use Rattle.tables.proofs.made.goes.Reads as goes
use Rattle.tables.proofs.made.stays.Reads as stays
use Rattle.tables.proofs.ending.ended.Reads as ended
use Rattle.tables.proofs.ending.without.Reads as without

pub sound_once : Once sound.Post
sound_once k a x y e d p q = p ∙ sym q

pub over_with_once : Once over_with.Post
over_with_once k a x y e d p q = p ∙ sym q

pub ended_once : Once ended.Post
ended_once k a x y e d p q = p ∙ sym q

pub without_once : Once without.Post
without_once k a x y e d p q = p ∙ sym q

pub put_tasks_once : Once put_tasks.Post
put_tasks_once k a x y e d p q = p ∙ sym q

pub put_queue_once : Once put_queue.Post
put_queue_once k a x y e d p q = p ∙ sym q

pub put_ecbs_once : Once put_ecbs.Post
put_ecbs_once k a x y e d p q = p ∙ sym q

pub put_storage_once : Once put_storage.Post
put_storage_once k a x y e d p q = p ∙ sym q

pub goes_once : Once goes.Post
goes_once k a x y e d p q = p ∙ sym q

pub stays_once : Once stays.Post
stays_once k a x y e d p q = p ∙ sym q
