-- No second result fits the contract of a public function, whoever wrote it.
use mathlib.Core.Path.{sym, ◌∙◌}
use Rattle.lists.specs.Promise.{OnceWith}
use Rattle.rings.proofs.reports.stuck.Reads as stuck
use Rattle.rings.proofs.reports.queues.Reads as queues

pub stuck_once : OnceWith stuck.Post (λ k e. e.1.0.now)
stuck_once k a x y e d p q = (p.0 ∙ sym q.0, p.1 ∙ sym q.1)

pub queues_once : OnceWith queues.Post (λ k e. e.1.0.now)
queues_once k a x y e d p q = (p.0 ∙ sym q.0, p.1 ∙ sym q.1)
