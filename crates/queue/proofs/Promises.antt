-- No second result fits the contract of a public function, whoever wrote it.
use mathlib.Core.Path.{sym, ◌∙◌}
use Rattle.lists.specs.Promise.{Once}
use Rattle.queue.proofs.empty.Reads as empty
use Rattle.queue.proofs.packed.Reads as packed
use Rattle.queue.proofs.queue_fits.Reads as queue_fits
use Rattle.queue.proofs.bars.Reads as bars
use Rattle.queue.proofs.entries_once.Reads as entries_once
use Rattle.queue.proofs.entry_names_good.Reads as entry_names_good
use Rattle.queue.proofs.lacking.Reads as lacking
use Rattle.queue.proofs.marks.all_marks.Reads as all_marks
use Rattle.queue.proofs.marks.no_marks.Reads as no_marks
use Rattle.queue.proofs.lead.sole.Reads as sole
use Rattle.queue.proofs.looks.all_set_but.Reads as all_set_but
use Rattle.queue.proofs.looks.entered.Reads as entered
use Rattle.queue.proofs.looks.available.Reads as available
use Rattle.queue.proofs.offsets.offsets_of.Reads as offsets_of
use Rattle.queue.proofs.offsets.same_offsets.Reads as same_offsets
use Rattle.queue.proofs.offsets.with_offsets.Reads as with_offsets
use Rattle.queue.proofs.releasing.release.Reads as release
use Rattle.queue.proofs.queuing.with_tail.Reads as with_tail
use Rattle.queue.proofs.queuing.made_exclusive.Reads as made_exclusive

pub empty_once : Once empty.Post
empty_once k a x y e d p q = p ∙ sym q

pub packed_once : Once packed.Post
packed_once k a x y e d p q = p ∙ sym q

pub queue_fits_once : Once queue_fits.Post
queue_fits_once k a x y e d p q = p ∙ sym q

pub bars_once : Once bars.Post
bars_once k a x y e d p q = p ∙ sym q

pub entries_once_once : Once entries_once.Post
entries_once_once k a x y e d p q = p ∙ sym q

pub entry_names_good_once : Once entry_names_good.Post
entry_names_good_once k a x y e d p q = p ∙ sym q

pub lacking_once : Once lacking.Post
lacking_once k a x y e d p q = p ∙ sym q

pub all_marks_once : Once all_marks.Post
all_marks_once k a x y e d p q = p ∙ sym q

pub no_marks_once : Once no_marks.Post
no_marks_once k a x y e d p q = p ∙ sym q

pub sole_once : Once sole.Post
sole_once k a x y e d p q = p ∙ sym q

pub all_set_but_once : Once all_set_but.Post
all_set_but_once k a x y e d p q = p ∙ sym q

pub entered_once : Once entered.Post
entered_once k a x y e d p q = p ∙ sym q

pub available_once : Once available.Post
available_once k a x y e d p q = p ∙ sym q

pub offsets_of_once : Once offsets_of.Post
offsets_of_once k a x y e d p q = p ∙ sym q

pub same_offsets_once : Once same_offsets.Post
same_offsets_once k a x y e d p q = p ∙ sym q

pub with_offsets_once : Once with_offsets.Post
with_offsets_once k a x y e d p q = p ∙ sym q

pub release_once : Once release.Post
release_once k a x y e d p q = p ∙ sym q

pub with_tail_once : Once with_tail.Post
with_tail_once k a x y e d p q = p ∙ sym q

pub made_exclusive_once : Once made_exclusive.Post
made_exclusive_once k a x y e d p q = p ∙ sym q
