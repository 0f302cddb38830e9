-- No second result fits the contract of a public function, whoever wrote it.
use mathlib.Core.Path.{sym, ◌∙◌}
use Rattle.lists.specs.Promise.{Once}
use Rattle.ecbs.proofs.empty.Reads as empty
use Rattle.ecbs.proofs.at.Reads as at
use Rattle.ecbs.proofs.word.Reads as word
use Rattle.ecbs.proofs.ecbs_fit.Reads as ecbs_fit
use Rattle.ecbs.proofs.words_good.Reads as words_good
use Rattle.ecbs.proofs.all_zero.Reads as all_zero
use Rattle.ecbs.proofs.with_ecb.Reads as with_ecb
use Rattle.ecbs.proofs.completed.Reads as completed
use Rattle.ecbs.proofs.unwaited_all.Reads as unwaited_all
use Rattle.ecbs.proofs.waited_on.Reads as waited_on

pub empty_once : Once empty.Post
empty_once k a x y e d p q = p ∙ sym q

pub at_once : Once at.Post
at_once k a x y e d p q = p ∙ sym q

pub word_once : Once word.Post
word_once k a x y e d p q = p ∙ sym q

pub ecbs_fit_once : Once ecbs_fit.Post
ecbs_fit_once k a x y e d p q = p ∙ sym q

pub words_good_once : Once words_good.Post
words_good_once k a x y e d p q = p ∙ sym q

pub all_zero_once : Once all_zero.Post
all_zero_once k a x y e d p q = p ∙ sym q

pub with_ecb_once : Once with_ecb.Post
with_ecb_once k a x y e d p q = p ∙ sym q

pub completed_once : Once completed.Post
completed_once k a x y e d p q = p ∙ sym q

pub unwaited_all_once : Once unwaited_all.Post
unwaited_all_once k a x y e d p q = p ∙ sym q

pub waited_on_once : Once waited_on.Post
waited_on_once k a x y e d p q = p ∙ sym q
