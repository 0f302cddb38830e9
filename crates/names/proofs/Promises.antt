-- No second result fits the contract of a public function, whoever wrote it.
use mathlib.Core.Path.{sym, ◌∙◌}
use Rattle.lists.specs.Promise.{Once}
use Rattle.names.proofs.same_name.Reads as same_name
use Rattle.names.proofs.is_legal.Reads as is_legal
use Rattle.names.proofs.is_system.Reads as is_system
use Rattle.names.proofs.list.names_good.Reads as names_good
use Rattle.names.proofs.list.asks_shared.Reads as asks_shared
use Rattle.names.proofs.list.asks_system.Reads as asks_system

pub same_name_once : Once same_name.Post
same_name_once k a x y e d p q = p ∙ sym q

pub is_legal_once : Once is_legal.Post
is_legal_once k a x y e d p q = p ∙ sym q

pub is_system_once : Once is_system.Post
is_system_once k a x y e d p q = p ∙ sym q

pub names_good_once : Once names_good.Post
names_good_once k a x y e d p q = p ∙ sym q

pub asks_shared_once : Once asks_shared.Post
asks_shared_once k a x y e d p q = p ∙ sym q

pub asks_system_once : Once asks_system.Post
asks_system_once k a x y e d p q = p ∙ sym q
