use Rattle.std.proofs.Common.{rules}
use Rattle.std.proofs.lemmas.Fn.{always_returns_same}
use Rattle.storage.proofs.InOrder.{after, sorted_in_order}
use Rattle.storage.proofs.areas_in_order.Goals as goal

pub returns : goal.returns
returns c =
    sorted_in_order _ _
    (c.is_sorted_by.ensures.cases after (always_returns_same _ _ _ (λ x r f k. search rules)))
