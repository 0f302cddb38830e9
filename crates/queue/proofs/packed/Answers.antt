use Rattle.std.proofs.Common.{rules, arith, Bool, ◌≡◌, ◌&&◌, ◌-◌, length, take, drop, refl, sym, ap, ap₂, ◌∙◌}
use Rattle.std.proofs.Common.{take_all, length-drop}
use Rattle.std.proofs.lemmas.List.Folds.{list_all_more}
use Rattle.lists.specs.Lists.{every}
use Rattle.lists.specs.Pick.{chosen}
use Rattle.lists.specs.Arrays.{mapped_length}
use Rattle.kinds.specs.declared.names.Slot.{Slot}
use Rattle.queue.specs.Queues.{is_zero, packed_entries}
use Rattle.queue.proofs.Tests.{packed_is}
use Rattle.queue.proofs.packed.Goals as goal

pub returns-then-q-gt-PLACES : goal.returns-then-q-gt-PLACES
unfolding packed_entries
returns-then-q-gt-PLACES c = search chosen depth 10

pub loop-x-init : goal.loop-x-init
loop-x-init c = record { wide = search (rules, mapped_length); yet = refl }

pub loop-x-preserved : goal.loop-x-preserved
loop-x-preserved c =
    let v = c.loop-x.invariant in
    record {
      wide = v.wide;
      yet =
          ap₂ (λ (a b : Bool). a && b) v.yet c.is_zero-zero.ensures
          ∙ sym (list_all_more is_zero _ c.loop-x.x-index _ (omega arith));
    }

pub returns : goal.returns
returns c =
    let v = c.loop-x.invariant in
    let q = c.args.q in
    let rest = drop q.count q.slots in
    let whole : take (length q.slots - q.count) rest ≡ rest = take_all _ rest (omega (arith, length-drop {A = Slot})) in
    packed_is q c.loop-x.zero v.wide (omega arith)
    (v.yet ∙ ap (every is_zero) (take_all _ _ (omega arith) ∙ whole))
