-- What is made of entries that point to names points to names, and so shows again when it is kept.
use mathlib.Core.Path.{sym, ap, ap₂, ◌∙◌}
use mathlib.Core.Bool.{Bool}
use mathlib.Core.List.{List, ◌++◌, map, map-map, map-append}
use Prim.Native.Nat.{ℕ}
use lib.ListN.{take}
use Rattle.lists.specs.Lists.{keep, unskipped}
use Rattle.lists.specs.Keeping.{keep_map, take_map}
use Rattle.lists.specs.Skipping.{unskipped_map}
use Rattle.kinds.specs.declared.names.Slot.{Slot}
use Rattle.kinds.specs.declared.names.PointedList.{PointedList}
use Rattle.names.specs.Pointers.{pointed_ask, pointed_in}
use Rattle.rules.specs.Names.{Resource, Ask}
use Rattle.rules.specs.Control.{Entry}
use Rattle.rules.specs.Enq.{entry_for, with_tail, made_exclusive}
use Rattle.queue.specs.Queues.{entry_of, entries_in}
use Rattle.queue.specs.Pointing.{pointed_by}
use Rattle.queue.specs.declared.Queue.{Queue}
use Rattle.queue.proofs.Views.{Pointing, entries_shown}
use Rattle.queue.proofs.Builds.{slot_for}
use Rattle.queue.proofs.Exclusive.{exclusive_slot, exclusive_shown}
use Rattle.queue.proofs.Repointing.{slots_to, slots_shown}

pub entries_point : (q : Queue) → Pointing (entries_in q)
entries_point q = record { slots = take q.count q.slots; shown = entries_shown q }

module _ {l : List Entry} (p : Pointing l) where
  pub keep_points : (f : Entry → Bool) → Pointing (keep f l)
  keep_points f = record {
    slots = keep (λ (s : Slot). f (entry_of s)) p.slots;
    shown = ap (keep f) p.shown ∙ keep_map entry_of f p.slots;
  }

  pub exclusive_points : (t : ℕ) (ns : List Resource) → Pointing (map (made_exclusive t ns) l)
  exclusive_points t ns = record {
    slots = map (exclusive_slot t ns) p.slots;
    shown = ap (map (made_exclusive t ns)) p.shown ∙ sym (exclusive_shown t ns p.slots);
  }

  pub pointed_points : (os : List ℕ) → Pointing (pointed_by os l)
  pointed_points os = record {
    slots = slots_to os p.slots;
    shown = ap (pointed_by os) p.shown ∙ sym (slots_shown os p.slots);
  }

  pub tail_points : (t : ℕ) (skip : List Bool) (k : PointedList)
      → Pointing (with_tail l t (unskipped skip (pointed_in k).asks))
  tail_points t skip k =
      let all = take k.count k.names in
      let ws = unskipped skip all in
      let asks = ap (unskipped skip) (take_map pointed_ask k.count k.names) ∙ unskipped_map pointed_ask skip all in
      record {
        slots = p.slots ++ map (slot_for t) ws;
        shown =
            ap₂ (λ (es : List Entry) (m : List Ask). es ++ map (entry_for t) m) p.shown asks
            ∙ ap (λ (es : List Entry). map entry_of p.slots ++ es)
            (map-map (entry_for t) pointed_ask ws ∙ sym (map-map entry_of (slot_for t) ws))
            ∙ sym (map-append entry_of p.slots (map (slot_for t) ws));
      }
