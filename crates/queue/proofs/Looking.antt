-- Whether a slot is a task's for one of the names beside a request.
use mathlib.Core.Path.{◌≡◌, sym, ap, ◌∙◌}
use mathlib.Core.Bool.{Bool, ◌&&◌}
use mathlib.Core.List.{List, map, map-map}
use Prim.Native.Nat.{ℕ}
use lib.Dec.{eqb}
use lib.ListN.{take}
use Rattle.lists.specs.Lists.{some}
use Rattle.lists.specs.Loops.{any_shown}
use Rattle.lists.specs.Keeping.{take_map}
use Rattle.kinds.specs.declared.names.Slot.{Slot}
use Rattle.kinds.specs.declared.names.Pointed.{Pointed}
use Rattle.kinds.specs.declared.names.PointedList.{PointedList}
use Rattle.names.specs.Pointers.{pointer, same_pointer, pointed_ask, pointed_in}
use Rattle.rules.specs.Names.{Resource, same_name, name_of, names_of}
use Rattle.rules.specs.Control.{is_for_one}
use Rattle.queue.specs.Queues.{entry_of}

-- the name that is asked for
abbrev pointed_name : Pointed → Resource
pointed_name w = pointer w.name.0

listed : (l : PointedList) → names_of (pointed_in l) ≡ take l.count (map pointed_name l.names)
listed l =
    sym (take_map name_of l.count (map pointed_ask l.names))
    ∙ ap (take l.count) (map-map name_of pointed_ask l.names)

pub for_one : (t : ℕ) (l : PointedList) (x : Slot)
    → (eqb x.task.0 t && some (λ (w : Pointed). eqb x.name.0 w.name.0) (take l.count l.names))
    ≡ is_for_one t (names_of (pointed_in l)) (entry_of x)
for_one t l x =
    let n = pointer x.name.0 in
    let same : some (λ (w : Pointed). eqb x.name.0 w.name.0) (take l.count l.names)
    ≡ some (λ (w : Pointed). same_name n (pointed_name w)) (take l.count l.names) =
    λ i. some (λ (w : Pointed). sym (same_pointer x.name.0 w.name.0) i) (take l.count l.names) in
    ap (λ (b : Bool). eqb x.task.0 t && b) (same ∙ any_shown pointed_name (same_name n) l.count l.names)
    ∙ sym (ap (λ (ns : List Resource). is_for_one t ns (entry_of x)) (listed l))
