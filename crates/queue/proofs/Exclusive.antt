-- CHNG in place: a task's slots for some names made exclusive, one after the other.
use mathlib.Core.Path.{◌≡◌, refl, ap, ap₂, ◌∙◌}
use mathlib.Core.Bool.{Bool, ◌||◌, or_comm}
use mathlib.Core.List.{List, [], ◌∷◌, ◌++◌, map}
use Prim.Native.Nat.{ℕ, ◌+◌, ◌<◌}
use lib.ListN.{length, get_or, take, drop, set}
use Rattle.lists.specs.Changing.{changed_at, changed_next}
use Rattle.kinds.specs.declared.names.Slot.{Slot}
use Rattle.rules.specs.Names.{Resource}
use Rattle.rules.specs.Control.{Entry, is_for_one}
use Rattle.rules.specs.Enq.{made_exclusive}
use Rattle.queue.specs.Queues.{entry_of}

unfoldable pub exclusive_slot : ℕ → List Resource → Slot → Slot
exclusive_slot t ns s = record { task = s.task; exclusive = is_for_one t ns (entry_of s) || s.exclusive; name = s.name }

-- the slots show what the rule makes of the entries
pub exclusive_shown : (t : ℕ) (ns : List Resource) (l : List Slot)
    → map entry_of (map (exclusive_slot t ns) l) ≡ map (made_exclusive t ns) (map entry_of l)
unfolding exclusive_slot made_exclusive
exclusive_shown t ns [] = refl
exclusive_shown t ns (s ∷ l) = ap (λ (r : List Entry). entry_of (exclusive_slot t ns s) ∷ r) (exclusive_shown t ns l)

-- the next slot, of which `mine` tells whether it is the task's for one of the names
pub exclusive_next : (t : ℕ) (ns : List Resource) (es rs : List Slot) (i : ℕ) (d : Slot) (mine : Bool) → i < length es
    → rs ≡ map (exclusive_slot t ns) (take i es) ++ drop i es → mine ≡ is_for_one t ns (entry_of (get_or es i d))
    → set rs i
    (record { task = (get_or rs i d).task; exclusive = (get_or rs i d).exclusive || mine; name = (get_or rs i d).name })
    ≡ map (exclusive_slot t ns) (take (i + 1) es) ++ drop (i + 1) es
unfolding exclusive_slot
exclusive_next t ns es rs i d mine h e k =
    let x = get_or es i d in
    let same : get_or rs i d ≡ x = ap (λ (l : List Slot). get_or l i d) e ∙ changed_at (exclusive_slot t ns) es i d h in
    let either : (x.exclusive || mine) ≡ (is_for_one t ns (entry_of x) || x.exclusive) =
    or_comm x.exclusive mine ∙ ap (λ (b : Bool). b || x.exclusive) k in
    let changed = ap (λ (s : Slot). record { task = s.task; exclusive = s.exclusive || mine; name = s.name }) same
    ∙ ap (λ (b : Bool). record { task = x.task; exclusive = b; name = x.name }) either in
    ap₂ (λ (l : List Slot) (v : Slot). set l i v) e changed
    ∙ changed_next (exclusive_slot t ns) es i d (exclusive_slot t ns x) h refl
