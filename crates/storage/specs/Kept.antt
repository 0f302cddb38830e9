-- A storage is a packed table of areas: what is kept shows again, and a storage that passes the test is packed.
use Rattle.std.specs.Prelude.{◌≡◌, refl, true, false, List, ◌≤◌, eqb, ltb, length}
use Rattle.std.proofs.Common.{◌∙◌, arith, eqb-true, ltb-false, le-ltb}
use Rattle.lists.specs.Pick.{chain_not, pick_false}
use Rattle.lists.specs.Bools.{both}
use Rattle.lists.specs.Packed.{Table, plain}
use Rattle.lists.specs.Packed as packed
use Rattle.kinds.specs.Areas.{no_area}
use Rattle.kinds.specs.Limits.{most_areas}
use Rattle.kinds.specs.declared.areas.Area.{Area}
use Rattle.rules.specs.Storage.{one_holder, same_area}
use Rattle.storage.specs.Stored.{areas_in, stored_areas, PackedAreas, is_zero, rest_zero, packed_areas}
use Rattle.storage.specs.declared.Storage.{Storage}

abbrev pub table : Table Storage Area Area
table = record {
  array = λ s. s.areas;
  count = λ s. s.count;
  make = λ l n. record { areas = l; count = n };
  array_made = λ l n. refl;
  count_made = λ l n. refl;
  whole = λ s. refl;
  size = most_areas;
  zero = no_area;
  view = plain;
}

pub live_stored : (l : List Area) → areas_in (stored_areas l) ≡ l
live_stored = packed.live_stored table

pub stored_packed : (l : List Area) (s : Storage) → s ≡ stored_areas l → length l ≤ most_areas → PackedAreas s
stored_packed l s e h =
    record { form = packed.stored_form table l s e; room = omega (arith, packed.stored_count table l s e) }

-- a place that passes the test is an unused one
zero_eq : (a : Area) → is_zero a ≡ true → a ≡ no_area
unfolding is_zero same_area one_holder
zero_eq a h =
    let p = both (eqb a.start.0 0) _ h in
    let q = both (eqb a.size 0) _ p.1 in
    let r = both (eqb a.owner.0 0) (eqb a.subpool 0) q.1 in
    λ i. record {
      start = record { 0 = eqb-true a.start.0 0 p.0 i };
      size = eqb-true a.size 0 q.0 i;
      subpool = eqb-true a.subpool 0 r.1 i;
      owner = record { 0 = eqb-true a.owner.0 0 r.0 i };
    }

-- a storage that passes the test keeps its list
pub packed_kept : (s : Storage) → packed_areas s ≡ true → PackedAreas s
unfolding packed_areas rest_zero
packed_kept s h =
    let a = chain_not (ltb most_areas s.count) _ h in
    let k : s.count ≤ most_areas = ltb-false most_areas s.count a.0 in
    record { form = packed.passed_form table is_zero zero_eq s k a.1 refl; room = k }

-- and whatever list is kept passes the test, if it is no longer than the table
pub stored_passes : (l : List Area) → length l ≤ most_areas → packed_areas (stored_areas l) ≡ true
unfolding packed_areas rest_zero is_zero same_area one_holder
stored_passes l k =
    pick_false (ltb most_areas (length l)) false _ (le-ltb most_areas (length l) k)
    ∙ packed.rest_passes table is_zero refl l k
