-- Wrong answers that the contracts of `storage` rule out.
use mathlib.Core.Path.{refl}
use mathlib.Core.Bool.{Bool, not, ◌&&◌}
use mathlib.Core.List.{List, [], ◌∷◌, ◌++◌, map}
use native.Mathlib.Omega.{arith}
use lib.Dec.{eqb, leb, ltb}
use lib.ListN.{take, drop, get_or, replicate}
use Rattle.lists.specs.Pick.{pick}
use Rattle.lists.specs.Lists.{keep, every, some, pairwise, same_by}
use Rattle.kinds.specs.Limits.{most_areas}
use Rattle.kinds.specs.Ranges.{between}
use Rattle.kinds.specs.Areas.{no_area}
use Rattle.kinds.specs.declared.areas.Area.{Area}
use Rattle.rules.specs.Storage.{start_of, one_holder, bytes_apart, apart, inserted_in, same_area}
use Rattle.rules.specs.SoundAreas.{area_shapes_good, areas_rise, areas_apart}
use Rattle.rules.specs.HandCases.{area}
use Rattle.storage.specs.Stored.{areas_in, stored_areas, PackedAreas, is_zero, rest_zero}
use Rattle.storage.specs.Kept.{stored_packed}
use Rattle.storage.specs.declared.Storage.{Storage}
use Rattle.storage.proofs.empty.Reads as empty
use Rattle.storage.proofs.packed.Reads as packed
use Rattle.storage.proofs.areas_fit.Reads as areas_fit
use Rattle.storage.proofs.shapes_good.Reads as shapes_good
use Rattle.storage.proofs.areas_in_order.Reads as areas_in_order
use Rattle.storage.proofs.insert.Reads as insert
use Rattle.storage.proofs.has_area.Reads as has_area
use Rattle.storage.proofs.without.Reads as without
use Rattle.impostors.specs.Fitting.{◌⊗◌, fits-Area, fits-Storage, fits_end}
use Rattle.impostors.specs.Opened.{tables_open}
use Rattle.impostors.specs.Wrong.{RuledOut, wrong_at}

-- areas of task 1 in subpool 5: 8 bytes at 0, at 8 and at 16; and 16 bytes at 0
abbrev one : Area
one = area 0 8 5 1

abbrev two : Area
two = area 8 8 5 1

abbrev three : Area
three = area 16 8 5 1

abbrev long : Area
long = area 0 16 5 1

packed_two : (x y : Area) → PackedAreas (stored_areas (x ∷ y ∷ []))
packed_two x y = stored_packed (x ∷ y ∷ []) _ refl (omega arith)

packed_one : (x : Area) → PackedAreas (stored_areas (x ∷ []))
packed_one x = stored_packed (x ∷ []) _ refl (omega arith)

-- a storage holds these areas, within its count
abbrev holds : List Area → Storage → Bool
holds l s = same_by same_area (areas_in s) l

-- with other places
abbrev among : Storage → List Area → Storage
among s l = record { areas = l; count = s.count }

-- an unused place counts as an area
pub empty_one_counted : RuledOut (λ k. fits_end) empty.Pre empty.Post (λ k a. stored_areas (no_area ∷ []))
empty_one_counted = wrong_at tt tt refl tt (λ s. eqb s.count 1) refl refl

-- nothing is counted, but the places are not cleared
pub empty_not_cleared : RuledOut (λ k. fits_end) empty.Pre empty.Post
    (λ k a. record { areas = replicate most_areas one; count = 0 })
unfolding tables_open
empty_not_cleared = wrong_at tt tt refl tt (λ s. same_area (get_or s.areas 0 no_area) one) refl refl

-- an unused place may hold anything
pub packed_whatever_is_unused : RuledOut (λ k. fits-Storage ⊗ fits_end) packed.Pre packed.Post
    (λ k a. leb a.0.count most_areas)
unfolding tables_open
packed_whatever_is_unused =
    wrong_at tt (among (stored_areas []) (stored_areas (one ∷ [])).areas, tt) refl tt (λ b. b) refl refl

-- only the first unused place is looked at: the first is zero and the second is not
pub packed_by_one_place :
    RuledOut (λ k. fits-Storage ⊗ fits_end) packed.Pre packed.Post
    (λ k a. leb a.0.count most_areas && is_zero (get_or a.0.areas a.0.count no_area))
unfolding tables_open
packed_by_one_place =
    wrong_at tt (among (stored_areas []) (stored_areas (no_area ∷ one ∷ [])).areas, tt) refl tt (λ b. b) refl refl

-- a full table does not pass
pub packed_not_full : RuledOut (λ k. fits-Storage ⊗ fits_end) packed.Pre packed.Post
    (λ k a. ltb a.0.count most_areas && rest_zero a.0)
unfolding tables_open
packed_not_full = wrong_at tt (stored_areas (replicate most_areas one), tt) refl tt not refl refl

-- 128 are too many
pub areas_fit_not_128 : RuledOut (λ k. fits-Storage ⊗ fits_end) areas_fit.Pre areas_fit.Post
    (λ k a. ltb a.0.count most_areas)
unfolding tables_open
areas_fit_not_128 = wrong_at tt (stored_areas (replicate most_areas one), tt) refl (omega arith) not refl refl

-- as the count of a list, from 1 on: a storage with no area does not fit
pub areas_fit_not_0 : RuledOut (λ k. fits-Storage ⊗ fits_end) areas_fit.Pre areas_fit.Post
    (λ k a. between 1 most_areas a.0.count)
unfolding tables_open
areas_fit_not_0 = wrong_at tt (stored_areas [], tt) refl (omega arith) not refl refl

-- the first area is not looked at: it has no bytes
pub shapes_good_but_the_first : RuledOut (λ k. fits-Storage ⊗ fits_end) shapes_good.Pre shapes_good.Post
    (λ k a. area_shapes_good (drop 1 (areas_in a.0)))
unfolding tables_open
shapes_good_but_the_first =
    wrong_at tt (stored_areas (area 0 0 5 1 ∷ two ∷ []), tt) refl (omega arith) (λ b. b) refl refl

-- unused places are looked at too, and have no bytes
pub shapes_good_of_unused_places : RuledOut (λ k. fits-Storage ⊗ fits_end) shapes_good.Pre shapes_good.Post
    (λ k a. area_shapes_good a.0.areas)
unfolding tables_open
shapes_good_of_unused_places = wrong_at tt (stored_areas (one ∷ []), tt) refl (omega arith) not refl refl

-- two areas may start at one address, here one of no bytes and one of 8
pub areas_in_order_or_level : RuledOut (λ k. fits-Storage ⊗ fits_end) areas_in_order.Pre areas_in_order.Post
    (λ k a. pairwise (λ (x : Area) (y : Area). leb (start_of x) (start_of y)) (areas_in a.0)
    && areas_apart (areas_in a.0))
unfolding tables_open
areas_in_order_or_level =
    wrong_at tt (stored_areas (area 0 0 5 1 ∷ one ∷ []), tt) refl (omega arith) (λ b. b) refl refl

-- whether they rise is not asked of the first area, which stands above the second
pub areas_in_order_rising_but_the_first :
    RuledOut (λ k. fits-Storage ⊗ fits_end) areas_in_order.Pre areas_in_order.Post
    (λ k a. areas_rise (drop 1 (areas_in a.0)) && areas_apart (areas_in a.0))
unfolding tables_open
areas_in_order_rising_but_the_first =
    wrong_at tt (stored_areas (two ∷ one ∷ three ∷ []), tt) refl (omega arith) (λ b. b) refl refl

-- only bytes are judged: tasks 1 and 2 on one page
pub areas_in_order_on_one_page : RuledOut (λ k. fits-Storage ⊗ fits_end) areas_in_order.Pre areas_in_order.Post
    (λ k a. areas_rise (areas_in a.0) && pairwise bytes_apart (areas_in a.0))
unfolding tables_open
areas_in_order_on_one_page =
    wrong_at tt (stored_areas (one ∷ area 8 8 5 2 ∷ []), tt) refl (omega arith) (λ b. b) refl refl

-- an area is compared with itself too, and meets itself
pub areas_in_order_apart_from_themselves :
    RuledOut (λ k. fits-Storage ⊗ fits_end) areas_in_order.Pre areas_in_order.Post
    (λ k a. areas_rise (areas_in a.0) && every (λ (x : Area). every (apart x) (areas_in a.0)) (areas_in a.0))
unfolding tables_open
areas_in_order_apart_from_themselves = wrong_at tt (stored_areas (one ∷ []), tt) refl (omega arith) not refl refl

-- whether they are apart is not asked of the first area, which meets the second
pub areas_in_order_apart_but_the_first :
    RuledOut (λ k. fits-Storage ⊗ fits_end) areas_in_order.Pre areas_in_order.Post
    (λ k a. areas_rise (areas_in a.0) && areas_apart (drop 1 (areas_in a.0)))
unfolding tables_open
areas_in_order_apart_but_the_first =
    wrong_at tt (stored_areas (long ∷ two ∷ []), tt) refl (omega arith) (λ b. b) refl refl

-- it goes behind all others, and one at 0 behind one at 8
pub insert_at_the_end : RuledOut (λ k. fits-Storage ⊗ fits-Area ⊗ fits_end) insert.Pre insert.Post
    (λ k a. stored_areas (areas_in a.0 ++ (a.1.0 ∷ [])))
unfolding tables_open
insert_at_the_end =
    wrong_at tt (stored_areas (two ∷ []), (one, tt)) refl (packed_one two, omega arith)
    (holds (two ∷ one ∷ [])) refl refl

-- it goes before one of the same address
pub insert_before_an_equal :
    RuledOut (λ k. fits-Storage ⊗ fits-Area ⊗ fits_end) insert.Pre insert.Post
    (λ k a. stored_areas (keep (λ (b : Area). ltb (start_of b) (start_of a.1.0)) (areas_in a.0)
    ++ (a.1.0 ∷ keep (λ (b : Area). leb (start_of a.1.0) (start_of b)) (areas_in a.0))))
unfolding tables_open
insert_before_an_equal =
    wrong_at tt (stored_areas (one ∷ []), (long, tt)) refl (packed_one one, omega arith)
    (holds (long ∷ one ∷ [])) refl refl

-- it is put in and not counted
pub insert_not_counted :
    RuledOut (λ k. fits-Storage ⊗ fits-Area ⊗ fits_end) insert.Pre insert.Post
    (λ k a. among a.0 (stored_areas (inserted_in a.1.0 (areas_in a.0))).areas)
unfolding tables_open
insert_not_counted =
    wrong_at tt (stored_areas (one ∷ []), (two, tt)) refl (packed_one one, omega arith) (λ s. eqb s.count 1) refl refl

-- the same address, length and subpool
abbrev alike_but_owners : Area → Area → Bool
alike_but_owners x y = eqb (start_of x) (start_of y) && (eqb x.size y.size && eqb x.subpool y.subpool)

-- whoever owns it: task 2 has the area that is looked for
pub has_area_of_another_task :
    RuledOut (λ k. fits-Storage ⊗ fits-Area ⊗ fits_end) has_area.Pre has_area.Post
    (λ k a. some (alike_but_owners a.1.0) (areas_in a.0))
unfolding tables_open
has_area_of_another_task =
    wrong_at tt (stored_areas (area 0 8 5 2 ∷ []), (one, tt)) refl (omega arith) (λ b. b) refl refl

-- unused places are looked at too: an area of zeros is found in a storage with none
pub has_area_in_unused_places : RuledOut (λ k. fits-Storage ⊗ fits-Area ⊗ fits_end) has_area.Pre has_area.Post
    (λ k a. some (same_area a.1.0) a.0.areas)
unfolding tables_open
has_area_in_unused_places = wrong_at tt (stored_areas [], (no_area, tt)) refl (omega arith) (λ b. b) refl refl

-- only the first area is looked at
pub has_area_by_the_first_alone :
    RuledOut (λ k. fits-Storage ⊗ fits-Area ⊗ fits_end) has_area.Pre has_area.Post
    (λ k a. some (same_area a.1.0) (take 1 (areas_in a.0)))
unfolding tables_open
has_area_by_the_first_alone = wrong_at tt (stored_areas (one ∷ two ∷ []), (two, tt)) refl (omega arith) not refl refl

-- all areas of its owner in its subpool go
pub without_all_of_its_owner :
    RuledOut (λ k. fits-Storage ⊗ fits-Area ⊗ fits_end) without.Pre without.Post
    (λ k a. stored_areas (keep (λ (b : Area). not (one_holder a.1.0 b)) (areas_in a.0)))
unfolding tables_open
without_all_of_its_owner =
    wrong_at tt (stored_areas (one ∷ two ∷ []), (one, tt)) refl (packed_two one two) (λ s. eqb s.count 0) refl refl

-- a gap is left where it stood
pub without_closing_the_gap :
    RuledOut (λ k. fits-Storage ⊗ fits-Area ⊗ fits_end) without.Pre without.Post
    (λ k a. among a.0 (map (λ (b : Area). pick (same_area a.1.0 b) no_area b) a.0.areas))
unfolding tables_open
without_closing_the_gap =
    wrong_at tt (stored_areas (one ∷ two ∷ []), (one, tt)) refl (packed_two one two)
    (holds (no_area ∷ two ∷ [])) refl refl

-- the area stays and the others go
pub without_the_others : RuledOut (λ k. fits-Storage ⊗ fits-Area ⊗ fits_end) without.Pre without.Post
    (λ k a. stored_areas (keep (same_area a.1.0) (areas_in a.0)))
unfolding tables_open
without_the_others =
    wrong_at tt (stored_areas (one ∷ two ∷ []), (one, tt)) refl (packed_two one two) (holds (one ∷ [])) refl refl
