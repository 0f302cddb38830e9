-- Wrong answers that the contracts of `storage::areas` rule out.
use Prim.Native.Nat.{◌+◌, ◌-◌, ◌%◌}
use mathlib.Core.Path.{refl}
use mathlib.Core.Bool.{not, ◌&&◌, ◌||◌}
use lib.Dec.{eqb, leb, ltb}
use Rattle.kinds.specs.Limits.{region, doubleword}
use Rattle.kinds.specs.Ranges.{subpool_good}
use Rattle.rules.specs.Storage.{start_of, past_end, one_holder, bytes_apart, pages_apart}
use Rattle.rules.specs.HandCases.{area}
use Rattle.storage.proofs.areas.end_of.Reads as end_of_lem
use Rattle.storage.proofs.areas.apart.Reads as apart
use Rattle.storage.proofs.areas.same_area.Reads as same_area
use Rattle.storage.proofs.areas.shape_good.Reads as shape_good
use Rattle.impostors.specs.Fitting.{◌⊗◌, fits-Area, fits_end}
use Rattle.impostors.specs.Opened.{tables_open}
use Rattle.impostors.specs.Wrong.{RuledOut, wrong_at}
use Rattle.impostors.specs.Parts.{apart_at_first}

-- at its last byte: 8 bytes at 0 end at 7
pub end_of_the_last_byte : RuledOut (λ k. fits-Area ⊗ fits_end) end_of_lem.Pre end_of_lem.Post
    (λ k a. start_of a.0 + (a.0.size - 1))
end_of_the_last_byte = wrong_at tt (area 0 8 5 1, tt) refl tt (λ n. eqb n 7) refl refl

-- counted from address 0: 8 bytes at 16 end at 8
pub end_of_counted_from_0 : RuledOut (λ k. fits-Area ⊗ fits_end) end_of_lem.Pre end_of_lem.Post (λ k a. a.0.size)
end_of_counted_from_0 = wrong_at tt (area 16 8 5 1, tt) refl tt (λ n. eqb n 8) refl refl

-- only the first page of the new area is judged: 5,000 bytes of subpool 10 at 0, and subpool 5 at 6,144
pub apart_by_the_first_page :
    RuledOut (λ k. fits-Area ⊗ fits-Area ⊗ fits_end) apart.Pre apart.Post
    (λ k a. apart_at_first a.0 a.1.0)
unfolding tables_open
apart_by_the_first_page = wrong_at tt (area 0 5000 10 1, (area 6144 8 5 1, tt)) refl tt (λ b. b) refl refl

-- pages are not judged: subpools 5 and 10 of task 1 on one page
pub apart_on_one_page : RuledOut (λ k. fits-Area ⊗ fits-Area ⊗ fits_end) apart.Pre apart.Post
    (λ k a. bytes_apart a.0 a.1.0)
unfolding tables_open
apart_on_one_page = wrong_at tt (area 0 8 5 1, (area 8 8 10 1, tt)) refl tt (λ b. b) refl refl

-- only the subpool is compared: tasks 1 and 2 on one page, in subpool 5
pub apart_of_two_owners :
    RuledOut (λ k. fits-Area ⊗ fits-Area ⊗ fits_end) apart.Pre apart.Post
    (λ k a. bytes_apart a.0 a.1.0 && (eqb a.0.subpool a.1.0.subpool || pages_apart a.0 a.1.0))
unfolding tables_open
apart_of_two_owners = wrong_at tt (area 0 8 5 1, (area 8 8 5 2, tt)) refl tt (λ b. b) refl refl

-- an area meets the one that begins where it ends
pub apart_not_if_they_touch :
    RuledOut (λ k. fits-Area ⊗ fits-Area ⊗ fits_end) apart.Pre apart.Post
    (λ k a. (ltb (past_end a.0) (start_of a.1.0) || ltb (past_end a.1.0) (start_of a.0))
    && (one_holder a.0 a.1.0 || pages_apart a.0 a.1.0))
unfolding tables_open
apart_not_if_they_touch = wrong_at tt (area 0 8 5 1, (area 8 8 5 1, tt)) refl tt not refl refl

-- the owner is not compared: another task's area passes for the caller's
pub same_area_of_another_task :
    RuledOut (λ k. fits-Area ⊗ fits-Area ⊗ fits_end) same_area.Pre same_area.Post
    (λ k a. eqb (start_of a.0) (start_of a.1.0)
    && (eqb a.0.size a.1.0.size && eqb a.0.subpool a.1.0.subpool))
unfolding tables_open
same_area_of_another_task = wrong_at tt (area 0 8 5 1, (area 0 8 5 2, tt)) refl tt (λ b. b) refl refl

-- the length is not compared: the first 8 of 16 bytes pass for all of them
pub same_area_a_part :
    RuledOut (λ k. fits-Area ⊗ fits-Area ⊗ fits_end) same_area.Pre same_area.Post
    (λ k a. eqb (start_of a.0) (start_of a.1.0) && one_holder a.0 a.1.0)
unfolding tables_open
same_area_a_part = wrong_at tt (area 0 8 5 1, (area 0 16 5 1, tt)) refl tt (λ b. b) refl refl

-- an area of no bytes passes
pub shape_good_no_bytes :
    RuledOut (λ k. fits-Area ⊗ fits_end) shape_good.Pre shape_good.Post
    (λ k a. eqb (a.0.size % doubleword) 0
    && (eqb (start_of a.0 % doubleword) 0 && (leb (past_end a.0) region && subpool_good a.0.subpool)))
unfolding tables_open
shape_good_no_bytes = wrong_at tt (area 0 0 5 1, tt) refl tt (λ b. b) refl refl

-- only its start has to lie in the region: 16 bytes at 131,064 pass
pub shape_good_beyond_the_region :
    RuledOut (λ k. fits-Area ⊗ fits_end) shape_good.Pre shape_good.Post
    (λ k a. ltb 0 a.0.size && (eqb (a.0.size % doubleword) 0
    && (eqb (start_of a.0 % doubleword) 0 && (ltb (start_of a.0) region && subpool_good a.0.subpool))))
unfolding tables_open
shape_good_beyond_the_region = wrong_at tt (area 131064 16 5 1, tt) refl tt (λ b. b) refl refl

-- the last byte of the region may not be used: 8 bytes at 131,064 are refused
pub shape_good_not_the_last_byte :
    RuledOut (λ k. fits-Area ⊗ fits_end) shape_good.Pre shape_good.Post
    (λ k a. ltb 0 a.0.size && (eqb (a.0.size % doubleword) 0
    && (eqb (start_of a.0 % doubleword) 0 && (ltb (past_end a.0) region && subpool_good a.0.subpool))))
unfolding tables_open
shape_good_not_the_last_byte = wrong_at tt (area 131064 8 5 1, tt) refl tt not refl refl
