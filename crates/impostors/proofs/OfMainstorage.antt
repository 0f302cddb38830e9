-- Wrong answers that the contracts of `mainstorage` rule out.
use Prim.Native.Nat.{ℕ, zero, suc, ◌+◌, ◌*◌, ◌/◌}
use mathlib.Core.Path.{refl}
use mathlib.Core.Bool.{Bool, true, false, not, cond, ◌&&◌}
use mathlib.Core.List.{List, [], ◌∷◌}
use native.Mathlib.Omega.{arith}
use lib.Dec.{eqb, leb}
use Rattle.lists.specs.Lists.{every, some, keep}
use Rattle.kinds.specs.Limits.{region, page, doubleword, most_areas}
use Rattle.kinds.specs.Replies.Besides.{TheAddress}
use Rattle.kinds.specs.declared.areas.Area.{Area}
use Rattle.kinds.specs.declared.numbers.TaskNumber.{TaskNumber}
use Rattle.kinds.specs.declared.numbers.Address.{Address}
use Rattle.std.specs.Prelude.{Option, Some, None}
use Rattle.kinds.specs.Replies.{Verdict}
use Rattle.kinds.specs.declared.replies.Fault.TheVariants.{NoStorage, NoSuchArea}
use Rattle.kinds.specs.declared.replies.Refusal.TheVariants.{OutOfRange}
use Rattle.rules.specs.Tests.{refuse, fail, first_of}
use Rattle.rules.specs.Steps.{Step, Outcome, with_areas, done, done_with}
use Rattle.rules.specs.Storage.{start_of, past_end, rounded, owner_in, area_at, one_holder, bytes_apart, apart, permitted}
use Rattle.rules.specs.Storage.{placed_at, lowest, same_area}
use Rattle.rules.specs.Getmain.{getmain_good, wanted, is_nowhere, getmain_verdict, given, getmain_done}
use Rattle.rules.specs.Freemain.{is_named, freemain_good, freemain_verdict}
use Rattle.rules.specs.HandCases.{area}
use Rattle.rules.specs.Table.{counted}
use Rattle.rules.specs.Alike.{kind_of}
use Rattle.history.specs.Samples.{start}
use Rattle.storage.specs.Stored.{areas_in, stored_areas, PackedAreas}
use Rattle.storage.specs.Kept.{stored_packed}
use Rattle.storage.specs.declared.Storage.{Storage}
use Rattle.mainstorage.specs.Tries.{most_tries}
use Rattle.mainstorage.specs.Jumping.{Jump, jumping, past}
use Rattle.tables.specs.Tables.{step_of, tables_of, Packed}
use Rattle.tables.specs.declared.AllTables.{AllTables}
use Rattle.tables.specs.declared.made.Made.{Made}
use Rattle.mainstorage.proofs.room.lowest.Reads as lowest_place
use Rattle.mainstorage.proofs.asked.area_at.Reads as area_at_fn
use Rattle.mainstorage.proofs.getmain.served.Reads as getmain_served
use Rattle.mainstorage.proofs.freemain.served.Reads as freemain_served
use Rattle.impostors.specs.Fitting.{◌⊗◌, fits-Address, fits-AllTables, fits-Area, fits-Storage}
use Rattle.impostors.specs.Fitting.{fits-TaskNumber, fits_bool, fits_end, fits_u32, fits_u8}
use Rattle.impostors.specs.Opened.{tables_open}
use Rattle.impostors.specs.Wrong.{RuledOut, wrong_at}
use Rattle.impostors.specs.Searches.{to_pages, to_ends, to_start, page_too_far, stops_at_others}
use Rattle.impostors.specs.Samples.{task}
use Rattle.impostors.specs.Answers.{but, retelling}
use Rattle.impostors.specs.Parts.{address, goes, making}

-- SAMPLES: 8 bytes of task 1 in subpool 5, and 104 in subpool 10, at 0; so many areas of 8 bytes in subpool 10, from 0
-- on; 128 of them
abbrev one : List Area
one = area 0 8 5 1 ∷ []

abbrev held : List Area
held = area 0 104 10 1 ∷ []

abbrev packed : ℕ → List Area
packed n = counted (λ i. area (doubleword * i) doubleword 10 1) 0 n

abbrev full : List Area
full = packed most_areas

-- a fresh step with these areas, and its tables
abbrev holding : List Area → AllTables
holding l = tables_of (with_areas start l)

kept : (l : List Area) → PackedAreas (stored_areas l) → Packed (holding l)
unfolding tables_open
kept l h = record { queue = record { form = refl; room = omega arith }; storage = h }

few : Packed (holding held)
few = kept held (stored_packed held _ refl (omega arith))

many : Packed (holding full)
many = kept full (stored_packed full _ refl (omega arith))

-- what is seen: the place is an address
abbrev at : ℕ → Option Address → Bool
at n (Some a) = eqb a.0 n
at n None = false

-- THE SEARCH THAT JUMPS, as the code's but for one thing: where a try that fails goes on, or how many tries there are
abbrev Searched : Type 0
Searched = Storage × (Area × Unit {0})

abbrev search : Jump → ℕ → Searched → Option Address
search next tries a = jumping next tries (areas_in a.0) a.1.0 0

-- always on to a page start: 4,096, where 8 is free to the same holder
pub lowest_at_a_page :
    RuledOut (λ k. fits-Storage ⊗ fits-Area ⊗ fits_end) lowest_place.Pre lowest_place.Post
    (λ k a. search to_pages most_tries a)
unfolding tables_open
lowest_at_a_page = wrong_at tt (stored_areas one, (area 0 8 5 1, tt)) refl (omega arith) (at 4096) refl refl

-- only on to ends of areas: on another's page the search stands still at 104, and 4,096 is free
pub lowest_at_ends_alone :
    RuledOut (λ k. fits-Storage ⊗ fits-Area ⊗ fits_end) lowest_place.Pre lowest_place.Post
    (λ k a. search to_ends most_tries a)
unfolding tables_open
lowest_at_ends_alone = wrong_at tt (stored_areas held, (area 0 8 5 1, tt)) refl (omega arith) is_nowhere refl refl

-- back to the start of the area in the way: the search stands still at 0, and 8 is free
pub lowest_back_to_the_start :
    RuledOut (λ k. fits-Storage ⊗ fits-Area ⊗ fits_end) lowest_place.Pre lowest_place.Post
    (λ k a. search to_start most_tries a)
unfolding tables_open
lowest_back_to_the_start = wrong_at tt (stored_areas one, (area 0 8 5 1, tt)) refl (omega arith) is_nowhere refl refl

-- one page too far past another's: 8,192, where 4,096 is free
pub lowest_a_page_too_far :
    RuledOut (λ k. fits-Storage ⊗ fits-Area ⊗ fits_end) lowest_place.Pre lowest_place.Post
    (λ k a. search page_too_far most_tries a)
unfolding tables_open
lowest_a_page_too_far = wrong_at tt (stored_areas held, (area 0 8 5 1, tt)) refl (omega arith) (at 8192) refl refl

-- no further than the first page with an area of another: none, where 4,096 is free
pub lowest_stops_at_others :
    RuledOut (λ k. fits-Storage ⊗ fits-Area ⊗ fits_end) lowest_place.Pre lowest_place.Post
    (λ k a. search stops_at_others most_tries a)
unfolding tables_open
lowest_stops_at_others = wrong_at tt (stored_areas held, (area 0 8 5 1, tt)) refl (omega arith) is_nowhere refl refl

-- 128 tries, without those for pages: behind 128 areas the 129th finds 1,024
pub lowest_tries_without_pages :
    RuledOut (λ k. fits-Storage ⊗ fits-Area ⊗ fits_end) lowest_place.Pre lowest_place.Post
    (λ k a. search past most_areas a)
unfolding tables_open
lowest_tries_without_pages = wrong_at tt (stored_areas full, (area 0 8 10 1, tt)) refl (omega arith) is_nowhere refl refl

-- 32 tries, without those for areas: behind 32 areas the 33rd finds 256
pub lowest_tries_without_areas :
    RuledOut (λ k. fits-Storage ⊗ fits-Area ⊗ fits_end) lowest_place.Pre lowest_place.Post
    (λ k a. search past (region / page) a)
unfolding tables_open
lowest_tries_without_areas =
    wrong_at tt (stored_areas (packed 32), (area 0 8 10 1, tt)) refl (omega arith) is_nowhere refl refl

-- THE SEARCH OF ALL DOUBLEWORDS, by another test: the first of so many that passes, from s on
abbrev first_from : (ℕ → Bool) → ℕ → ℕ → Option Address
first_from p zero s = None
first_from p (suc tries) s = cond (p s) (Some (address s)) (first_from p tries (s + doubleword))

-- the first of the region at which an area passes
abbrev first_at : (Area → Bool) → Area → Option Address
first_at p want = first_from (λ s. p (placed_at want s)) (region / doubleword) 0

-- an area past all others
abbrev past_all : List Area → Area → Bool
past_all l x = every (λ (y : Area). leb (past_end y) (start_of x)) l

-- room freed is never room: the search begins past all areas, and 0 to 7 are free below the one at 8
pub lowest_past_the_last :
    RuledOut (λ k. fits-Storage ⊗ fits-Area ⊗ fits_end) lowest_place.Pre lowest_place.Post
    (λ k a. first_at (λ x. past_all (areas_in a.0) x && permitted (areas_in a.0) x) a.1.0)
unfolding tables_open
lowest_past_the_last =
    wrong_at tt (stored_areas (area 8 8 5 1 ∷ []), (area 0 8 5 1, tt)) refl (omega arith) (at 16) refl refl

-- only bytes are judged: 104 for subpool 5, on the page of subpool 10
pub lowest_on_anothers_page :
    RuledOut (λ k. fits-Storage ⊗ fits-Area ⊗ fits_end) lowest_place.Pre lowest_place.Post
    (λ k a. first_at (λ x. leb (past_end x) region && every (bytes_apart x) (areas_in a.0)) a.1.0)
unfolding tables_open
lowest_on_anothers_page = wrong_at tt (stored_areas held, (area 0 8 5 1, tt)) refl (omega arith) (at 104) refl refl

-- the end of the region is not looked at: 131,072 bytes at 8, where 0 to 7 are taken
pub lowest_beyond_the_region :
    RuledOut (λ k. fits-Storage ⊗ fits-Area ⊗ fits_end) lowest_place.Pre lowest_place.Post
    (λ k a. first_at (λ x. every (apart x) (areas_in a.0)) a.1.0)
unfolding tables_open
lowest_beyond_the_region = wrong_at tt (stored_areas one, (area 0 131072 5 1, tt)) refl (omega arith) (at 8) refl refl

-- THE AREA ASKED FOR

-- the length is rounded down: 100 bytes take 96
pub area_at_rounded_down :
    RuledOut (λ k. fits-Address ⊗ fits_u32 ⊗ fits_u8 ⊗ fits-TaskNumber ⊗ fits_end) area_at_fn.Pre area_at_fn.Post
    (λ k a. area a.0.0 (a.1.0 / doubleword * doubleword) a.1.1.0 (owner_in a.1.1.0 a.1.1.1.0.0))
unfolding tables_open
area_at_rounded_down = wrong_at tt (address 0, (100, (5, (task 1, tt)))) refl refl (λ x. eqb x.size 96) refl refl

-- an area of subpool 0 is the caller's
pub area_at_subpool_0_of_the_caller :
    RuledOut (λ k. fits-Address ⊗ fits_u32 ⊗ fits_u8 ⊗ fits-TaskNumber ⊗ fits_end) area_at_fn.Pre area_at_fn.Post
    (λ k a. area a.0.0 (rounded a.1.0) a.1.1.0 a.1.1.1.0.0)
unfolding tables_open
area_at_subpool_0_of_the_caller =
    wrong_at tt (address 0, (8, (0, (task 1, tt)))) refl refl (λ x. eqb x.owner.0 1) refl refl

-- GETMAIN: task 1 asks in subpool 10, conditionally or not
abbrev Asks : Type 0
Asks = AllTables × (TaskNumber × (ℕ × (ℕ × (Bool × Unit {0}))))

abbrev fits-Asks : Asks → Bool
fits-Asks = fits-AllTables ⊗ fits-TaskNumber ⊗ fits_u32 ⊗ fits_u8 ⊗ fits_bool ⊗ fits_end

abbrev asks : List Area → ℕ → Bool → Asks
asks l bytes conditional = (holding l, (task 1, (bytes, (10, (conditional, tt)))))

-- the area, its place, the outcome and the verdict of the rules
abbrev area_of : Asks → Area
area_of a = wanted a.1.1.0 a.1.1.1.0 a.1.0.0

abbrev place_of : Asks → Option Address
place_of a = lowest (areas_in a.0.storage) (area_of a)

abbrev outcome_of : Asks → Outcome Step
outcome_of a = getmain_done (step_of a.0) a.1.0 a.1.1.0 a.1.1.1.0

abbrev verdict_of : Bool → Asks → Verdict
verdict_of conditional a =
    getmain_verdict (areas_in a.0.storage) a.1.0 a.1.1.0 a.1.1.1.0 conditional

-- another outcome, by the verdict of the rules
abbrev answered : Asks → Outcome Step → Made
answered a o = making (verdict_of a.1.1.1.1.0 a) a.0 o

-- 0 where there is no room, and not 4: 131,072 bytes are asked for conditionally
abbrev done_at : Step → Area → Option Address → Outcome Step
done_at s want (Some p) = given s want (Some p)
done_at s want None = done_with (TheAddress (address 0)) s

pub getmain_served_done_with_no_room : RuledOut (λ k. fits-Asks) getmain_served.Pre getmain_served.Post
    (λ k a. answered a (done_at (step_of a.0) (area_of a) (place_of a)))
unfolding tables_open
getmain_served_done_with_no_room =
    wrong_at tt (asks held 131072 true) refl few (λ o. eqb o.outcome.number 0) refl refl

-- every request is taken for a conditional one: no error 205
pub getmain_served_4_if_unconditional : RuledOut (λ k. fits-Asks) getmain_served.Pre getmain_served.Post
    (λ k a. making (verdict_of true a) a.0 (outcome_of a))
unfolding tables_open
getmain_served_4_if_unconditional =
    wrong_at tt (asks held 131072 false) refl few (λ o. goes o.verdict) refl refl

-- the area is put in at 0, whatever address is answered: 104
abbrev at_zero : Option Address → Option Address
at_zero (Some p) = Some (address 0)
at_zero None = None

pub getmain_served_put_in_at_0 : RuledOut (λ k. fits-Asks) getmain_served.Pre getmain_served.Post
    (λ k a. answered a (but (outcome_of a) (λ u. (given (step_of a.0) (area_of a) (at_zero (place_of a))).tables)))
unfolding tables_open
getmain_served_put_in_at_0 =
    wrong_at tt (asks held 8 true) refl few
    (λ o. some (same_area (area 0 8 10 1)) (areas_in o.outcome.tables.storage)) refl refl

-- the address is told as the number of a task: 104
pub getmain_served_answers_a_number : RuledOut (λ k. fits-Asks) getmain_served.Pre getmain_served.Post
    (λ k a. answered a (retelling (outcome_of a)))
unfolding tables_open
getmain_served_answers_a_number =
    wrong_at tt (asks held 8 true) refl few (λ o. eqb (kind_of o.outcome.besides) 3) refl refl

-- the search, however many areas are in use
abbrev searched_verdict : Asks → Verdict
searched_verdict a =
    first_of
    (refuse OutOfRange (not (getmain_good a.1.1.0 a.1.1.1.0))
    ∷ fail NoStorage (not a.1.1.1.1.0 && is_nowhere (place_of a))
    ∷ [])

-- no 107: an address is answered with 128 areas in use
pub getmain_served_of_a_full_table : RuledOut (λ k. fits-Asks) getmain_served.Pre getmain_served.Post
    (λ k a. making (searched_verdict a) a.0 (outcome_of a))
unfolding tables_open
getmain_served_of_a_full_table = wrong_at tt (asks full 8 true) refl many (λ o. goes o.verdict) refl refl

-- FREEMAIN: a task frees so many bytes at 0 in subpool 10
abbrev Frees : Type 0
Frees = AllTables × (TaskNumber × (Address × (ℕ × (ℕ × Unit {0}))))

abbrev fits-Frees : Frees → Bool
fits-Frees = fits-AllTables ⊗ fits-TaskNumber ⊗ fits-Address ⊗ fits_u32 ⊗ fits_u8 ⊗ fits_end

abbrev frees : ℕ → ℕ → Frees
frees t bytes = (holding held, (task t, (address 0, (bytes, (10, tt)))))

-- the area that is named, and the verdict
abbrev named : Frees → Area
named a = area_at a.1.1.0.0 a.1.1.1.0 a.1.1.1.1.0 a.1.0.0

abbrev free_verdict : Frees → Verdict
free_verdict a = freemain_verdict (areas_in a.0.storage) a.1.0 a.1.1.0 a.1.1.1.0 a.1.1.1.1.0

-- with another test of what is named
abbrev freeing : (Area → Bool) → Frees → Made
freeing is a =
    let s = step_of a.0 in
    making
    (first_of
    (refuse OutOfRange (not (freemain_good a.1.1.0 a.1.1.1.0 a.1.1.1.1.0))
    ∷ fail NoSuchArea (not (some is s.areas))
    ∷ []))
    a.0 (done (with_areas s (keep (λ (x : Area). not (is x)) s.areas)))

-- it says 0 and leaves the area
pub freemain_served_and_left : RuledOut (λ k. fits-Frees) freemain_served.Pre freemain_served.Post
    (λ k a. making (free_verdict a) a.0 (done (step_of a.0)))
unfolding tables_open
freemain_served_and_left =
    wrong_at tt (frees 1 100) refl few (λ o. eqb o.outcome.tables.storage.count 1) refl refl

-- the length is not compared: who names the first 8 bytes frees all
pub freemain_served_a_part : RuledOut (λ k. fits-Frees) freemain_served.Pre freemain_served.Post
    (λ k a. freeing (λ (x : Area). eqb (start_of (named a)) (start_of x) && one_holder (named a) x) a)
unfolding tables_open
freemain_served_a_part = wrong_at tt (frees 1 8) refl few (λ o. goes o.verdict) refl refl

-- the length is not rounded, and 100 bytes do not match 104
pub freemain_served_not_rounded : RuledOut (λ k. fits-Frees) freemain_served.Pre freemain_served.Post
    (λ k a. freeing (same_area (area (start_of (named a)) a.1.1.1.0 (named a).subpool (named a).owner.0)) a)
unfolding tables_open
freemain_served_not_rounded = wrong_at tt (frees 1 100) refl few (λ o. not (goes o.verdict)) refl refl

-- whoever owns it: task 2 frees the area of task 1
pub freemain_served_of_another_task : RuledOut (λ k. fits-Frees) freemain_served.Pre freemain_served.Post
    (λ k a. freeing (λ (x : Area). is_named x.owner a.1.1.0 a.1.1.1.0 a.1.1.1.1.0 x) a)
unfolding tables_open
freemain_served_of_another_task = wrong_at tt (frees 2 100) refl few (λ o. goes o.verdict) refl refl
