-- THE LOWEST FIT, document 02 §4, worked by hand: what the search of all multiples of 8 finds, computed among the
-- candidates.
use Prim.Native.Nat.{ℕ, ◌+◌, ◌*◌}
use mathlib.Core.Path.{◌≡◌, refl, sym}
use mathlib.Core.List.{List, [], ◌∷◌, ◌++◌}
use native.Mathlib.Omega.{arith}
use lib.ListN.{length}
use Rattle.kinds.specs.Limits.{page, doubleword}
use Rattle.kinds.specs.declared.areas.Area.{Area}
use Rattle.std.specs.Prelude.{Option, Some, None}
use Rattle.kinds.specs.declared.numbers.Address.{Address}
use Rattle.rules.specs.Opened.{rules_open}
use Rattle.rules.specs.Storage.{lowest}
use Rattle.rules.specs.Getmain.{wanted}
use Rattle.rules.specs.HandCases.{area}
use Rattle.rules.specs.Table.{counted}
use Rattle.laws.specs.Candidates.{candidates}
use Rattle.laws.specs.LowestAmong.{lowest_among, lowest_among_lem}

-- 8 bytes of task 1 in subpool n + 1, at the start of page n
abbrev on_page : ℕ → Area
on_page n = area (page * n) doubleword (n + 1) 1

abbrev every_page : List Area
every_page = counted on_page 0 32

-- 8 more bytes of task 1 in a subpool
abbrev next8 : ℕ → Area
next8 subpool = wanted 8 subpool 1

abbrev at : ℕ → Option Address
at n = Some (record { 0 = n })

-- every page has an area of another subpool
pub subpool_33 : lowest every_page (next8 33) ≡ None
unfolding rules_open lowest_among candidates
subpool_33 = sym (lowest_among_lem every_page (next8 33) (omega arith) refl)

-- subpool 32 goes on behind its area in the last page
pub subpool_32 : lowest every_page (next8 32) ≡ at 126984
unfolding rules_open lowest_among candidates
subpool_32 = sym (lowest_among_lem every_page (next8 32) (omega arith) refl)

-- subpool 32 has its second area; page 5's was freed, and its start is free to all
abbrev behind5 : List Area
behind5 = counted on_page 6 26 ++ (area 126984 doubleword 32 1 ∷ [])

abbrev but_page5 : List Area
but_page5 = counted on_page 0 5 ++ behind5

pub page_5_freed : lowest but_page5 (next8 33) ≡ at 20480
unfolding rules_open lowest_among candidates
page_5_freed = sym (lowest_among_lem but_page5 (next8 33) (omega arith) refl)

-- subpool 33 has it, and there is no page for another
abbrev taken : List Area
taken = counted on_page 0 5 ++ (area 20480 doubleword 33 1 ∷ behind5)

pub subpool_34 : lowest taken (next8 34) ≡ None
unfolding rules_open lowest_among candidates
subpool_34 = sym (lowest_among_lem taken (next8 34) (omega arith) refl)

-- 127 areas of one holder without gaps: the next begins at the last end
abbrev packed : List Area
packed = counted (λ n. area (doubleword * n) doubleword 10 1) 0 127

pub after_127 : lowest packed (next8 10) ≡ at 1016
unfolding rules_open lowest_among candidates
after_127 = sym (lowest_among_lem packed (next8 10) (omega arith) refl)

-- without areas the candidates are the 32 page starts: 0 counts once, and the region's end does not
pub page_starts : length (candidates []) ≡ 32
unfolding candidates
page_starts = refl
