-- THE REPORTS of document 02 §1, worked by hand: rings of two and of three, rings that share a task, tasks behind a
-- ring, and what the two lists say of them.
use Rattle.std.specs.Prelude.{ℕ, ◌+◌, true, false, List, [], ◌∷◌, ◌++◌, pos}
use Rattle.std.specs.Prelude.{None as NoEcb}
use Rattle.kinds.specs.declared.requests.Ret.TheVariants.{None}
use Rattle.rules.specs.Names.{Resource, Ask}
use Rattle.rules.specs.Fresh.{fresh_of}
use Rattle.rules.specs.Enq.{entry_for}
use Rattle.rules.specs.Reports.{StuckTask, Standing}
use Rattle.rules.specs.Table.{attach, detach, abend_step, enq, wait, dispatch, counted, named, shr, exc, Line}
use Rattle.rules.specs.Table.{◌⇒◌∣◌∣◌∣◌, ◌gives◌, WaitsFor, Passes, Stuck, Lines, NoReport, Over, Case, case}
use Rattle.rules.specs.HandCases.{x}
use Rattle.rules.specs.Steps.{done}
use Rattle.rules.specs.Examples.{y, z, full_queue}

abbrev pub w : Resource
w = named 87 (3 ∷ [])

-- a line of the first list: the task, the place of its entry, the entry's name, the partner
abbrev stuck_by : ℕ → ℕ → Resource → ℕ → StuckTask
stuck_by task place name partner = record { task = task; place = place; name = name; partner = partner }

-- lines of the second: the place, the task, what it asked for
abbrev pub owner : ℕ → ℕ → Ask → Standing
owner place task a = record { place = place; entry = entry_for task a; owner = true }

abbrev pub waiter : ℕ → ℕ → Ask → Standing
waiter place task a = record { place = place; entry = entry_for task a; owner = false }

-- tasks 2 to n + 1, daughters of task 1
abbrev daughters : ℕ → List Line
daughters n = counted (λ k. attach 1 0 (pos 0) NoEcb gives k) 2 n

-- a task queues for these names
abbrev queues_for : ℕ → List Ask → Line
queues_for t l = enq t None 0 l gives 0

-- 2 and 3 wait for each other, 4 stands behind both. While nobody waits nobody is stuck, and while only 2 waits. Once 2
-- is detached there is no ring.
abbrev ring_of_two : List Line
ring_of_two =
    daughters 3 ++ (dispatch ⇒ 0 ∣ 1 ∣ [] ∣ Stuck [] ∷ Lines [] ∷ [])
    ∷ (enq 2 None 0 (exc x ∷ []) ⇒ 0 ∣ 0 ∣ [] ∣ Stuck [] ∷ Lines (owner 0 2 (exc x) ∷ []) ∷ [])
    ∷ queues_for 3 (exc y ∷ [])
    ∷ (enq 2 None 0 (exc y ∷ []) ⇒ 0 ∣ 0 ∣ [] ∣ Stuck [] ∷ [])
    ∷ (enq 3 None 0 (exc x ∷ []) ⇒ 0 ∣ 0 ∣ [] ∣ Stuck (stuck_by 2 2 y 3 ∷ stuck_by 3 3 x 2 ∷ []) ∷ [])
    ∷ (enq 4 None 0 (exc x ∷ []) ⇒ 0 ∣ 0 ∣ [] ∣ WaitsFor 4 2 ∷ WaitsFor 4 3
    ∷ Stuck (stuck_by 2 2 y 3 ∷ stuck_by 3 3 x 2 ∷ [])
    ∷ Lines (owner 0 2 (exc x) ∷ waiter 3 3 (exc x) ∷ waiter 4 4 (exc x) ∷ owner 1 3 (exc y) ∷ waiter 2 2 (exc y)
    ∷ []) ∷ [])
    ∷ (detach 1 2 ⇒ 0 ∣ 0 ∣ [] ∣ Stuck []
    ∷ Lines (owner 0 3 (exc y) ∷ owner 1 3 (exc x) ∷ waiter 2 4 (exc x) ∷ []) ∷ [])
    ∷ []

-- 2 waits for 3, 3 for 4, 4 for 2. A step that is over has no report.
abbrev ring_of_three : List Line
ring_of_three =
    daughters 3 ++ queues_for 2 (exc x ∷ [])
    ∷ queues_for 3 (exc y ∷ [])
    ∷ queues_for 4 (exc z ∷ [])
    ∷ queues_for 2 (exc y ∷ [])
    ∷ queues_for 3 (exc z ∷ [])
    ∷ (enq 4 None 0 (exc x ∷ []) ⇒ 0 ∣ 0 ∣ [] ∣ Stuck (stuck_by 2 3 y 3 ∷ stuck_by 3 4 z 4 ∷ stuck_by 4 5 x 2 ∷ [])
    ∷ Lines (owner 0 2 (exc x) ∷ waiter 5 4 (exc x) ∷ owner 1 3 (exc y) ∷ waiter 3 2 (exc y) ∷ owner 2 4 (exc z)
    ∷ waiter 4 3 (exc z) ∷ []) ∷ [])
    ∷ (abend_step 1 7 ⇒ 0 ∣ 0 ∣ [] ∣ Over 7 ∷ NoReport 108 ∷ [])
    ∷ []

-- 2 waits for 3 and for 4, by one request, and each of them for 2
abbrev rings_sharing : List Line
rings_sharing =
    daughters 3 ++ queues_for 2 (exc x ∷ exc w ∷ [])
    ∷ queues_for 3 (exc y ∷ [])
    ∷ queues_for 4 (exc z ∷ [])
    ∷ queues_for 2 (exc z ∷ exc y ∷ [])
    ∷ queues_for 3 (exc x ∷ [])
    ∷ (enq 4 None 0 (exc w ∷ []) ⇒ 0 ∣ 0 ∣ [] ∣ Passes 3 4 ∷ Passes 4 3
    ∷ Stuck (stuck_by 2 4 z 4 ∷ stuck_by 3 6 x 2 ∷ stuck_by 4 7 w 2 ∷ []) ∷ [])
    ∷ []

-- 2 waits first for 5, who is not stuck, and then, in the same request, for 5 and 3 at once: the line has the second
-- name, and 3
abbrev behind_others : List Line
behind_others =
    daughters 4 ++ queues_for 2 (exc x ∷ [])
    ∷ queues_for 5 (exc w ∷ shr y ∷ [])
    ∷ queues_for 3 (shr y ∷ [])
    ∷ queues_for 2 (exc w ∷ exc y ∷ [])
    ∷ (enq 3 None 0 (shr x ∷ []) ⇒ 0 ∣ 0 ∣ [] ∣ WaitsFor 2 5 ∷ Stuck (stuck_by 2 5 y 3 ∷ stuck_by 3 6 x 2 ∷ [])
    ∷ Lines (owner 0 2 (exc x) ∷ waiter 6 3 (shr x) ∷ owner 1 5 (exc w) ∷ waiter 4 2 (exc w) ∷ owner 2 5 (shr y)
    ∷ owner 3 3 (shr y) ∷ waiter 5 2 (exc y) ∷ []) ∷ [])
    ∷ []

-- 3 owns y shared, 4 waits for it, and 2, shared too, waits for 4 there and not for 3, though 3 is stuck, stands first,
-- and is waited for by 2 at z
abbrev shared_before_shared : List Line
shared_before_shared =
    daughters 3 ++ queues_for 2 (exc x ∷ [])
    ∷ queues_for 3 (shr y ∷ exc z ∷ [])
    ∷ queues_for 4 (exc y ∷ [])
    ∷ queues_for 2 (shr y ∷ shr z ∷ [])
    ∷ (enq 3 None 0 (exc x ∷ []) ⇒ 0 ∣ 0 ∣ [] ∣ WaitsFor 2 3
    ∷ Stuck (stuck_by 2 4 y 4 ∷ stuck_by 3 6 x 2 ∷ stuck_by 4 3 y 3 ∷ [])
    ∷ Lines (owner 0 2 (exc x) ∷ waiter 6 3 (exc x) ∷ owner 1 3 (shr y) ∷ waiter 3 4 (exc y) ∷ waiter 4 2 (shr y)
    ∷ owner 2 3 (exc z) ∷ waiter 5 2 (shr z) ∷ []) ∷ [])
    ∷ []

-- 3 and then 2, both shared, wait for 5 at y, and 3 for 2 at x: with a step from 2 to 3 it would be a ring
abbrev shared_bars_nobody : List Line
shared_bars_nobody =
    daughters 4 ++ queues_for 2 (exc x ∷ [])
    ∷ queues_for 5 (exc y ∷ [])
    ∷ queues_for 3 (shr y ∷ exc x ∷ [])
    ∷ (enq 2 None 0 (shr y ∷ []) ⇒ 0 ∣ 0 ∣ [] ∣ WaitsFor 2 5 ∷ WaitsFor 3 2 ∷ Passes 2 3 ∷ Stuck [] ∷ [])
    ∷ []

-- 3 owns x; 2, 4 and 5, for whom 3 waits, come after each other for it: each has 3 for its partner, who stands first
abbrev earliest_ahead : List Line
earliest_ahead =
    daughters 4 ++ queues_for 3 (exc x ∷ [])
    ∷ queues_for 2 (exc y ∷ [])
    ∷ queues_for 4 (exc z ∷ [])
    ∷ queues_for 5 (exc w ∷ [])
    ∷ queues_for 3 (exc y ∷ exc z ∷ exc w ∷ [])
    ∷ queues_for 2 (exc x ∷ [])
    ∷ queues_for 4 (exc x ∷ [])
    ∷ (enq 5 None 0 (exc x ∷ []) ⇒ 0 ∣ 0 ∣ [] ∣ WaitsFor 5 4
    ∷ Stuck (stuck_by 2 7 x 3 ∷ stuck_by 3 4 y 2 ∷ stuck_by 4 8 x 3 ∷ stuck_by 5 9 x 3 ∷ []) ∷ [])
    ∷ []

-- a ring of four, on which the job step task is
abbrev ring_of_four : List Line
ring_of_four =
    daughters 3 ++ queues_for 1 (exc x ∷ [])
    ∷ queues_for 2 (exc y ∷ [])
    ∷ queues_for 3 (exc z ∷ [])
    ∷ queues_for 4 (exc w ∷ [])
    ∷ queues_for 1 (exc y ∷ [])
    ∷ queues_for 2 (exc z ∷ [])
    ∷ queues_for 3 (exc w ∷ [])
    ∷ (enq 4 None 0 (exc x ∷ []) ⇒ 0 ∣ 0 ∣ [] ∣
    Stuck (stuck_by 1 4 y 2 ∷ stuck_by 2 5 z 3 ∷ stuck_by 3 6 w 4 ∷ stuck_by 4 7 x 1 ∷ []) ∷ [])
    ∷ []

-- three names, of which two have one major part and two one minor part; who waits on an ECB is not stuck
abbrev names_alike : List Line
names_alike =
    daughters 3 ++ queues_for 2 (exc x ∷ [])
    ∷ queues_for 3 (exc (named 88 (2 ∷ [])) ∷ [])
    ∷ queues_for 4 (exc (named 89 (1 ∷ [])) ∷ [])
    ∷ (wait 3 1 (5 ∷ []) gives 0)
    ∷ (enq 2 None 0 (exc (named 88 (2 ∷ [])) ∷ []) ⇒ 0 ∣ 0 ∣ [] ∣ WaitsFor 2 3 ∷ Stuck []
    ∷ Lines (owner 0 2 (exc x) ∷ owner 1 3 (exc (named 88 (2 ∷ []))) ∷ waiter 3 2 (exc (named 88 (2 ∷ [])))
    ∷ owner 2 4 (exc (named 89 (1 ∷ []))) ∷ []) ∷ [])
    ∷ []

-- 2 and 3 are on one ring, 4 and 5 on another; 2 waits for 4 as well, first, so 4 is its partner
abbrev partner_elsewhere : List Line
partner_elsewhere =
    daughters 4 ++ queues_for 2 (exc x ∷ [])
    ∷ queues_for 3 (exc y ∷ [])
    ∷ queues_for 4 (exc z ∷ [])
    ∷ queues_for 5 (exc w ∷ [])
    ∷ queues_for 4 (exc w ∷ [])
    ∷ queues_for 2 (shr z ∷ shr y ∷ [])
    ∷ queues_for 3 (exc x ∷ [])
    ∷ (enq 5 None 0 (shr z ∷ []) ⇒ 0 ∣ 0 ∣ [] ∣ Passes 4 2 ∷ Passes 5 2
    ∷ Stuck (stuck_by 2 5 z 4 ∷ stuck_by 3 7 x 2 ∷ stuck_by 4 4 w 5 ∷ stuck_by 5 8 z 4 ∷ [])
    ∷ Lines (owner 0 2 (exc x) ∷ waiter 7 3 (exc x) ∷ owner 1 3 (exc y) ∷ waiter 6 2 (shr y) ∷ owner 2 4 (exc z)
    ∷ waiter 5 2 (shr z) ∷ waiter 8 5 (shr z) ∷ owner 3 5 (exc w) ∷ waiter 4 4 (exc w) ∷ []) ∷ [])
    ∷ []

-- the highest task is on the ring
abbrev ring_of_last : List Line
ring_of_last =
    daughters 31 ++ queues_for 32 (exc x ∷ [])
    ∷ queues_for 31 (exc y ∷ [])
    ∷ queues_for 32 (exc y ∷ [])
    ∷ (enq 31 None 0 (exc x ∷ []) ⇒ 0 ∣ 0 ∣ [] ∣ Stuck (stuck_by 31 3 x 32 ∷ stuck_by 32 2 y 31 ∷ []) ∷ [])
    ∷ []

-- 128 entries: as many items
abbrev longest_list : List Line
longest_list =
    (dispatch ⇒ 0 ∣ 1 ∣ [] ∣ Lines (counted (λ k. owner k 1 (exc (named (k + 1) (0 ∷ [])))) 0 128) ∷ []) ∷ []

abbrev pub stuck_cases : List Case
stuck_cases =
    case (fresh_of 200 150) ring_of_two
    ∷ case (fresh_of 200 150) ring_of_three
    ∷ case (fresh_of 200 150) rings_sharing
    ∷ case (fresh_of 200 150) behind_others
    ∷ case (fresh_of 200 150) shared_before_shared
    ∷ case (fresh_of 200 150) shared_bars_nobody
    ∷ case (fresh_of 200 150) earliest_ahead
    ∷ case (fresh_of 200 150) ring_of_four
    ∷ case (fresh_of 200 150) names_alike
    ∷ case (fresh_of 200 150) partner_elsewhere
    ∷ case (fresh_of 200 150) ring_of_last
    ∷ case (done full_queue) longest_list
    ∷ []
