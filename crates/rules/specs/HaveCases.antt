-- HAVE GOES NAME BY NAME, document 02 §3, worked by hand: what the caller has an entry for is skipped and stays as it
-- is, the rest is queued in list order, and 105 counts the rest alone.
use Rattle.std.specs.Prelude.{ℕ, List, [], ◌∷◌, ◌++◌, pos, replicate}
use Rattle.std.specs.Prelude.{None as NoEcb}
use Rattle.kinds.specs.declared.tasks.Condition.TheVariants.{Ready, ResourceWait}
use Rattle.kinds.specs.declared.requests.Ret.TheVariants.{None, Use, Have, Chng}
use Rattle.kinds.specs.declared.requests.DeqRet.TheVariants.{None as DeqNone}
use Rattle.rules.specs.Names.{Resource}
use Rattle.rules.specs.Steps.{done}
use Rattle.rules.specs.Fresh.{fresh_of}
use Rattle.rules.specs.Table.{attach, enq, deq, counted, named, shr, exc, Line, Case}
use Rattle.rules.specs.Table.{◌⇒◌∣◌∣◌∣◌, ◌gives◌, ◌refused◌, Is, Lines, Unchanged, case}
use Rattle.rules.specs.HandCases.{x}
use Rattle.rules.specs.Examples.{y, z, filled, full_queue}
use Rattle.rules.specs.StuckCases.{w, owner, waiter}
use Rattle.rules.specs.SystemCases.{sysdsn}

-- 1 has x, shared, and asks for x, exclusive, for y, which 2 owns, and for z: it waits for y, so that it can't ask for
-- more, and has x shared as before; once 2 has released y it is ready and owns all three. Then all three are skipped,
-- whichever mode is asked for.
abbrev some_skipped : List Line
some_skipped =
    attach 1 0 (pos 0) NoEcb gives 2
    ∷ enq 1 None 0 (shr x ∷ []) gives 0
    ∷ enq 2 None 0 (exc y ∷ []) gives 0
    ∷ (enq 1 Have 4 (exc x ∷ exc y ∷ shr z ∷ []) ⇒ 4 ∣ 0 ∣ 8 ∷ 0 ∷ 0 ∷ [] ∣ Is 1 ResourceWait
    ∷ Lines (owner 0 1 (shr x) ∷ owner 1 2 (exc y) ∷ waiter 2 1 (exc y) ∷ owner 3 1 (shr z) ∷ []) ∷ [])
    ∷ enq 1 Have 1 (exc w ∷ []) refused 103
    ∷ (deq 2 DeqNone 0 (y ∷ []) ⇒ 0 ∣ 0 ∣ [] ∣ Is 1 Ready
    ∷ Lines (owner 0 1 (shr x) ∷ owner 1 1 (exc y) ∷ owner 2 1 (shr z) ∷ []) ∷ [])
    ∷ (enq 1 Have 3 (exc x ∷ shr y ∷ exc z ∷ []) ⇒ 4 ∣ 0 ∣ 8 ∷ 8 ∷ 8 ∷ [] ∣ Unchanged ∷ [])
    ∷ (enq 1 Have 1 (shr y ∷ []) ⇒ 4 ∣ 0 ∣ 8 ∷ [] ∣ Unchanged ∷ [])
    ∷ []

-- the first, one in the middle and the last are skipped, and the others come in list order, as they are asked for; all
-- of them are available, so 2, which shares z with 1, goes on. Then only the last is skipped, and 1 waits for x, which
-- comes behind what is available.
abbrev in_list_order : List Line
in_list_order =
    attach 1 0 (pos 0) NoEcb gives 2
    ∷ enq 1 None 0 (shr z ∷ []) gives 0
    ∷ enq 2 None 0 (shr z ∷ exc x ∷ exc y ∷ []) gives 0
    ∷ (enq 2 Have 6 (shr x ∷ shr w ∷ exc z ∷ exc (named 5 (1 ∷ [])) ∷ exc (named 4 (1 ∷ [])) ∷ exc y ∷ [])
    ⇒ 4 ∣ 0 ∣ 8 ∷ 0 ∷ 8 ∷ 0 ∷ 0 ∷ 8 ∷ [] ∣ Is 2 Ready
    ∷ Lines (owner 0 1 (shr z) ∷ owner 1 2 (shr z) ∷ owner 2 2 (exc x) ∷ owner 3 2 (exc y) ∷ owner 4 2 (shr w)
    ∷ owner 5 2 (exc (named 5 (1 ∷ []))) ∷ owner 6 2 (exc (named 4 (1 ∷ []))) ∷ []) ∷ [])
    ∷ (enq 1 Have 3 (shr w ∷ shr x ∷ shr z ∷ []) ⇒ 4 ∣ 0 ∣ 0 ∷ 0 ∷ 8 ∷ [] ∣ Is 1 ResourceWait ∷ Is 2 Ready
    ∷ Lines (owner 0 1 (shr z) ∷ owner 1 2 (shr z) ∷ owner 2 2 (exc x) ∷ waiter 8 1 (shr x) ∷ owner 3 2 (exc y)
    ∷ owner 4 2 (shr w) ∷ owner 7 1 (shr w) ∷ owner 5 2 (exc (named 5 (1 ∷ [])))
    ∷ owner 6 2 (exc (named 4 (1 ∷ []))) ∷ []) ∷ [])
    ∷ []

-- 101, 110 and 104 look at the whole list, also where the rest alone would pass; USE skips nothing; and where nothing
-- is skipped all come in list order
abbrev whole_list : List Line
whole_list =
    enq 1 None 0 (shr x ∷ []) gives 0
    ∷ enq 1 Have 2 (shr x ∷ shr x ∷ []) refused 101
    ∷ enq 1 Have 2 (shr x ∷ shr (named 88 []) ∷ []) refused 101
    ∷ enq 1 Have 2 (shr x ∷ shr sysdsn ∷ []) refused 110
    ∷ enq 1 Have 1 (shr x ∷ exc y ∷ []) refused 104
    ∷ enq 1 Have 0 (shr x ∷ []) refused 104
    ∷ (enq 1 Use 2 (shr x ∷ exc y ∷ []) ⇒ 4 ∣ 0 ∣ 8 ∷ 0 ∷ [] ∣ Unchanged ∷ [])
    ∷ (enq 1 Have 2 (shr x ∷ exc y ∷ []) ⇒ 4 ∣ 0 ∣ 8 ∷ 0 ∷ [] ∣ Is 1 Ready
    ∷ Lines (owner 0 1 (shr x) ∷ owner 1 1 (exc y) ∷ []) ∷ [])
    ∷ (enq 1 Have 2 (exc z ∷ shr w ∷ []) ⇒ 0 ∣ 0 ∣ 0 ∷ 0 ∷ [] ∣ Is 1 Ready
    ∷ Lines (owner 0 1 (shr x) ∷ owner 1 1 (exc y) ∷ owner 2 1 (exc z) ∷ owner 3 1 (shr w) ∷ []) ∷ [])
    ∷ []

-- the names that task 1 has where the queue is full or nearly so
abbrev held : ℕ → Resource
held k = named k (0 ∷ [])

-- 127 entries are queued: two that are not held are one too many, whatever else is asked for; one has room, though the
-- whole list would have none. Then no entry is free: who skips all needs none.
abbrev nearly_full : List Line
nearly_full =
    enq 1 Have 3 (exc (held 1) ∷ exc x ∷ exc y ∷ []) refused 105
    ∷ enq 1 Have 16 (counted (λ k. exc (held k)) 1 14 ++ (exc x ∷ exc y ∷ [])) refused 105
    ∷ enq 1 Have 2 (exc x ∷ exc y ∷ []) refused 105
    ∷ (enq 1 Have 3 (exc (held 1) ∷ exc (held 127) ∷ exc x ∷ []) ⇒ 4 ∣ 0 ∣ 8 ∷ 8 ∷ 0 ∷ [] ∣ Is 1 Ready ∷ [])
    ∷ (enq 1 Have 3 (exc (held 1) ∷ exc x ∷ shr (held 127) ∷ []) ⇒ 4 ∣ 0 ∣ 8 ∷ 8 ∷ 8 ∷ [] ∣ Unchanged ∷ [])
    ∷ (enq 1 Have 16 (counted (λ k. shr (held k)) 1 16) ⇒ 4 ∣ 0 ∣ replicate 16 8 ∣ Unchanged ∷ [])
    ∷ enq 1 Have 2 (exc (held 1) ∷ exc y ∷ []) refused 105
    ∷ (enq 1 Use 2 (exc (held 1) ∷ exc y ∷ []) ⇒ 4 ∣ 0 ∣ 8 ∷ 0 ∷ [] ∣ Unchanged ∷ [])
    ∷ []

-- 128 entries are queued: CHNG, and a USE with the code 4, queue nothing; a name that another has, and that is not
-- available, counts like any that is not held; 104 goes before 105
abbrev where_full : List Line
where_full =
    (enq 1 Chng 1 (exc x ∷ []) ⇒ 4 ∣ 0 ∣ 8 ∷ [] ∣ Unchanged ∷ [])
    ∷ attach 1 0 (pos 0) NoEcb gives 2
    ∷ (enq 2 Use 1 (shr (held 1) ∷ []) ⇒ 4 ∣ 0 ∣ 4 ∷ [] ∣ Unchanged ∷ [])
    ∷ enq 2 Have 1 (shr (held 1) ∷ []) refused 105
    ∷ enq 2 Have 0 (shr (held 1) ∷ []) refused 104
    ∷ []

abbrev pub have_cases : List Case
have_cases =
    case (fresh_of 200 150) some_skipped
    ∷ case (fresh_of 200 150) in_list_order
    ∷ case (fresh_of 200 150) whole_list
    ∷ case (done (filled 127)) nearly_full
    ∷ case (done full_queue) where_full
    ∷ []
