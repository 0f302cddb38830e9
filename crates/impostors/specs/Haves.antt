-- ENQ WITH HAVE that is wrong in one thing, document 02 §3: what it does, and its verdict. Under the other RET kinds
-- each is as the rules have it.
use Rattle.std.specs.Prelude.{ℕ, ◌+◌, Bool, not, ◌&&◌, List, [], ◌∷◌, map, reverse, ltb, leb, length}
use Rattle.lists.specs.Lists.{keep, none}
use Rattle.lists.specs.Pick.{pick}
use Rattle.kinds.specs.Limits.{most_entries}
use Rattle.kinds.specs.declared.numbers.TaskNumber.{TaskNumber}
use Rattle.kinds.specs.declared.requests.Ret.{Ret}
use Rattle.kinds.specs.declared.requests.Ret.TheVariants.{None, Test, Use, Have, Chng}
use Rattle.kinds.specs.declared.replies.Refusal.TheVariants.{NoEntryFree}
use Rattle.kinds.specs.declared.replies.Fault.TheVariants.{DuplicateEnq}
use Rattle.rules.specs.Names.{Ask, Names, name_of, asks_system}
use Rattle.rules.specs.Control.{Entry, has_entry}
use Rattle.rules.specs.ResourceWaits.{requeued}
use Rattle.rules.specs.Tests.{refuse, fail, first_of}
use Rattle.rules.specs.Codes.{coded}
use Rattle.rules.specs.Steps.{Step, Outcome, Served, with_queue, done}
use Rattle.rules.specs.Enq.{enq_codes, enq_good, duplicated, to_queue, too_few_free, enq_codes_due, enq_verdict, with_tail}
use Rattle.rules.specs.Enq.{made_exclusive, enq_tail, only_if_zero, enq_done, enq_written}
use Rattle.impostors.specs.Verdicts.{Judge, bad, system, short, judged}

-- the one under HAVE, and else the other
abbrev pub if_have : {T : Type 0} → Ret → T → T → T
if_have None a b = b
if_have Test a b = b
if_have Use a b = b
if_have Have a b = a
if_have Chng a b = b

-- WHAT HAVE DOES: of the step, the caller and the names
abbrev pub Doing : Type 0
Doing = Step → ℕ → Names → Outcome Step

-- it leaves another step, with the answer that the codes give
abbrev leaving : (Step → ℕ → Names → Step) → Doing
leaving f s c l = coded (enq_codes Have s.queue c l) (f s c l)

-- it queues other asks
abbrev queueing : (List Entry → ℕ → Names → List Ask) → Doing
queueing asks = leaving (λ s c l. requeued s (with_tail s.queue c (asks s.queue c l)))

-- all or nothing, as document 01 alone would have it
abbrev pub all_or_nothing : Doing
all_or_nothing = leaving (λ s c l. only_if_zero (enq_codes Have s.queue c l) (enq_tail Have s c l) s)

-- the skipped are queued, and the others left out
abbrev pub skipped_queued : Doing
skipped_queued = queueing (λ q c l. keep (λ (a : Ask). has_entry q c a.name) l.asks)

-- nothing is skipped
abbrev pub skips_nothing : Doing
skips_nothing = queueing (λ q c l. l.asks)

-- the last name of the list comes first
abbrev pub last_first : Doing
last_first = queueing (λ q c l. reverse (to_queue Have q c l))

-- what is skipped and asked for exclusive becomes so
abbrev pub skipped_made_exclusive : Doing
skipped_made_exclusive =
    leaving (λ s c l.
    requeued s (with_tail
    (map (made_exclusive c (map name_of (keep (λ (a : Ask). a.exclusive) l.asks))) s.queue) c
    (to_queue Have s.queue c l)))

-- the caller is not made to wait
abbrev pub never_waits : Doing
never_waits = leaving (λ s c l. with_queue s (with_tail s.queue c (to_queue Have s.queue c l)))

-- 0 is answered, whatever the codes are
abbrev pub answers_zero : Doing
answers_zero s c l = done (enq_tail Have s c l)

-- ENQ that does so
abbrev pub enq_doing : Doing → Step → TaskNumber → Ret → Names → List ℕ → Served Step
enq_doing f s c ret l area =
    judged (enq_verdict s.queue c ret l (length area)) s c area (if_have ret (f s c.0 l) (enq_done s c ret l))
    (enq_written s.queue c ret l area)

-- ITS VERDICT, with another test for 105: of the entries, the caller and the names
abbrev pub full_by : (List Entry → ℕ → Names → Bool) → Judge Ret
full_by full q c ret l room =
    first_of
    (bad (enq_good ret l)
    ∷ system (asks_system l)
    ∷ short (enq_codes_due ret) room l
    ∷ fail DuplicateEnq (duplicated ret q c l)
    ∷ refuse NoEntryFree (if_have ret (full q c l) (too_few_free ret q c l))
    ∷ [])

-- the whole list is counted
abbrev pub whole_list : List Entry → ℕ → Names → Bool
whole_list q c l = not (none (to_queue Have q c l)) && ltb most_entries (length q + length l.asks)

-- no entry is free, and that is enough
abbrev pub none_free : List Entry → ℕ → Names → Bool
none_free q c l = pick (none (to_queue Have q c l)) (leb most_entries (length q)) (too_few_free Have q c l)
