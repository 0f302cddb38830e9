-- What each effect makes of a queue, and which one a program error has.
use mathlib.Core.Path.{◌≡◌, refl, ap, ◌∙◌}
use mathlib.Core.Bool.{Bool, true, false, not}
use mathlib.Core.List.{List, ◌++◌, map, map-id, append-nil}
use Prim.Native.Nat.{ℕ}
use Rattle.lists.specs.Lists.{keep}
use Rattle.lists.specs.Keeping.{keep_all}
use Rattle.kinds.specs.Replies.{fault_number, is_fault}
use Rattle.kinds.specs.declared.replies.Fault.{Fault}
use Rattle.kinds.specs.declared.replies.Fault.TheVariants.{DuplicateEnq, DeqWithoutEntry, AlreadyWaitedOn}
use Rattle.kinds.specs.declared.replies.Fault.TheVariants.{CountTooLarge, NoStorage, NoSuchArea}
use Rattle.kinds.specs.declared.replies.Fault.TheVariants.{HasSubtasks, NotSubtask}
use Rattle.rules.specs.Names.{Resource, Ask}
use Rattle.rules.specs.Control.{Entry}
use Rattle.rules.specs.Enq.{entry_for, made_exclusive}
use Rattle.rules.specs.Deq.{released}
use Rattle.rules.specs.Form.{caller_of}
use Rattle.rules.specs.Reading.{Turn, Effect, NoEffect, Queues, Releases, Changes, Ends, Attaches}
use Rattle.rules.specs.Reading.{takes, makes_of, after, mother_in, ends_with, Reading, effect_of}

-- those that some do not end
abbrev pub outlives : (ℕ → Bool) → Entry → Bool
outlives who e = not (who e.task)

all : (q : List Entry) → map (λ (e : Entry). e) (keep (λ (e : Entry). true) q) ≡ q
all q = map-id (keep (λ (e : Entry). true) q) ∙ keep_all q

pub idles : (q : List Entry) → after NoEffect q ≡ q
idles q = append-nil (map (λ (e : Entry). e) (keep (λ (e : Entry). true) q)) ∙ all q

pub queues : (t : ℕ) (asks : List Ask) (q : List Entry) → after (Queues t asks) q ≡ q ++ map (entry_for t) asks
queues t asks q = ap (λ (k : List Entry). k ++ map (entry_for t) asks) (all q)

pub releases : (t : ℕ) (ns : List Resource) (q : List Entry) → after (Releases t ns) q ≡ released t ns q
releases t ns q = append-nil (map (λ (e : Entry). e) (released t ns q)) ∙ map-id (released t ns q)

pub changes : (t : ℕ) (ns : List Resource) (q : List Entry) → after (Changes t ns) q ≡ map (made_exclusive t ns) q
changes t ns q =
    append-nil (map (made_exclusive t ns) (keep (λ (e : Entry). true) q)) ∙ ap (map (made_exclusive t ns)) (keep_all q)

pub ends : (who : ℕ → Bool) (q : List Entry) → after (Ends who) q ≡ keep (outlives who) q
ends who q = append-nil (map (λ (e : Entry). e) (keep (outlives who) q)) ∙ map-id (keep (outlives who) q)

-- WHOSE ENTRY IT IS, and for which name

abbrev pub entry_as : ℕ → Resource → Entry
entry_as t n = record { task = t; exclusive = false; name = n }

-- no effect changes that
pub makes_same : (ev : Effect) (e : Entry)
    → entry_as (makes_of ev e).task (makes_of ev e).name ≡ entry_as e.task e.name
unfolding made_exclusive
makes_same NoEffect e = refl
makes_same (Queues t asks) e = refl
makes_same (Releases t ns) e = refl
makes_same (Changes t ns) e = refl
makes_same (Ends who) e = refl
makes_same (Attaches m n) e = refl

-- and what is taken hangs on that alone
pub takes_by : (ev : Effect) (e : Entry) → takes ev e ≡ takes ev (entry_as e.task e.name)
takes_by NoEffect e = refl
takes_by (Queues t asks) e = refl
takes_by (Releases t ns) e = refl
takes_by (Changes t ns) e = refl
takes_by (Ends who) e = refl
takes_by (Attaches m n) e = refl

-- A PROGRAM ERROR

is_fault_lem : (what : Fault) → is_fault (fault_number what) ≡ true
is_fault_lem DuplicateEnq = refl
is_fault_lem DeqWithoutEntry = refl
is_fault_lem AlreadyWaitedOn = refl
is_fault_lem CountTooLarge = refl
is_fault_lem NoStorage = refl
is_fault_lem NoSuchArea = refl
is_fault_lem HasSubtasks = refl
is_fault_lem NotSubtask = refl

-- it ends the caller, and all below
pub fault_effect : (r : Reading) (u : Turn) (what : Fault) → u.number ≡ fault_number what
    → effect_of r u ≡ Ends (ends_with (mother_in r.links) (caller_of u.request))
fault_effect r u what z = rw (z, is_fault_lem what)
