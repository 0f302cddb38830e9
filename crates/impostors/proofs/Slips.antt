-- EACH SLIP IS CAUGHT by the case that we paid for: no service that makes it meets the contract of `serve`.
use Prim.Native.Nat.{ℕ}
use mathlib.Core.Path.{◌≡◌, refl}
use mathlib.Core.Bool.{Bool, true, not, ◌&&◌}
use mathlib.Core.List.{[], ◌∷◌}
use lib.Dec.{eqb}
use Rattle.kinds.specs.Replies.{value_of}
use Rattle.kinds.specs.Tasks.{in_resource_wait}
use Rattle.kinds.specs.declared.requests.Request.TheVariants.{Detach}
use Rattle.kinds.specs.declared.requests.DeqRet.TheVariants.{None as DeqNone}
use Rattle.rules.specs.Steps.{Served}
use Rattle.rules.specs.Table.{exc}
use Rattle.rules.specs.Family.{condition_of}
use Rattle.rules.specs.Events.{ecb_at}
use Rattle.history.specs.Samples.{start, x}
use Rattle.services.specs.declared.Tables.{Tables}
use Rattle.impostors.specs.Opened.{tables_open}
use Rattle.impostors.specs.Impostors.{Given, Service, Caught, caught, on}
use Rattle.impostors.specs.Slips.{SlipsCaught, doing, joining, holding_back, waking_early, replacing, joins_owners}
use Rattle.impostors.specs.Slips.{forgets_held_back, wakes_at_first_grant, replaces_code, judges_first_page}
use Rattle.impostors.specs.Slips.{reuses_nothing}
use Rattle.impostors.specs.Samples.{Asking, task, alone, deq, post, getmain, freemain, after, shared_by_two, fifth}
use Rattle.impostors.specs.Samples.{behind_four, both_asked, posted_once, one_area, mid_page}

-- task n is in a resource wait
abbrev waits : ℕ → Tables → Bool
waits n t = in_resource_wait (condition_of t.all.tasks.places n)

-- What is answered is computed first, without the other service; antt then need not carry that along.

-- CASE 1: 2 and 3 share x, 4 waits for it exclusive, and 5 asks for it shared: it has to wait behind 4
abbrev fifth_asks : Given
fifth_asks = on (after start shared_by_two) fifth

goes_past : not (waits 5 (doing fifth_asks (joining fifth)).outcome.tables) ≡ true
unfolding tables_open
goes_past = refl

pub joining_caught : (f : Service) → Caught (joins_owners f)
unfolding tables_open
joining_caught f = caught (joins_owners f) fifth_asks refl (λ o. not (waits 5 o.outcome.tables)) goes_past refl

-- CASE 4: then 4 is detached, and 5 owns x with 2 and 3
abbrev detach_4 : Asking
detach_4 = alone (Detach (task 1) (task 4))

still_waits : waits 5 (doing (on (after start behind_four) detach_4) (holding_back detach_4)).outcome.tables ≡ true
unfolding tables_open
still_waits = refl

pub held_back_caught : (f : Service) → Caught (forgets_held_back f)
unfolding tables_open
held_back_caught f =
    caught (forgets_held_back f) (on (after start behind_four) detach_4) refl
    (λ o. waits 5 o.outcome.tables) still_waits
    refl

-- 4 waits for x and y: when 2 gives x back, it still waits for y
abbrev deq_x : Asking
deq_x = deq 2 DeqNone 0 (exc x ∷ [])

goes_on_early : not (waits 4 (doing (on (after start both_asked) deq_x) (waking_early deq_x)).outcome.tables) ≡ true
unfolding tables_open
goes_on_early = refl

pub first_grant_caught : (f : Service) → Caught (wakes_at_first_grant f)
unfolding tables_open
first_grant_caught f =
    caught (wakes_at_first_grant f) (on (after start both_asked) deq_x) refl
    (λ o. not (waits 4 o.outcome.tables)) goes_on_early refl

-- ECB 3 is complete with 5, and is posted with 7: its code stays 5
abbrev has_7 : Served Tables → Bool
has_7 o = eqb (ecb_at o.outcome.tables.all.ecbs.ecbs 3).code 7

replaced : has_7 (doing (on (after start posted_once) (post 1 3 7)) (replacing (post 1 3 7) 3)) ≡ true
unfolding tables_open
replaced = refl

pub replacing_caught : (f : Service) → Caught (replaces_code f)
unfolding tables_open
replacing_caught f = caught (replaces_code f) (on (after start posted_once) (post 1 3 7)) refl has_7 replaced refl

-- 5,000 bytes of subpool 10 at 0 would touch page 1, which holds an area of subpool 5: they are given 8192
pub first_page_caught : (f : Service) → Caught (judges_first_page f)
unfolding tables_open
first_page_caught f =
    caught (judges_first_page f) (on (after start mid_page) (getmain 1 5000 10)) refl
    (λ o. eqb (value_of o.outcome.besides) 0 && eqb o.outcome.number 0) refl refl

-- the one area is freed: none is left
pub reusing_nothing_caught : (f : Service) → Caught (reuses_nothing f)
unfolding tables_open
reusing_nothing_caught f =
    caught (reuses_nothing f) (on (after start one_area) (freemain 1 0 100 10)) refl
    (λ o. not (eqb o.outcome.tables.all.storage.count 0)) refl refl

pub slips_caught : SlipsCaught
slips_caught = record {
  joining = joining_caught;
  held_back = held_back_caught;
  first_grant = first_grant_caught;
  replacing = replacing_caught;
  first_page = first_page_caught;
  reusing_nothing = reusing_nothing_caught;
}
