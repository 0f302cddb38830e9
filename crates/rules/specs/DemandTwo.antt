-- DEMAND 2, its statement: "Each service answers, and leaves the tables, as the OS/VS2 supervisor book GC28-0683 says,
-- in the condensed rules of document 01. With a place left in the area table, a sound request for storage is refused
-- only when no permitted address exists; otherwise the lowest one is given."
use Rattle.std.specs.Prelude.{ℕ, ◌%◌, ◌<◌, ◌≡◌, Bool, true, false, List, length}
use Rattle.kinds.specs.Limits.{most_areas, doubleword}
use Rattle.kinds.specs.Replies.{fault_number}
use Rattle.kinds.specs.Replies.Besides.{NoValue, TheAddress}
use Rattle.kinds.specs.declared.areas.Area.{Area}
use Rattle.kinds.specs.declared.numbers.TaskNumber.{TaskNumber}
use Rattle.kinds.specs.declared.numbers.Address.{Address}
use Rattle.kinds.specs.declared.replies.Fault.TheVariants.{NoStorage}
use Rattle.kinds.specs.declared.requests.Request.TheVariants.{Getmain}
use Rattle.rules.specs.Storage.{permitted, placed_at}
use Rattle.rules.specs.Steps.{Step, Outcome, Served, kept_by}
use Rattle.rules.specs.Sound.{sound_step}
use Rattle.rules.specs.Getmain.{sound_request, wanted}
use Rattle.rules.specs.Serve.{Asked, service_of, serve_of}

-- a "permitted address": "a multiple of 8 at which the area lies in the region, meets no area, and touches no page that
-- holds an area of another owner or subpool"
pub record Room (l : List Area) (a : Area) (s : ℕ) : Type 0 where
  pub aligned : s % doubleword ≡ 0
  pub permits : permitted l (placed_at a s) ≡ true

-- "If none exists: answer 4 .. when conditional, error 205 when not."
abbrev pub no_room_number : Bool → ℕ
no_room_number true = 4
no_room_number false = fault_number NoStorage

-- o answers 0, and besides an address that has room for area a beside the areas l, and below which none has
pub record LowestGiven (T : Type 0) (l : List Area) (a : Area) (o : Outcome T) : Type 0 where
  pub address : Address
  pub answered : o.number ≡ 0
  pub besides : o.besides ≡ TheAddress address
  pub here : Room l a address.0
  pub below : (s : ℕ) → s < address.0 → Room l a s → ⊥

-- o answers a request for area a beside the areas l
pub record Answers (T : Type 0) (l : List Area) (a : Area) (conditional : Bool) (o : Outcome T) : Type 0 where
  -- where no permitted address exists: 4 or 205, and 0 besides
  pub without : ((p : ℕ) → Room l a p → ⊥) → (o.number ≡ no_room_number conditional) × (o.besides ≡ NoValue)
  -- "is refused only when no permitted address exists"
  pub only : (o.number ≡ 0 → ⊥) → (p : ℕ) → Room l a p → ⊥
  -- "otherwise the lowest one is given"
  pub lowest_given : (p : ℕ) → Room l a p → LowestGiven T l a o

-- what is promised of an answer r to a request a on tables that stand for the step s, are sound or not as `sound`
-- tells, and keep a step as `kept` says
module _ (T : Type 0) (sound : Bool) (s : Step) (kept : Step → T) (a : Asked) (r : Served T) where
  -- what document 01 says, with what has landed of document 02
  abbrev pub ruled : Served Step
  ruled = service_of s a.request a.names a.ecbs a.area

  pub record Demand2 : Type 0 where
    -- "Each service answers, and leaves the tables, as .. the condensed rules of document 01"
    pub answers : sound ≡ true → r ≡ record { outcome = kept_by kept ruled.outcome; codes = ruled.codes }
    -- "With a place left in the area table, a sound request for storage .."
    pub storage : (c : TaskNumber) (bytes subpool : ℕ) (conditional : Bool)
        → a.request ≡ Getmain c bytes subpool conditional
        → sound_request sound s c bytes subpool ≡ true → length s.areas < most_areas
        → Answers T s.areas (wanted bytes subpool c.0) conditional r.outcome

-- THE DEMAND, of the rules; that of the code is in services and, of every call, in calls
abbrev pub DemandTwo : Type 0
DemandTwo = (s : Step) (a : Asked) → Demand2 Step (sound_step s) s (λ t. t) a (serve_of s a)
