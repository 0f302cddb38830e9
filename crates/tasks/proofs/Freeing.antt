-- A task and all below it end: its place first, then its subtasks.
use mathlib.Core.Path.{◌≡◌, refl, sym, ◌∙◌}
use mathlib.Core.Logic.{◌⊎◌, inl, inr, ⊎_elim}
use mathlib.Core.Bool.{true, false}
use mathlib.Core.List.{List}
use Prim.Native.Nat.{ℕ, ◌-◌, ◌≤◌, ◌<◌}
use native.Mathlib.Omega.{arith}
use lib.Dec.{eqb}
use lib.ListN.{length, length-set}
use borrow.Author.Tests.{eqb-true, eqb-false, eq-eqb, ne_eqb}
use Rattle.lists.specs.Bools.{decided, never, not_so, same_test}
use Rattle.kinds.specs.Limits.{lowest_task, highest_task}
use Rattle.kinds.specs.Tasks.{no_task}
use Rattle.kinds.specs.declared.tasks.Task.{Task}
use Rattle.rules.specs.Family.{place, with_place, used, mother, below, direct_subtask}
use Rattle.rules.specs.Ending.{end_tasks}
use Rattle.laws.specs.Conditions.{place_same, place_other}
use Rattle.laws.specs.Wiping.{wiped, length_wiped, gone, kept, still, by_places, wiped_none, wiped_twice}
use Rattle.laws.specs.Chains.{only, used_same, mother_same, used_pos, used_within, used_places, wiped_fewer}
use Rattle.laws.specs.Chains.{Chain, here, up, below_chain, chain_below, chain_goal}
use Rattle.laws.specs.Ended.{stays, goes_last, goes_free, length_ended}
use Rattle.tasks.specs.Under.{under}
use Rattle.tasks.proofs.Walks.{sub_mother, sub_make, under_chain, chain_under, unwiped}

pub in_places : (ts : List Task) (n : ℕ)
    → length ts ≡ highest_task → used ts n ≡ true → (lowest_task ≤ n) × (n ≤ highest_task)
in_places ts n l u = (omega (arith, used_pos ts n u), omega (arith, used_within ts n u))

-- NO TASK IN USE has the number: nobody is below it

module _ (ts : List Task) (n : ℕ) (free : used ts n ≡ false) where
  nobody_below : (m : ℕ) → below ts n m ≡ false
  nobody_below m = not_so (below ts n m) (λ e. never (used ts n) (chain_goal ts n m (below_chain ts n m e)) free)

  pub end_none : ts ≡ wiped (below ts n) ts
  end_none = wiped_none (below ts n) ts nobody_below

  pub ends_none : (last : Task) → ts ≡ end_tasks ts n last
  ends_none last =
      by_places ts (end_tasks ts n last) (sym (length_ended ts n last)) (λ m. sym (stays ts n last m (nobody_below m)))

-- A TASK IN USE

module _ (ts : List Task) (n : ℕ) (used_now : used ts n ≡ true) where
  itself : only n n ≡ true
  itself = eq-eqb n n refl

  low : 0 < n
  low = used_pos ts n used_now

  high : n ≤ length ts
  high = used_within ts n used_now

  -- its place is freed
  module _ (us : List Task) (y : Task) (free : y ≡ no_task) (new : us ≡ with_place ts n y) where
    freed : us ≡ wiped (only n) ts
    freed =
        new
        ∙ by_places (with_place ts n y) (wiped (only n) ts) (length-set ts (n - 1) y ∙ sym (length_wiped (only n) ts))
        (λ m. ⊎_elim
        (λ h. rw (eqb-true m n h) (place_same ts n y low high ∙ free ∙ sym (gone (only n) ts n itself)))
        (λ h. place_other ts n y low high m (eqb-false m n h) ∙ sym (kept (only n) ts m h))
        (decided (eqb m n)))

    pub freed_fewer : used_places us < used_places ts
    freed_fewer = rw freed (wiped_fewer (only n) ts n used_now itself)

  abbrev rest : List Task
  rest = wiped (only n) ts

  -- a chain to n comes to a direct subtask of n before it
  shorter : (m : ℕ) → (m ≡ n → ⊥) → Chain ts (only n) m → Chain rest (direct_subtask rest n) m
  shorter m d (here u h) = absurd (d (eqb-true m n h))
  shorter m d (up u r) =
      let k = kept (only n) ts m (ne_eqb m n d) in
      let v : used rest m ≡ true = used_same rest ts m k ∙ u in
      let e = mother_same rest ts m k in
      ⊎_elim
      (λ h. here v (sub_make rest n m v (e ∙ eqb-true (mother ts m) n h)))
      (λ h. up v (rw e (shorter (mother ts m) (eqb-false (mother ts m) n h) r)))
      (decided (eqb (mother ts m) n))

  -- and a chain to a direct subtask of n goes on to n
  longer : (m : ℕ) → Chain rest (direct_subtask rest n) m → Chain ts (only n) m
  longer m r =
      unwiped (only n) ts (direct_subtask rest n) (only n)
      (λ a u h.
      let k = still (only n) ts a u in
      up (used_same ts rest a k ∙ u)
      (rw (mother_same ts rest a k ∙ sub_mother rest n a h) (here used_now itself)))
      m r

  module _ (l : length ts ≡ highest_task) where
    self_below : (m : ℕ) → only n m ≡ true → below ts n m ≡ true
    self_below m h = chain_below ts n m l (here (rw (eqb-true m n h) used_now) h)

    then_subtasks : wiped (under rest n) rest ≡ wiped (below ts n) ts
    then_subtasks =
        wiped_twice (only n) (under rest n) (below ts n) ts self_below
        (λ m h. same_test (under rest n m) (below ts n m)
        (λ e. chain_below ts n m l (longer m (under_chain rest n m e)))
        (λ e. chain_under rest n m (length_wiped (only n) ts ∙ l) (shorter m (eqb-false m n h) (below_chain ts n m e))))

    pub end_in : (us : List Task) (y : Task)
        → y ≡ no_task → us ≡ with_place ts n y → wiped (under us n) us ≡ wiped (below ts n) ts
    end_in us y free new = rw (freed us y free new) then_subtasks

    -- its place becomes `last` instead
    abbrev ended : List Task
    ended = wiped (below ts n) ts

    as_long : length ended ≡ length ts
    as_long = length_wiped (below ts n) ts

    within : n ≤ length ended
    within = omega (arith, as_long, high)

    pub ends_in : (last : Task) → with_place ended n last ≡ end_tasks ts n last
    ends_in last =
        by_places (with_place ended n last) (end_tasks ts n last)
        (length-set ended (n - 1) last ∙ as_long ∙ sym (length_ended ts n last))
        (λ m. ⊎_elim
        (λ h.
        rw (eqb-true m n h) (place_same ended n last low within ∙ sym (goes_last ts n last (self_below n itself))))
        (λ h.
        let d = eqb-false m n h in
        place_other ended n last low within m d ∙ elsewhere m d (decided (below ts n m)))
        (decided (eqb m n)))
      where
        elsewhere : (m : ℕ) → (m ≡ n → ⊥) → (below ts n m ≡ true) ⊎ (below ts n m ≡ false)
            → place ended m ≡ place (end_tasks ts n last) m
        elsewhere m d (inl b) = gone (below ts n) ts m b ∙ sym (goes_free ts n last m b d)
        elsewhere m d (inr b) = kept (below ts n) ts m b ∙ sym (stays ts n last m b)
