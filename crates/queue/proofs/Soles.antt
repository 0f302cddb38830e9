-- Whether a task alone owns a name, found by reading the leading run of the name's queue.
use mathlib.Core.Path.{◌≡◌, refl, sym, ap, ◌∙◌}
use mathlib.Core.Bool.{Bool, true, false, not, cond, ◌&&◌, and-true, and_assoc}
use mathlib.Core.List.{List, [], ◌∷◌, map}
use Prim.Native.Nat.{ℕ, suc, ◌+◌, ◌≤◌, ◌<◌}
use native.Mathlib.Numerals.{add-one}
use lib.ListN.{length, get_or, drop, drop_of_length-le}
use lib.Seq.{drop-cons}
use Rattle.lists.specs.Lists.{every}
use Rattle.lists.specs.Pick.{pick}
use Rattle.kinds.specs.declared.names.Slot.{Slot}
use Rattle.rules.specs.Names.{Resource, same_name}
use Rattle.rules.specs.Control.{Entry, of_task, queue_of, sole_owner}
use Rattle.rules.specs.DemandThree.{shared_run, leading_run}
use Rattle.laws.specs.Owners.{owners_leading}
use Rattle.queue.specs.Queues.{entry_of}
use Rattle.queue.specs.Leading.{lead_next}
use Rattle.queue.specs.declared.lead.Lead.{Lead}

-- what the rest of a name's queue adds to the run
abbrev run_of : Bool → Bool → List Entry → List Entry
run_of first true l = cond first (leading_run l) (shared_run l)
run_of first false l = []

run_none : (first going : Bool) → run_of first going [] ≡ []
run_none true true = refl
run_none true false = refl
run_none false true = refl
run_none false false = refl

-- the task's alone: what was read of the run, and what follows
abbrev sole_from : ℕ → Lead → List Entry → Bool
sole_from t s l = s.sole && every (of_task t) (run_of s.first s.going l)

-- an entry for the name
in_run : (t : ℕ) (n : Resource) (s : Lead) (e : Entry) (l : List Entry) → same_name e.name n ≡ true → s.going ≡ true
    → sole_from t s (e ∷ l) ≡ sole_from t (lead_next s t n e) l
unfolding lead_next pick
in_run t n s e l h g = rw (h, g) (one s.first e.exclusive)
  where
    one : (a b : Bool)
        → (s.sole && every (of_task t) (cond a (cond b (e ∷ []) (e ∷ shared_run l)) (cond b [] (e ∷ shared_run l))))
        ≡ sole_from t (pick (not a && b) (record { first = false; going = false; sole = s.sole })
        (record { first = false; going = not b; sole = s.sole && of_task t e })) l
    one true true = sym (and_assoc s.sole (of_task t e) true)
    one true false = sym (and_assoc s.sole (of_task t e) (every (of_task t) (shared_run l)))
    one false true = refl
    one false false = sym (and_assoc s.sole (of_task t e) (every (of_task t) (shared_run l)))

other_name : (t : ℕ) (n : Resource) (s : Lead) (e : Entry) → same_name e.name n ≡ false → lead_next s t n e ≡ s
unfolding lead_next pick
other_name t n s e h = rw h

-- one more entry of the table
one_more : (t : ℕ) (m : Resource) (s : Lead) (e : Entry) (l : List Entry) → s.going ≡ true
    → sole_from t s (queue_of m (e ∷ l)) ≡ sole_from t (lead_next s t m e) (queue_of m l)
one_more t m s e l g = one (same_name e.name m) refl
  where
    one : (b : Bool) → same_name e.name m ≡ b
        → sole_from t s (cond b (e ∷ queue_of m l) (queue_of m l)) ≡ sole_from t (lead_next s t m e) (queue_of m l)
    one true w = in_run t m s e (queue_of m l) w g
    one false w = ap (λ (u : Lead). sole_from t u (queue_of m l)) (sym (other_name t m s e w))

-- the slots are read up to place j
unfoldable pub ReadTo : ℕ → Resource → List Slot → ℕ → Lead → Type 0
ReadTo t m es j s = sole_owner (map entry_of es) t m ≡ sole_from t s (queue_of m (map entry_of (drop j es)))

module _ (t : ℕ) (m : Resource) (es : List Slot) where
  pub read_start : ReadTo t m es 0 (record { first = true; going = true; sole = true })
  unfolding ReadTo
  read_start = ap (every (of_task t)) (owners_leading m (map entry_of es))

  pub read_next : (j : ℕ) (d : Slot) (s r : Lead) → s.going ≡ true → j < length es
      → r ≡ lead_next s t m (entry_of (get_or es j d)) → ReadTo t m es j s → ReadTo t m es (j + 1) r
  unfolding ReadTo
  read_next j d s r g k e v =
      v ∙ ap (λ (l : List Slot). sole_from t s (queue_of m (map entry_of l))) (drop-cons es j d k)
      ∙ one_more t m s (entry_of (get_or es j d)) (map entry_of (drop (suc j) es)) g
      ∙ rw (add-one, e)

  pub read_stop : (j : ℕ) (s : Lead) → s.going ≡ false → ReadTo t m es j s → sole_owner (map entry_of es) t m ≡ s.sole
  unfolding ReadTo
  read_stop j s g v = v ∙ rw g (and-true s.sole)

  pub read_end : (j : ℕ) (s : Lead) → length es ≤ j → ReadTo t m es j s → sole_owner (map entry_of es) t m ≡ s.sole
  unfolding ReadTo
  read_end j s k v =
      v ∙ rw (drop_of_length-le es k) (ap (λ (l : List Entry). s.sole && every (of_task t) l) (run_none s.first s.going))
      ∙ and-true s.sole
