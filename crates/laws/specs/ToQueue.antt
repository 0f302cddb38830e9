-- WHAT ENQ QUEUES, whichever the RET kind: asks of its list, in list order, for names that the caller has no entry for.
use Rattle.std.specs.Prelude.{◌≡◌, Bool, not, ◌&&◌, List, [], ◌∷◌, map, ℕ, ◌+◌, ◌≤◌, ltb, length}
use Rattle.std.proofs.Math.Path.{refl, sym}
use Rattle.std.proofs.Common.{ap, ◌∙◌, arith, ltb-false}
use Rattle.std.proofs.Math.Bool.{true, false}
use Rattle.std.proofs.lemmas.Bool.{false≢true}
use Rattle.std.proofs.Math.Dec.{eqb}
use Rattle.lists.specs.Lists.{keep, every, none, distinct}
use Rattle.lists.specs.Every.{every_gives, every_of, none_every}
use Rattle.lists.specs.Pick.{pick}
use Rattle.lists.specs.Keeping.{keep_same, keep_all, keep_none, every_keep}
use Rattle.lists.specs.Keeping.{distinct_keep}
use Rattle.lists.specs.Once.{distinct_map}
use Rattle.kinds.specs.Limits.{most_entries}
use Rattle.kinds.specs.declared.requests.Ret.{Ret}
use Rattle.kinds.specs.declared.requests.Ret.TheVariants.{None, Test, Use, Have, Chng}
use Rattle.rules.specs.Names.{Ask, Names, name_of, names_of, same_name}
use Rattle.rules.specs.Control.{Entry, has_entry, available}
use Rattle.rules.specs.Codes.{all_zero}
use Rattle.rules.specs.Enq.{enq_code, enq_codes, duplicated, fresh, to_queue, too_few_free}
use Rattle.laws.specs.Among.{all_kept}

-- WHICH ASKS COME, by a test of each
abbrev comes : Ret → List Entry → ℕ → Names → Ask → Bool
comes None q c l a = true
comes Test q c l a = false
comes Use q c l a = all_zero (enq_codes Use q c l)
comes Have q c l a = fresh q c a
comes Chng q c l a = false

all_or_none : (b : Bool) (l : List Ask) → pick b l [] ≡ keep (λ (a : Ask). b) l
unfolding pick
all_or_none true l = sym (keep_all l)
all_or_none false l = sym (keep_none l)

to_queue_keeps : (ret : Ret) (q : List Entry) (c : ℕ) (l : Names) → to_queue ret q c l ≡ keep (comes ret q c l) l.asks
unfolding to_queue
to_queue_keeps None q c l = sym (keep_all l.asks)
to_queue_keeps Test q c l = sym (keep_none l.asks)
to_queue_keeps Use q c l = all_or_none (all_zero (enq_codes Use q c l)) l.asks
to_queue_keeps Have q c l = refl
to_queue_keeps Chng q c l = sym (keep_none l.asks)

module _ (ret : Ret) (q : List Entry) (c : ℕ) (l : Names) where
  -- what every ask passes these pass
  pub to_queue_every : (p : Ask → Bool) → every p l.asks ≡ true → every p (to_queue ret q c l) ≡ true
  to_queue_every p h = rw (to_queue_keeps ret q c l) (every_keep p (comes ret q c l) l.asks h)

  pub to_queue_distinct : distinct same_name (names_of l) ≡ true
      → distinct same_name (map name_of (to_queue ret q c l)) ≡ true
  to_queue_distinct h =
      named (to_queue ret q c l)
      ∙ ap (distinct alike) (to_queue_keeps ret q c l)
      ∙ distinct_keep alike (comes ret q c l) l.asks (sym (named l.asks) ∙ h)
    where
      alike : Ask → Ask → Bool
      alike a b = same_name a.name b.name

      named : (k : List Ask) → distinct same_name (map name_of k) ≡ distinct alike k
      named k = distinct_map name_of alike same_name (λ a b. refl) k

-- THE CALLER HAS NO ENTRY FOR THEM

-- what a code that is 0 says under USE
zero_use : (a b : Bool) → eqb 0 (pick a 8 (pick b 0 4)) ≡ true → (not a ≡ true) × (b ≡ true)
unfolding pick
zero_use true b h = absurd (false≢true h)
zero_use false true h = (refl, refl)
zero_use false false h = absurd (false≢true h)

-- under HAVE the code is 0 exactly where the caller has no entry
zero_have : (a : Bool) → eqb 0 (pick a 8 0) ≡ not a
unfolding pick
zero_have true = refl
zero_have false = refl

module _ (q : List Entry) (c : ℕ) where
  -- what a code that is 0 says of its name, codes that are all 0 say of each
  pub zero_each : (ret : Ret) (p : Ask → Bool) → ((a : Ask) → eqb 0 (enq_code ret q c a) ≡ true → p a ≡ true)
      → (l : List Ask) → all_zero (map (enq_code ret q c) l) ≡ true → every p l ≡ true
  zero_each ret p g l h =
      every_gives (λ (a : Ask). eqb 0 (enq_code ret q c a)) p g l (sym (every_of (enq_code ret q c) (eqb 0) l) ∙ h)

  -- under USE the caller has no entry for it, and it is available
  pub use_zero : (l : List Ask) → all_zero (map (enq_code Use q c) l) ≡ true
      → (every (fresh q c) l ≡ true) × (every (available q) l ≡ true)
  unfolding enq_code
  use_zero l h = (
    zero_each Use (fresh q c) (λ a e. (zero_use (has_entry q c a.name) (available q a) e).0) l h,
    zero_each Use (available q) (λ a e. (zero_use (has_entry q c a.name) (available q a) e).1) l h,
  )

  -- unless it is error 201
  pub to_queue_fresh : (ret : Ret) (l : Names) → duplicated ret q c l ≡ false
      → every (fresh q c) (to_queue ret q c l) ≡ true
  unfolding to_queue pick
  to_queue_fresh None l d = none_every (λ (a : Ask). has_entry q c a.name) l.asks d
  to_queue_fresh Test l d = refl
  to_queue_fresh Use l d = one (all_zero (enq_codes Use q c l)) refl
    where
      one : (b : Bool) → all_zero (enq_codes Use q c l) ≡ b → every (fresh q c) (pick b l.asks []) ≡ true
      one true e = (use_zero l.asks e).0
      one false e = refl
  to_queue_fresh Have l d = all_kept (fresh q c) l.asks
  to_queue_fresh Chng l d = refl

  -- THEIR CODES ARE 0, and no other's, under HAVE

  -- the asks with code 0
  abbrev pub zero_coded : Ret → Names → List Ask
  zero_coded ret l = keep (λ (a : Ask). eqb 0 (enq_code ret q c a)) l.asks

  pub have_zero : (l : Names) → to_queue Have q c l ≡ zero_coded Have l
  unfolding to_queue enq_code
  have_zero l =
      keep_same (fresh q c) (λ (a : Ask). eqb 0 (enq_code Have q c a)) l.asks
      (λ a. sym (zero_have (has_entry q c a.name)))

-- 105: where there is no lack of free entries, there is room
pub to_queue_room : (ret : Ret) (q : List Entry) (c : ℕ) (l : Names) → length q ≤ most_entries
    → too_few_free ret q c l ≡ false → length q + length (to_queue ret q c l) ≤ most_entries
unfolding too_few_free
to_queue_room ret q c l h f = one (to_queue ret q c l) f
  where
    one : (k : List Ask) → (not (none k) && ltb most_entries (length q + length k)) ≡ false
        → length q + length k ≤ most_entries
    one [] e = omega arith
    one (a ∷ k) e = ltb-false most_entries (length q + length (a ∷ k)) e
