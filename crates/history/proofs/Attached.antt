-- ATTACH: the run tells who attached whom.
use mathlib.Core.Path.{◌≡◌, refl, sym, ap, subst, ◌∙◌}
use mathlib.Core.Bool.{Bool, true, false, cond}
use mathlib.Core.List.{List}
use Prim.Native.Nat.{ℕ, ◌≤◌, ◌<◌}
use native.Mathlib.Omega.{arith}
use lib.Dec.{eqb}
use lib.IntN.{ℤ}
use lib.ListN.{length}
use borrow.Author.Tests.{eqb-true, eqb-false, ne_eqb}
use Rattle.kinds.specs.declared.numbers.TaskNumber.{TaskNumber}
use Rattle.kinds.specs.declared.tasks.Task.{Task}
use Rattle.std.specs.Prelude.{Option, Ok}
use Rattle.kinds.specs.declared.numbers.EcbNumber.{EcbNumber}
use Rattle.kinds.specs.declared.requests.Request.TheVariants.{Attach}
use Rattle.rules.specs.Names.{Names}
use Rattle.rules.specs.Family.{place, with_place, used, mother}
use Rattle.rules.specs.Steps.{Step, with_tasks}
use Rattle.rules.specs.Attach.{lowest_free, attach_verdict, new_task, attach_done}
use Rattle.rules.specs.Reading.{Attaches, mother_in, Reading, read_by}
use Rattle.laws.specs.Chains.{used_same, mother_same}
use Rattle.laws.specs.Conditions.{place_same, place_other}
use Rattle.laws.specs.Attaching.{found_free, attach_free}
use Rattle.history.proofs.Effects.{idles}
use Rattle.history.proofs.Seen.{Seen}
use Rattle.history.proofs.Turns.{Follows}

-- task n comes as y, whose mother is c
module _ (s : Step) (r : Reading) (e : Seen s r) (n : ℕ) (low : 0 < n) (high : n ≤ length s.tasks) (y : Task)
    (c : ℕ) (from : y.mother.0 ≡ c) where
  abbrev us : List Task
  us = with_place s.tasks n y

  linked : (k : ℕ) → used us k ≡ true → cond (eqb n k) c (mother_in r.links k) ≡ mother us k
  unfolding mother
  linked k u = one (eqb n k) refl
    where
      one : (b : Bool) → eqb n k ≡ b → cond b c (mother_in r.links k) ≡ (place us k).mother.0
      one true q =
          subst (λ (i : ℕ). c ≡ (place us i).mother.0) (eqb-true n k q)
          (sym (ap (λ (x : Task). x.mother.0) (place_same s.tasks n y low high) ∙ from))
      one false q =
          let i = place_other s.tasks n y low high k (λ d. eqb-false n k q (sym d)) in
          e.mothers k (used_same s.tasks us k (sym i) ∙ u) ∙ mother_same s.tasks us k (sym i)

  linked_seen : Seen (with_tasks s us) (read_by r (Attaches c n))
  linked_seen = record {
    queue = idles r.queue ∙ e.queue;
    root = rw (ne_eqb n 0 (λ d. omega arith)) e.root;
    mothers = linked;
  }

pub attach_done_lem : (s : Step) (r : Reading) → Seen s r → (l : Names) (c : TaskNumber) (lpmod : ℕ) (dpmod : ℤ)
    (ecb : Option EcbNumber) → attach_verdict s.tasks lpmod dpmod ecb ≡ Ok tt
    → Follows r (Attach c lpmod dpmod ecb) l (attach_done s c lpmod dpmod ecb)
unfolding attach_done new_task
attach_done_lem s r e l c lpmod dpmod ecb v =
    let f = found_free s.tasks (attach_free s.tasks lpmod dpmod ecb v) in
    linked_seen s r e (lowest_free s.tasks) f.0.0 f.0.1 (new_task (place s.tasks c.0) c lpmod dpmod ecb)
    c.0 refl
