-- That no ready task exceeds x says that x reaches the highest dispatching priority.
use Rattle.std.specs.Prelude.{◌≡◌, ℕ, max, Bool, true, false, not, ◌&&◌, ◌||◌, List, [], ◌∷◌, leb}
use Rattle.std.proofs.Common.{sym, ap, ◌∙◌, arith, le-leb}
use Rattle.std.proofs.Math.Bool.{and-true, and_assoc}
use Rattle.std.proofs.lemmas.Bool.Decides.{nat_tests}
use Rattle.lists.specs.Lists.{every, first_at}
use Rattle.lists.specs.Numbered.{first_at_same}
use Rattle.lists.specs.Pick.{pick}
use Rattle.kinds.specs.Tasks.{is_ready}
use Rattle.kinds.specs.declared.tasks.Task.{Task}
use Rattle.rules.specs.Dispatch.{no_better, dispatched}
use Rattle.tasks.specs.Highest.{raised_to, highest, reaching}

-- the higher of two numbers is at most d just where both are
higher : (h y d : ℕ) → leb (max h y) d ≡ (leb h d && leb y d)
higher h y d = grind (arith, nat_tests)

raised_leb : (h : ℕ) (x y : Task) → leb (raised_to h y) x.dispatching ≡ (leb h x.dispatching && no_better x y)
unfolding raised_to pick
raised_leb h x y = one (is_ready y.condition)
  where
    one : (b : Bool)
        → leb (pick b (max h y.dispatching) h) x.dispatching
        ≡ (leb h x.dispatching && (not b || leb y.dispatching x.dispatching))
    one true = higher h y.dispatching x.dispatching
    one false = sym (and-true (leb h x.dispatching))

none_better : (x : Task) (h : ℕ) (ts : List Task)
    → leb (highest h ts) x.dispatching ≡ (leb h x.dispatching && every (no_better x) ts)
none_better x h [] = sym (and-true (leb h x.dispatching))
none_better x h (y ∷ ts) =
    none_better x (raised_to h y) ts
    ∙ ap (λ (b : Bool). b && every (no_better x) ts) (raised_leb h x y)
    ∙ and_assoc (leb h x.dispatching) (no_better x y) (every (no_better x) ts)

none_exceeds : (x : Task) (ts : List Task) → every (no_better x) ts ≡ leb (highest 0 ts) x.dispatching
none_exceeds x ts = sym (none_better x 0 ts ∙ rw (le-leb 0 x.dispatching (omega arith)))

-- DISPATCH by two passes: the highest, then the first ready task that reaches it
pub two_passes : (ts : List Task) (h : ℕ) → h ≡ highest 0 ts → dispatched ts ≡ first_at (reaching h) 1 ts
unfolding dispatched
two_passes ts h e =
    first_at_same (λ (x : Task). is_ready x.condition && every (no_better x) ts) (reaching h)
    (λ x. rw e (ap (λ (b : Bool). is_ready x.condition && b) (none_exceeds x ts))) 1 ts
