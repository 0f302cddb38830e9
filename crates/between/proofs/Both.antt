-- What the tests over both tables come to.
use mathlib.Core.Path.{◌≡◌, refl, sym, ap, ap₂, ◌∙◌}
use mathlib.Core.Bool.{Bool, ◌&&◌}
use mathlib.Core.List.{List, [], ◌∷◌}
use Prim.Native.Nat.{ℕ, ◌+◌, ◌-◌, ◌≤◌, ◌<◌}
use native.Mathlib.Omega.{arith}
use lib.ListN.{length, get_or, take, drop, length-drop}
use Rattle.std.specs.List.{zip, list_all}
use Rattle.std.proofs.Common.{add-one, drop-cons, take_all}
use Rattle.lists.specs.Lists.{every_at, alike}
use Rattle.kinds.specs.Limits.{highest_task}
use Rattle.kinds.specs.Tasks.{in_resource_wait}
use Rattle.kinds.specs.declared.tasks.Task.{Task}
use Rattle.rules.specs.Control.{Entry, lacks}
use Rattle.rules.specs.SoundQueue.{wait_good, waits_good}
use Rattle.queue.specs.Marking.{mark_at, all_marks, lacks_among, marks_among, all_marked, mark_at_lem}
use Rattle.queue.specs.declared.marks.Marks.{Marks}

-- each element tested beside what stands at its number, the first at n
pub every_beside : {A B : Type 0} (test : A → B → Bool) (d : B) (xs : List A) (ys : List B) (n : ℕ)
    → n + length xs ≤ length ys
    → list_all (λ (p : A × B). test p.0 p.1) (zip xs (drop n ys)) ≡ every_at (λ k x. test x (get_or ys k d)) n xs
every_beside test d [] ys n h = refl
every_beside {A} {B} test d (x ∷ xs) ys n h =
    let l : n < length ys = omega arith in
    ap (λ (r : List B). list_all (λ (p : A × B). test p.0 p.1) (zip (x ∷ xs) r)) (drop-cons ys n d l)
    ∙ ap (λ (b : Bool). test x (get_or ys n d) && b)
    (rw (← add-one n) (every_beside test d xs ys (n + 1) (omega arith)))

-- an array from place n on
pub rest_from : {A : Type 0} (n : ℕ) (l : List A) → take (length l - n) (drop n l) ≡ drop n l
rest_from {A} n l = take_all _ (drop n l) (omega (arith, length-drop {A = A}))

-- the test of task n by its mark
abbrev pub by_mark : Marks → ℕ → Task → Bool
by_mark m n x = alike (in_resource_wait x.condition) (mark_at m n)

mark_is : (q : List Entry) (n : ℕ) (x : Task) → n ≤ highest_task → by_mark (marks_among all_marks q) n x ≡ wait_good q n x
unfolding wait_good
mark_is q n x h =
    ap (alike (in_resource_wait x.condition))
    (mark_at_lem (lacks_among all_marks q) n h ∙ ap (λ (b : Bool). b && lacks n q) (all_marked n h))

marks_are : (q : List Entry) (n : ℕ) (ts : List Task) → n + length ts ≤ highest_task + 1
    → every_at (by_mark (marks_among all_marks q)) n ts ≡ every_at (wait_good q) n ts
marks_are q n [] h = refl
marks_are q n (x ∷ ts) h = ap₂ ◌&&◌ (mark_is q n x (omega arith)) (marks_are q (n + 1) ts (omega arith))

pub waits_are : (q : List Entry) (all m : Marks) (ts : List Task) (r : Bool) → length ts ≡ highest_task
    → all ≡ all_marks → m ≡ marks_among all q → every_at (by_mark m) 1 ts ≡ r → r ≡ waits_good q ts
unfolding waits_good
waits_are q all m ts r h a e k =
    sym k ∙ ap (λ (p : Marks). every_at (by_mark p) 1 ts) (e ∙ ap (λ (p : Marks). marks_among p q) a)
    ∙ marks_are q 1 ts (omega arith)
