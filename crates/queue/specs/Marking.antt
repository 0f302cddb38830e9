-- Marks on tasks, for all task numbers at once, and the marks of those that lack control.
use Rattle.std.specs.Prelude.{◌≡◌, refl, Bool, true, false, not, ◌&&◌, ◌||◌, List, map, ℕ, ◌+◌, ◌≤◌, ◌<◌, length, get_or, set, replicate, eqb}
use Rattle.std.proofs.Common.{sym, ap, ◌∙◌, arith, length-set, get_or-set_same, get_or-set_other, ext_get_or, eqb-true}
use Rattle.std.proofs.lemmas.List.{length-map, get_or-replicate}
use Rattle.std.proofs.lemmas.Bool.{eqb-false}
use Rattle.lists.specs.Lists.{numbers}
use Rattle.lists.specs.Numbered.{length_numbers, numbers_at}
use Rattle.kinds.specs.Limits.{highest_task}
use Rattle.rules.specs.Control.{Entry, lacks}
use Rattle.queue.specs.declared.marks.Marks.{Marks}

-- the mark of task number t stands at place t; what has no place has no mark
abbrev pub mark_at : Marks → ℕ → Bool
mark_at m t = get_or m.tasks t false

abbrev pub all_marks : Marks
all_marks = record { tasks = replicate (highest_task + 1) true }

abbrev pub no_marks : Marks
no_marks = record { tasks = replicate (highest_task + 1) false }

-- those that pass a test are marked
unfoldable pub marked_by : (ℕ → Bool) → Marks
marked_by test = record { tasks = map test (numbers 0 (highest_task + 1)) }

-- of the tasks that are marked, those that lack control
abbrev pub lacks_among : Marks → List Entry → ℕ → Bool
lacks_among among q t = mark_at among t && lacks t q

abbrev pub marks_among : Marks → List Entry → Marks
marks_among among q = marked_by (lacks_among among q)

-- after an entry of task t that has control or lacks it
unfoldable pub with_mark : Marks → ℕ → Bool → Marks
with_mark m t has_control = record { tasks = set m.tasks t (mark_at m t || not has_control) }

pub all_marked : (t : ℕ) → t ≤ highest_task → mark_at all_marks t ≡ true
all_marked t h = get_or-replicate (highest_task + 1) t true false (omega arith)

pub mark_at_lem : (test : ℕ → Bool) (t : ℕ) → t ≤ highest_task → mark_at (marked_by test) t ≡ test t
unfolding marked_by
mark_at_lem test t h = numbers_at test false 0 (highest_task + 1) t (omega arith) ∙ ap test (zero_plus t)
  where
    zero_plus : (n : ℕ) → 0 + n ≡ n
    zero_plus n = omega arith

-- the first n marks are what a test says
pub record Marked (test : ℕ → Bool) (n : ℕ) (m : Marks) : Type 0 where
  pub long : length m.tasks ≡ highest_task + 1
  pub each : (t : ℕ) → t < n → mark_at m t ≡ test t

marks_long : (test : ℕ → Bool) → length (marked_by test).tasks ≡ highest_task + 1
unfolding marked_by
marks_long test = length-map (numbers 0 (highest_task + 1)) test ∙ length_numbers 0 (highest_task + 1)

-- nothing else has those marks
pub marks_are : (test : ℕ → Bool) (n : ℕ) (m : Marks) → highest_task < n → Marked test n m → m ≡ marked_by test
marks_are test n m h r =
    let e : m.tasks ≡ (marked_by test).tasks =
    ext_get_or false m.tasks (marked_by test).tasks (r.long ∙ sym (marks_long test))
    (λ t k. let l : t ≤ highest_task = omega (arith, r.long) in r.each t (omega arith) ∙ sym (mark_at_lem test t l)) in
    λ i. record { tasks = e i }

-- a loop that marks one number after the other
pub marked_next : (test : ℕ → Bool) (n : ℕ) (m : Marks) (b : Bool) → n ≤ highest_task → b ≡ test n → Marked test n m
    → Marked test (n + 1) (record { tasks = set m.tasks n b })
marked_next test n m b h e v = record {
  long = length-set m.tasks n b ∙ v.long;
  each = λ t k. one t k (eqb t n) refl;
}
  where
    one : (t : ℕ) → t < n + 1 → (so : Bool) → eqb t n ≡ so → get_or (set m.tasks n b) t false ≡ test t
    one t k true q =
        let i : t ≡ n = eqb-true t n q in
        ap (λ (j : ℕ). get_or (set m.tasks n b) j false) i
        ∙ get_or-set_same m.tasks n b false (omega (arith, v.long)) ∙ e ∙ ap test (sym i)
    one t k false q =
        let i : t ≡ n → ⊥ = eqb-false t n q in
        get_or-set_other m.tasks n t b false i ∙ v.each t (omega arith)
