-- Who wakes by the marks of those who wait and lack control.
use mathlib.Core.Path.{◌≡◌, refl, sym, ap, ◌∙◌}
use mathlib.Core.Bool.{Bool, true, false, ◌&&◌}
use mathlib.Core.List.{List}
use Prim.Native.Nat.{ℕ, ◌+◌, ◌≤◌, ◌<◌}
use native.Mathlib.Omega.{arith}
use lib.Seq.{ext_get_or}
use lib.ListN.{length, get_or, set, length-replicate}
use Rattle.lists.specs.Pick.{pick}
use Rattle.lists.specs.Lists.{map_at}
use Rattle.lists.specs.Numbered.{map_at_at, length_map_at, up_to, up_to_end}
use Rattle.kinds.specs.Limits.{highest_task}
use Rattle.kinds.specs.Tasks.{no_task, in_resource_wait, with_condition}
use Rattle.kinds.specs.declared.tasks.Task.{Task}
use Rattle.kinds.specs.declared.tasks.Condition.TheVariants.{Ready}
use Rattle.rules.specs.Family.{place}
use Rattle.rules.specs.Control.{Entry, lacks}
use Rattle.laws.specs.Waking.{wake_at, wake_by}
use Rattle.laws.specs.Places.{place_next}
use Rattle.queue.specs.Marking.{mark_at, no_marks, lacks_among, marks_among, Marked, mark_at_lem, marked_next}
use Rattle.queue.specs.declared.marks.Marks.{Marks}
use Rattle.between.specs.Waiting.{waits_at, wait_marks, wake_if}

-- task i + 1 is the one at place i
waits_here : (ts : List Task) (i n : ℕ) → n ≡ i + 1 → waits_at ts n ≡ in_resource_wait (get_or ts i no_task).condition
waits_here ts i n e =
    let k : n ≡ 1 + i = omega arith in
    ap (waits_at ts) k ∙ ap (λ (x : Task). in_resource_wait x.condition) (place_next ts i)

-- the marks of the tasks up to i
abbrev pub WaitsTo : List Task → ℕ → Marks → Type 0
WaitsTo ts i m = Marked (waits_at ts) (i + 1) m

pub waits_none : (ts : List Task) (m : Marks) → m ≡ no_marks → WaitsTo ts 0 m
unfolding place
waits_none ts m q = rw q (record {
  long = length-replicate (highest_task + 1) false;
  each = λ t h. let e : t ≡ 0 = omega arith in rw e;
})

pub waits_next : (ts : List Task) (i : ℕ) (m : Marks) (b : Bool) → i < highest_task
    → b ≡ in_resource_wait (get_or ts i no_task).condition → WaitsTo ts i m
    → WaitsTo ts (i + 1) (record { tasks = set m.tasks (i + 1) b })
waits_next ts i m b h e v =
    marked_next (waits_at ts) (i + 1) m b (omega arith) (e ∙ sym (waits_here ts i (i + 1) refl)) v

-- whoever does not wait needs no mark
by_wait : (w l : Bool) (x y : Task) → pick w (pick (w && l) x y) x ≡ pick w (pick l x y) x
unfolding pick
by_wait true l x y = refl
by_wait false l x y = refl

wake_is : (ts : List Task) (q : List Entry) (i n : ℕ) → n ≡ i + 1 → n ≤ highest_task
    → wake_if (mark_at (marks_among (wait_marks ts) q) n) (get_or ts i no_task) ≡ wake_at q n (get_or ts i no_task)
unfolding wake_if wake_at
wake_is ts q i n e h =
    let x = get_or ts i no_task in
    ap (λ (b : Bool). pick (in_resource_wait x.condition) (pick b x (with_condition x Ready)) x)
    (mark_at_lem (lacks_among (wait_marks ts) q) n h
    ∙ ap (λ (b : Bool). b && lacks n q) (mark_at_lem (waits_at ts) n h ∙ waits_here ts i n e))
    ∙ by_wait (in_resource_wait x.condition) (lacks n q) x (with_condition x Ready)

-- task n wakes unless it is marked
abbrev pub unless_marked : Marks → ℕ → Task → Task
unless_marked m n x = wake_if (mark_at m n) x

-- past the last place, all have woken who are to wake
pub wakes_are : (ts : List Task) (q : List Entry) (among m : Marks) (i : ℕ) (r : List Task) → length ts ≡ highest_task
    → highest_task ≤ i → among ≡ wait_marks ts → m ≡ marks_among among q → r ≡ up_to (unless_marked m) 1 i ts
    → r ≡ wake_by q ts
wakes_are ts q among m i r long past a e v =
    let f = unless_marked (marks_among (wait_marks ts) q) in
    v ∙ up_to_end (unless_marked m) 1 i ts (omega arith)
    ∙ ap (λ (p : Marks). map_at (unless_marked p) 1 ts) (e ∙ ap (λ (p : Marks). marks_among p q) a)
    ∙ ext_get_or no_task (map_at f 1 ts) (wake_by q ts) (length_map_at f 1 ts ∙ sym (length_map_at (wake_at q) 1 ts))
    (λ i h.
    let k : i < length ts = omega (arith, length_map_at f 1 ts) in
    map_at_at f 1 ts no_task i k ∙ wake_is ts q i (1 + i) (omega arith) (omega arith)
    ∙ sym (map_at_at (wake_at q) 1 ts no_task i k))
