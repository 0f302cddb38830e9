-- WHO IS STUCK: the list has every task on a ring once, in ascending order, and says of each where and for whom.
use Rattle.std.specs.Prelude.{◌≡◌, refl, Bool, true, false, not, ◌&&◌, List, [], ◌∷◌, ◌++◌, map, ℕ, ◌≤◌, eqb, ltb, length}
use Rattle.std.proofs.Common.{sym, subst, ◌∙◌, arith, eqb-true, eq-eqb}
use Rattle.std.proofs.Math.Path.{ap}
use Rattle.std.proofs.lemmas.List.{length-map}
use Rattle.std.proofs.lemmas.Bool.{not-true}
use Rattle.lists.specs.Lists.{every, some, none, keep, pairwise, gathered, numbers}
use Rattle.lists.specs.Bools.{both, join, not_so}
use Rattle.lists.specs.Every.{none_every}
use Rattle.lists.specs.Keeping.{keep_same, keep_none, length_keep, pairwise_keep}
use Rattle.lists.specs.Numbered.{length_numbers}
use Rattle.kinds.specs.Limits.{lowest_task, highest_task}
use Rattle.kinds.specs.Ranges.{task_good}
use Rattle.kinds.specs.Within.{within}
use Rattle.rules.specs.Control.{Entry, control}
use Rattle.rules.specs.Rings.{bars, waits_for, Ring, stuck}
use Rattle.rules.specs.Steps.{Step}
use Rattle.rules.specs.Sound.{sound_step}
use Rattle.rules.specs.Reports.{StuckTask, stuck_at, holds_up, stuck_at_from, first_stuck_at, stuck_tasks}
use Rattle.laws.specs.Among.{eqb_swap, Each, each_at, every_there, some_at, some_there, all_kept, gathered_back}
use Rattle.laws.specs.Among.{each_gathered, number_kept, numbers_has, numbers_rise}
use Rattle.laws.specs.Running.{running_parts}
use Rattle.laws.specs.Numbered.{entries_good}
use Rattle.laws.specs.OnRing.{bars_lacks, waits_at, at_waits, stuck_leads, leads_stuck, next_on_ring}
use Rattle.laws.specs.HeldUp.{held_by, FirstHeld, first_held}

-- THE LIST

abbrev pub task_of : StuckTask → ℕ
task_of x = x.task

few_of : (m k l n : ℕ) → m ≡ k → k ≤ l → l ≡ n → m ≤ n
few_of m k l n e h f = omega arith

good_listed : (t : ℕ) → task_good t ≡ true → some (eqb t) (numbers 1 highest_task) ≡ true
good_listed t h =
    let w = within lowest_task highest_task t h in numbers_has t 1 highest_task w.0 (omega (arith, w.1))

module _ (q : List Entry) where
  -- a stuck task waits for a stuck one, so a line is there
  pub stuck_held : (t : ℕ) → stuck q t ≡ true → none (stuck_at_from (stuck q) t [] q) ≡ false
  stuck_held t h =
      let n = next_on_ring q t (stuck_leads q t h) in
      some_there (λ (x : StuckTask). eqb x.partner n.0) (stuck_at_from (stuck q) t [] q)
      (held_by (stuck q) t q n.0
      ∙ join (stuck q n.0) (waits_for q t n.0) (leads_stuck q n.0 n.2) n.1)

  stuck_first : (t : ℕ) → stuck q t ≡ true → FirstHeld (stuck q) t [] q
  stuck_first t h = first_held (stuck q) t [] q (stuck_held t h)

  -- exactly one line, of its task
  pub first_line : (t : ℕ) → stuck q t ≡ true → map task_of (first_stuck_at (stuck q) q t) ≡ t ∷ []
  first_line t h =
      let f = stuck_first t h in
      ap (map task_of) f.line ∙ ap (λ (n : ℕ). n ∷ []) (eqb-true f.entry.task t f.own)

  kept_stuck : every (stuck q) (keep (stuck q) (numbers 1 highest_task)) ≡ true
  kept_stuck = all_kept (stuck q) (numbers 1 highest_task)

  -- "List every stuck task once, in ascending order"
  pub stuck_listed : map task_of (stuck_tasks q) ≡ keep (stuck q) (numbers 1 highest_task)
  unfolding stuck_tasks
  stuck_listed =
      gathered_back (stuck q) (first_stuck_at (stuck q) q) task_of first_line (keep (stuck q) (numbers 1 highest_task))
      kept_stuck

  pub listed_rising : pairwise (λ (a b : ℕ). ltb a b) (map task_of (stuck_tasks q)) ≡ true
  listed_rising =
      ap (pairwise ltb) stuck_listed
      ∙ pairwise_keep ltb (stuck q) (numbers 1 highest_task) (numbers_rise 1 highest_task)

  pub stuck_few : length (stuck_tasks q) ≤ highest_task
  stuck_few =
      few_of (length (stuck_tasks q)) (length (keep (stuck q) (numbers 1 highest_task)))
      (length (numbers 1 highest_task)) highest_task
      (sym (length-map (stuck_tasks q) task_of) ∙ ap length stuck_listed)
      (length_keep (stuck q) (numbers 1 highest_task)) (length_numbers 1 highest_task)

  -- whoever is stuck has an entry
  module _ (good : every (λ (e : Entry). task_good e.task) q ≡ true) where
    pub stuck_good : (t : ℕ) → stuck q t ≡ true → task_good t ≡ true
    stuck_good t h =
        let n = next_on_ring q t (stuck_leads q t h) in
        let w = waits_at q t n.0 n.1 in
        ap task_good (sym w.own)
        ∙ every_there (λ (e : Entry). task_good e.task) w.before w.entry w.after
        (sym (ap (every (λ (e : Entry). task_good e.task)) w.split) ∙ good)

    -- every stuck task and nobody else
    pub listed_exactly : (t : ℕ) → some (eqb t) (map task_of (stuck_tasks q)) ≡ stuck q t
    listed_exactly t =
        ap (some (eqb t)) stuck_listed ∙ number_kept t (stuck q) (numbers 1 highest_task) ∙ one (stuck q t) refl
      where
        one : (b : Bool) → stuck q t ≡ b → (b && some (eqb t) (numbers 1 highest_task)) ≡ b
        one true h = good_listed t (stuck_good t h)
        one false h = refl

-- of a sound step that is not over: its entries are of live tasks
pub sound_listed : (s : Step) → sound_step s ≡ true → s.over ≡ false
    → (t : ℕ) → some (eqb t) (map task_of (stuck_tasks s.queue)) ≡ stuck s.queue t
sound_listed s h o =
    let r = running_parts s h o in
    listed_exactly s.queue (entries_good s.tasks s.queue r.tasks.fits r.queue.entries)

-- A LINE: the task, with one name and one stuck task it waits for there, "its earliest such entry, then the earliest
-- entry ahead"
pub record StuckLine (q : List Entry) (x : StuckTask) : Type 0 where
  pub before : List Entry
  pub entry : Entry
  pub after : List Entry
  pub split : q ≡ before ++ (entry ∷ after)
  pub place : length before ≡ x.place
  pub own : entry.task ≡ x.task
  pub name : entry.name ≡ x.name
  pub lacks : control before entry ≡ false
  pub ring : stuck q x.task ≡ true
  pub partner : stuck q x.partner ≡ true
  pub waits : waits_for q x.task x.partner ≡ true
  pub first : List Entry
  pub ahead : Entry
  pub rest : List Entry
  pub behind : before ≡ first ++ (ahead ∷ rest)
  pub theirs : ahead.task ≡ x.partner
  pub barred : bars ahead entry ≡ true
  pub no_earlier_ahead : every (λ (z : Entry). not (holds_up (stuck q) entry z)) first ≡ true
  pub no_earlier_entry : (b : List Entry) (e : Entry) (a : List Entry) → before ≡ b ++ (e ∷ a)
      → e.task ≡ x.task → some (holds_up (stuck q) e) b ≡ false

module _ (q : List Entry) where
  line_of : (t : ℕ) → stuck q t ≡ true → (f : FirstHeld (stuck q) t [] q)
      → StuckLine q (stuck_at (length f.front) f.entry f.ahead)
  line_of t h f =
      let e = f.entry in
      let x = f.ahead in
      let i = eqb-true e.task t f.own in
      let a = both (not (eqb x.task e.task) && stuck q x.task) (bars x e) f.held in
      let b = both (not (eqb x.task e.task)) (stuck q x.task) a.0 in
      let s : some (λ (z : Entry). bars z e) f.front ≡ true =
      ap (some (λ (z : Entry). bars z e)) f.behind
      ∙ some_at (λ (z : Entry). bars z e) f.first x f.rest a.1 in
      record {
        before = f.front;
        entry = e;
        after = f.back;
        split = f.split;
        place = refl;
        own = refl;
        name = refl;
        lacks = bars_lacks f.front e s;
        ring = ap (stuck q) i ∙ h;
        partner = b.1;
        waits = at_waits q e.task x.task (record {
          before = f.front;
          entry = e;
          after = f.back;
          split = f.split;
          own = refl;
          first = f.first;
          ahead = x;
          rest = f.rest;
          behind = f.behind;
          theirs = refl;
          barred = a.1;
          other = eqb_swap e.task x.task ∙ not-true (eqb x.task e.task) b.0;
        });
        first = f.first;
        ahead = x;
        rest = f.rest;
        behind = f.behind;
        theirs = refl;
        barred = a.1;
        no_earlier_ahead = none_every (holds_up (stuck q) e) f.first f.no_ahead;
        no_earlier_entry = λ c y d k o. f.no_entry c y d k (eq-eqb y.task t (o ∙ i));
      }

  line_at : (t : ℕ) → stuck q t ≡ true → Each (StuckLine q) (first_stuck_at (stuck q) q t)
  line_at t h = let f = stuck_first q t h in subst (Each (StuckLine q)) (sym f.line) (line_of t h f, tt)

  pub stuck_lines : Each (StuckLine q) (stuck_tasks q)
  unfolding stuck_tasks
  stuck_lines =
      each_gathered (stuck q) (first_stuck_at (stuck q) q) (StuckLine q) line_at (keep (stuck q) (numbers 1 highest_task))
      (kept_stuck q)

  pub stuck_line : (p : List StuckTask) (x : StuckTask) (r : List StuckTask) → stuck_tasks q ≡ p ++ (x ∷ r)
      → StuckLine q x
  stuck_line p x r e = each_at (StuckLine q) p x r (subst (Each (StuckLine q)) e stuck_lines)

  -- where there is no ring the list is empty
  pub ringless_none : (Ring q → ⊥) → stuck_tasks q ≡ []
  unfolding stuck_tasks
  ringless_none h =
      ap (gathered (first_stuck_at (stuck q) q))
      (keep_same (stuck q) (λ (t : ℕ). false) (numbers 1 highest_task)
      (λ t. not_so (stuck q t) (λ e. h (t, stuck_leads q t e)))
      ∙ keep_none (numbers 1 highest_task))
