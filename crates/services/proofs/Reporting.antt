-- How a gate, a list and the area for it make the answer of a report, whatever is listed; and that no table changes.
use mathlib.Core.Path.{◌≡◌, refl, sym, ap, ◌∙◌}
use mathlib.Core.Bool.{Bool, true, false}
use mathlib.Core.List.{List, [], ◌∷◌, map}
use Prim.Native.Nat.{ℕ, ◌≤◌}
use lib.Dec.{ltb}
use lib.ListN.{length}
use Rattle.lists.specs.Lists.{every}
use Rattle.lists.specs.Pick.{pick, on_true}
use Rattle.kinds.specs.Limits.{most_entries}
use Rattle.kinds.specs.Ranges.{task_good}
use Rattle.kinds.specs.Replies.Besides.{TheCount}
use Rattle.kinds.specs.declared.replies.Refusal.{Refusal}
use Rattle.kinds.specs.declared.replies.Refusal.TheVariants.{Unsound, ShortArea}
use Rattle.std.specs.Prelude.{Ok, Err}
use Rattle.kinds.specs.Replies.{Gate}
use Rattle.kinds.specs.declared.replies.Reply.{Reply}
use Rattle.kinds.specs.declared.replies.Reply.TheVariants.{Counted, Refused}
use Rattle.rules.specs.Tests.{refuse, first_of}
use Rattle.rules.specs.Codes.{written_on}
use Rattle.rules.specs.Names.{Resource}
use Rattle.rules.specs.Control.{Entry}
use Rattle.rules.specs.Steps.{Step, Outcome, Served, refused, done_with, untouched}
use Rattle.rules.specs.Admission.{gate_by, open_gate}
use Rattle.rules.specs.Reports.{ItemList, report_gate, reported, report_of, stuck_list, queues_list}
use Rattle.queue.specs.Queues.{entries_in}
use Rattle.rings.specs.Listings.{report_reply, report_written}
use Rattle.laws.specs.Running.{Running, running_parts}
use Rattle.laws.specs.Admitted.{open_by}
use Rattle.laws.specs.Numbered.{entries_good}
use Rattle.laws.specs.Tested.{gated as behind_gate, gate_by_lem}
use Rattle.laws.specs.Reported.{report_keeps}
use Rattle.laws.specs.Renaming.{re_named, Apart, all_known}
use Rattle.laws.specs.RenamedReports.{stuck_list_same, queues_list_same}
use Rattle.laws.specs.NamesAfter.{entry_names}
use Rattle.namearea.specs.Firsts.{is_in}
use Rattle.namearea.specs.Naming.{shown_in, names_known, shown_apart}
use Rattle.tables.specs.Tables as all
use Rattle.tables.proofs.Admits as admits
use Rattle.tables.specs.Bodies.{replied}
use Rattle.services.specs.Kept.{step_of, tables_of, said_with, soundb, served_by, answered_with}
use Rattle.services.specs.Serve.{gated}
use Rattle.services.specs.declared.Tables.{Tables}
use Rattle.services.specs.declared.Answer.{Answer}
use Rattle.services.proofs.Names.{entries_point, area_kept, sound_pointed, sound_packed, sound_tables_lem}
use Rattle.services.proofs.Glue.{refused_kept, gate_opens, served_shut}
use Rattle.services.proofs.Tables.stuck.Reads as stuck
use Rattle.services.proofs.Tables.queues.Reads as queues

-- THE GATE of a report is the open gate, with 104 behind it
gate_behind : (s : Step) (r : ItemList) (space : ℕ) (g : Gate) → open_gate s ≡ g
    → report_gate s r space ≡ gate_by (behind_gate g (first_of (refuse ShortArea (ltb space (length r.bytes)) ∷ [])))
unfolding report_gate open_gate
gate_behind s r space g e =
    let ts = refuse ShortArea (ltb space (length r.bytes)) ∷ [] in
    ap gate_by (gate_by_lem s.over true false ts) ∙ ap (λ (h : Gate). gate_by (behind_gate h (first_of ts))) e

-- WHAT AN OPEN GATE GIVES

module _ (t : Tables) (g : Gate) (e : g ≡ gated t open_gate) (h : g ≡ Ok tt) where
  abbrev opened : (soundb t ≡ true) × (open_gate (step_of t) ≡ Ok tt)
  opened = gate_opens t open_gate g e h

  report_running : Running (all.step_of t.all)
  unfolding open_gate
  report_running =
      running_parts (all.step_of t.all) (admits.sound_step_lem t.all (sound_pointed t opened.0))
      (open_by t.all.over true false opened.1).0

  -- as a report asks it: a place for each entry, and each of a task that has a number
  pub report_room : t.all.queue.count ≤ most_entries
  report_room = (sound_packed t opened.0).queue.room

  pub report_tasks : every (λ (x : Entry). task_good x.task) (entries_in t.all.queue) ≡ true
  report_tasks =
      let r = report_running in
      entries_good t.all.tasks.places (entries_in t.all.queue) r.tasks.fits r.queue.entries

-- THE ANSWER

module _ (t : Tables) (p : soundb t ≡ true) (r : ItemList) (area : List ℕ) where
  -- by whether the area is too short
  said_by : (short : Bool)
      → untouched (pick short area (written_on r.bytes area))
      (replied (pick short (Refused ShortArea) (Counted r.items)) t)
      ≡ served_by (reported (gate_by (first_of (refuse ShortArea short ∷ []))) (step_of t) r area)
  unfolding pick
  said_by true = ap (untouched area) (refused_kept t ShortArea p)
  said_by false =
      ap (λ (u : Tables). untouched (written_on r.bytes area) (done_with (TheCount r.items) u))
      (sym (sound_tables_lem t p))

-- WHICH NAMES STAND IN THE QUEUE is not told by a report: it is the same with pointers

-- of a list of either report
abbrev pub AsPointed : (List Entry → ItemList) → Type 0
AsPointed list = (f : Resource → Resource) (known : Resource → Bool) → Apart f known → (q : List Entry)
    → all_known known q ≡ true → list (map (re_named f) q) ≡ list q

module _ (t : Tables) (area : List ℕ) (list : List Entry → ItemList) (same : AsPointed list) where
  list_pointed : soundb t ≡ true → list (step_of t).queue ≡ list (entries_in t.all.queue)
  list_pointed h =
      let q = entries_in t.all.queue in
      same (shown_in t.names.bytes) (λ n. is_in n (entry_names q))
      (shown_apart t.names.bytes q (entries_point t.all.queue) (area_kept t h)) q (names_known q)

  -- an open gate
  pub report_open : (g : Gate) → g ≡ gated t open_gate → g ≡ Ok tt
      → (s : Outcome Tables) (b : Reply) (left : List ℕ) → s ≡ replied b t
      → b ≡ report_reply (list (entries_in t.all.queue)) (length area)
      → left ≡ report_written (list (entries_in t.all.queue)) area
      → untouched left s ≡ answered_with t area (report_of list)
  unfolding answered_with report_reply report_written
  report_open g e h s b left d k w =
      let r = list (entries_in t.all.queue) in
      let o = gate_opens t open_gate g e h in
      on_true (soundb t) _ _ _ o.0
      (ap (untouched left) (d ∙ ap (λ (x : Reply). replied x t) k)
      ∙ ap (λ (l : List ℕ). untouched l (replied (report_reply r (length area)) t)) w
      ∙ said_by t o.0 r area (ltb (length area) (length r.bytes))
      ∙ ap (λ (x : Gate). served_by (reported x (step_of t) r area))
      (sym (gate_behind (step_of t) r (length area) (Ok tt) o.1))
      ∙ ap (λ (x : ItemList). served_by (reported (report_gate (step_of t) x (length area)) (step_of t) x area))
      (sym (list_pointed o.0)))

  -- a gate that is shut refuses, and no byte is written
  pub report_shut : (g : Gate) (why : Refusal) → g ≡ gated t open_gate → g ≡ Err why → (s : Outcome Tables)
      → s ≡ refused why t
      → untouched area s ≡ answered_with t area (report_of list)
  report_shut g why e h s a =
      served_shut t area open_gate (report_of list) s g why e h a
      (λ k. ap (λ (x : Gate). reported x (step_of t) (list (step_of t).queue) area)
      (gate_behind (step_of t) (list (step_of t).queue) (length area) (Err why) k))

  -- NO TABLE CHANGES, whatever the number

  kept_by : (b : Bool) → soundb t ≡ b
      → (pick b (served_by (report_of list (step_of t) area)) (untouched area (refused Unsound t))).outcome.tables ≡ t
  unfolding pick
  kept_by true e = ap tables_of (report_keeps list (step_of t) area) ∙ sound_tables_lem t e
  kept_by false e = refl

  answer_keeps : (r : Answer) (left : List ℕ) → said_with r left ≡ answered_with t area (report_of list) → r.tables ≡ t
  unfolding answered_with
  answer_keeps r left h = ap (λ (o : Served Tables). o.outcome.tables) h ∙ kept_by (soundb t) refl

-- whatever fits a contract leaves the tables that were handed in: of what is given and of what comes back
abbrev pub Keeps : {K : Type 0} {A R E : K → Type 0} → ((k : K) → A k → R k → E k → Type 0) → ((k : K) → A k → Tables)
    → ((k : K) → R k → Tables) → Type 0
Keeps {K} {A} {R} {E} P given left = (k : K) (a : A k) (r : R k) (e : E k) → P k a r e → left k r ≡ given k a

pub stuck_keeps : Keeps stuck.Post (λ k a. a.0) (λ k r. r.tables)
stuck_keeps k a r e p = answer_keeps a.0 a.1.0.now stuck_list stuck_list_same r _ p

pub queues_keeps : Keeps queues.Post (λ k a. a.0) (λ k r. r.tables)
queues_keeps k a r e p = answer_keeps a.0 a.1.0.now queues_list queues_list_same r _ p
