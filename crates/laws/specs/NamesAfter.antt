-- THE NAMES IN THE QUEUE AFTER A REQUEST: some of those that stood there, and no more than before, or all of them and
-- behind them those that were asked for, but for some that stood there.
use Rattle.std.specs.Prelude.{◌≡◌, Bool, not, ◌&&◌, ◌||◌, ℕ, ◌≤◌, eqb, leb, length}
use Rattle.std.proofs.Math.Path.{refl, subst}
use Rattle.std.proofs.Common.{sym, ap, ◌∙◌, arith}
use Rattle.std.proofs.Math.Bool.{true, false, or-true}
use mathlib.Core.List.{List, [], ◌∷◌, ◌++◌, map, map-append, map-map}
use Rattle.std.proofs.lemmas.List.{length-map}
use Rattle.lists.specs.Lists.{keep, every, some}
use Rattle.lists.specs.Every.{every_of, every_gives}
use Rattle.lists.specs.Keeping.{every_keep, length_keep, keep_all, keep_map}
use Rattle.lists.specs.Pick.{pick, pick_true}
use Rattle.kinds.specs.Limits.{job_step_task}
use Rattle.kinds.specs.Replies.{fault_number}
use Rattle.kinds.specs.declared.numbers.TaskNumber.{TaskNumber}
use Rattle.std.specs.Prelude.{Option, Some, Ok, Err}
use Rattle.std.specs.Prelude.{None as Nothing}
use Rattle.kinds.specs.Replies.{Verdict, Gate}
use Rattle.kinds.specs.declared.replies.No.TheVariants.{Refuse, Fail}
use Rattle.kinds.specs.declared.numbers.Address.{Address}
use Rattle.kinds.specs.declared.numbers.EcbNumber.{EcbNumber}
use Rattle.kinds.specs.declared.areas.Area.{Area}
use Rattle.kinds.specs.declared.tasks.Task.{Task}
use Rattle.kinds.specs.declared.requests.Request.{Request}
use Rattle.kinds.specs.declared.requests.Request.TheVariants.{Attach, Detach, End, Abend, Enq, Deq, Wait, Post, Clear}
use Rattle.kinds.specs.declared.requests.Request.TheVariants.{Getmain, Freemain, Dispatch}
use Rattle.kinds.specs.declared.requests.Ret.{Ret}
use Rattle.kinds.specs.declared.requests.Ret.TheVariants.{None, Test, Use, Have, Chng}
use Rattle.rules.specs.Names.{Resource, Names, name_of, names_of, same_name}
use Rattle.rules.specs.Control.{Entry, of_task, is_for_one, has_entry}
use Rattle.rules.specs.Events.{Ecbs}
use Rattle.rules.specs.Family.{place}
use Rattle.rules.specs.ResourceWaits.{requeued}
use Rattle.rules.specs.Codes.{all_zero, coded}
use Rattle.rules.specs.Steps.{Step, Outcome, over_step, done}
use Rattle.rules.specs.Ending.{entry_stays, left_by, detached, end_posted, ended, failing}
use Rattle.rules.specs.Admission.{gate_of, open_gate, through, settled}
use Rattle.rules.specs.Attach.{attach_verdict, attach_done}
use Rattle.rules.specs.Detach.{detach_verdict, detach_done}
use Rattle.rules.specs.End.{end_verdict, end_done}
use Rattle.rules.specs.Abend.{abend_verdict, abend_done}
use Rattle.rules.specs.Enq.{enq_codes, fresh, to_queue, enq_verdict, entry_for, made_exclusive, enq_tail, only_if_zero}
use Rattle.rules.specs.Enq.{enq_change, enq_done}
use Rattle.rules.specs.Deq.{deq_codes, deq_verdict, released, deq_done}
use Rattle.rules.specs.Wait.{complete_of, wait_verdict, wait_done}
use Rattle.rules.specs.Post.{post_verdict, post_done}
use Rattle.rules.specs.Clear.{clear_verdict, clear_done}
use Rattle.rules.specs.Getmain.{wanted, getmain_verdict, given, getmain_done}
use Rattle.rules.specs.Storage.{lowest}
use Rattle.rules.specs.Freemain.{freemain_verdict, freemain_done}
use Rattle.rules.specs.Dispatch.{dispatch_body}
use Rattle.rules.specs.Serve.{service_of}
use Rattle.laws.specs.SameNames.{eq_name, name_sym}
use Rattle.laws.specs.KeptQueue.{coded_tables}

-- the name of each entry
abbrev pub entry_names : List Entry → List Resource
entry_names q = map (λ (e : Entry). e.name) q

-- what becomes of the names in the queue, where these are asked for
pub data NamesAfter (before asked after : List Resource) : Type 0 where
  fewer : every (λ (n : Resource). some (same_name n) before) after ≡ true → length after ≤ length before
      → NamesAfter before asked after
  more : (p : Resource → Bool) → after ≡ before ++ keep p asked
      → every (λ (n : Resource). p n || some (same_name n) before) asked ≡ true → NamesAfter before asked after

-- A NAME STANDS in a list
abbrev stands : List Resource → Resource → Bool
stands l n = some (same_name n) l

-- each name of a list stands in it
pub in_itself : (l : List Resource) → every (stands l) l ≡ true
in_itself [] = refl
in_itself (x ∷ l) =
    rw (eq_name x x refl) (every_gives (stands l) (stands (x ∷ l)) (λ n e. rw (e, or-true)) l (in_itself l))

-- a name that a task has an entry for stands among the names of the entries
entry_there : (q : List Entry) (t : ℕ) (n : Resource) → has_entry q t n ≡ true → stands (entry_names q) n ≡ true
entry_there [] t n h = h
entry_there (e ∷ q) t n h =
    one (of_task t e) (same_name e.name n) (name_sym n e.name) h (λ v. entry_there q t n v)
  where
    one : (a b : Bool) → same_name n e.name ≡ b → ((a && b) || has_entry q t n) ≡ true
        → (has_entry q t n ≡ true → stands (entry_names q) n ≡ true)
        → (same_name n e.name || stands (entry_names q) n) ≡ true
    one true true u v ih = rw u
    one true false u v ih = rw (ih v, or-true)
    one false b u v ih = rw (ih v, or-true)

-- BY STEPS

-- what one step leaves of the names in the queue of another
abbrev After : List Resource → Step → Step → Type 0
After asked s t = NamesAfter (entry_names s.queue) asked (entry_names t.queue)

-- what holds of both holds of a choice
of_either : {A : Type 0} (P : A → Type 0) (b : Bool) (t u : A) → P t → P u → P (pick b t u)
unfolding pick
of_either P true t u h k = h
of_either P false t u h k = k

module _ (asked : List Resource) where
  -- what is kept of a queue
  kept : (p : Entry → Bool) (q : List Entry) → NamesAfter (entry_names q) asked (entry_names (keep p q))
  kept p q =
      fewer
      (every_of (λ (e : Entry). e.name) (stands (entry_names q)) (keep p q)
      ∙ every_keep (λ (e : Entry). stands (entry_names q) e.name) p q
      (sym (every_of (λ (e : Entry). e.name) (stands (entry_names q)) q) ∙ in_itself (entry_names q)))
      (simp length-map (length_keep p q))

  -- all of it
  whole : (l : List Resource) → NamesAfter l asked l
  whole l = fewer (in_itself l) (omega arith)

  -- nothing
  emptied : (l : List Resource) → NamesAfter l asked []
  emptied l = fewer refl (omega arith)

  -- ENDINGS

  -- entries leave
  left_after : (s : Step) (ts : List Task) → After asked s (left_by s ts)
  unfolding left_by
  left_after s ts = kept (entry_stays ts) s.queue

  -- a post looks at no entry
  posted_after : (s t : Step) (m : Option EcbNumber) (code : ℕ) → After asked s t → After asked s (end_posted t m code)
  posted_after s t Nothing code h = h
  posted_after s t (Some e) code h = h

  -- a step that is over holds none
  over_after : (s : Step) (code : ℕ) → After asked s (over_step code)
  unfolding over_step
  over_after s code = emptied (entry_names s.queue)

  -- task c ends with a code
  ended_after : (s : Step) (c code : ℕ) → After asked s (ended s c code)
  unfolding ended
  ended_after s c code =
      of_either (After asked s) (eqb c job_step_task) (over_step code) _ (over_after s code)
      (posted_after s _ (place s.tasks c).ecb code (left_after s _))

  -- THE GATE AND THE VERDICT

  -- a gate that is shut changes nothing
  through_after : (g : Gate) (s : Step) (o : Outcome Step) → After asked s o.tables
      → After asked s (through g s o).tables
  unfolding through
  through_after (Ok _) s o h = h
  through_after (Err why) s o h = whole (entry_names s.queue)

  -- a refusal changes nothing, and a program error ends the caller
  settled_after : (v : Verdict) (s : Step) (c : TaskNumber) (o : Outcome Step) → After asked s o.tables
      → After asked s (settled v s c o).tables
  unfolding settled failing
  settled_after (Ok _) s c o h = h
  settled_after (Err (Refuse why)) s c o h = whole (entry_names s.queue)
  settled_after (Err (Fail what)) s c o h = ended_after s c.0 (fault_number what)

  -- a service behind the caller's gate
  gated_after : (v : Verdict) (s : Step) (c : TaskNumber) (o : Outcome Step) → After asked s o.tables
      → After asked s (through (gate_of s c) s (settled v s c o)).tables
  gated_after v s c o h = through_after (gate_of s c) s (settled v s c o) (settled_after v s c o h)

  -- WHAT THE SERVICES DO THAT LOOK AT NO NAME

  detach_after : (s : Step) (task : TaskNumber) → After asked s (detach_done s task).tables
  unfolding detach_done detached
  detach_after s task = left_after s _

  end_after : (s : Step) (c : TaskNumber) (code : ℕ) → After asked s (end_done s c code).tables
  unfolding end_done
  end_after s c code = ended_after s c.0 code

  abend_after : (s : Step) (c : TaskNumber) (code : ℕ) (step : Bool) → After asked s (abend_done s c code step).tables
  unfolding abend_done pick
  abend_after s c code true = over_after s code
  abend_after s c code false = ended_after s c.0 code

  wait_after : (s : Step) (c : TaskNumber) (es : Ecbs) (n : ℕ) → After asked s (wait_done s c es n).tables
  unfolding wait_done
  wait_after s c es n =
      of_either (λ (o : Outcome Step). After asked s o.tables) (leb n (complete_of s.ecbs es)) (done s) _
      (whole (entry_names s.queue)) (whole (entry_names s.queue))

  given_after : (s : Step) (a : Area) (m : Option Address) → After asked s (given s a m).tables
  given_after s a (Some p) = whole (entry_names s.queue)
  given_after s a Nothing = whole (entry_names s.queue)

  -- the codes decide the answer, and not what is left
  coded_after : (k : List ℕ) (s t : Step) → After asked s t → After asked s (coded k t).tables
  coded_after k s t h = subst (After asked s) (sym (coded_tables k t)) h

-- ENQ

module _ (s : Step) (c : ℕ) (l : Names) where
  -- what is to be queued comes behind what stood there
  tail_after : (ret : Ret) (p : Resource → Bool) → map name_of (to_queue ret s.queue c l) ≡ keep p (names_of l)
      → every (λ (n : Resource). p n || stands (entry_names s.queue) n) (names_of l) ≡ true
      → After (names_of l) s (enq_tail ret s c l)
  tail_after ret p e h =
      more p
      (map-append (λ (x : Entry). x.name) s.queue (map (entry_for c) (to_queue ret s.queue c l))
      ∙ ap (λ (k : List Resource). entry_names s.queue ++ k)
      (map-map (λ (x : Entry). x.name) (entry_for c) (to_queue ret s.queue c l) ∙ e))
      h

  -- all asks
  all_after : (ret : Ret) → to_queue ret s.queue c l ≡ l.asks → After (names_of l) s (enq_tail ret s c l)
  all_after ret e =
      tail_after ret (λ (n : Resource). true) (ap (map name_of) e ∙ sym (keep_all (names_of l)))
      (every_gives (stands (names_of l)) (λ (n : Resource). true) (λ n u. refl) (names_of l) (in_itself (names_of l)))

  -- under HAVE those that the caller has no entry for
  rest_after : to_queue Have s.queue c l ≡ keep (fresh s.queue c) l.asks → After (names_of l) s
      (enq_tail Have s c l)
  rest_after e =
      tail_after Have (λ (n : Resource). not (has_entry s.queue c n))
      (ap (map name_of) e ∙ sym (keep_map name_of (λ (n : Resource). not (has_entry s.queue c n)) l.asks))
      (every_gives (stands (names_of l)) _ (λ n u. one n (has_entry s.queue c n) refl) (names_of l)
      (in_itself (names_of l)))
    where
      one : (n : Resource) (b : Bool) → has_entry s.queue c n ≡ b
          → (not (has_entry s.queue c n) || stands (entry_names s.queue) n) ≡ true
      one n true u = rw (u, entry_there s.queue c n u)
      one n false u = rw u

  -- "only if every code is 0"
  if_zero : (k : List ℕ) (t : Step) → (all_zero k ≡ true → After (names_of l) s t)
      → After (names_of l) s (only_if_zero k t s)
  unfolding pick
  if_zero k t h = one (all_zero k) refl
    where
      one : (b : Bool) → all_zero k ≡ b → After (names_of l) s (pick b t s)
      one true e = h e
      one false e = whole (names_of l) (entry_names s.queue)

  -- entries that become exclusive keep their names
  exclusive_after : After (names_of l) s (requeued s (map (made_exclusive c (names_of l)) s.queue))
  unfolding made_exclusive
  exclusive_after =
      subst (NamesAfter (entry_names s.queue) (names_of l))
      (sym (map-map (λ (e : Entry). e.name) (made_exclusive c (names_of l)) s.queue))
      (whole (names_of l) (entry_names s.queue))

  -- the column "then"
  change_after : (ret : Ret) → After (names_of l) s (enq_change ret s c l)
  unfolding to_queue
  change_after None = all_after None refl
  change_after Test = whole (names_of l) (entry_names s.queue)
  change_after Use =
      if_zero (enq_codes Use s.queue c l) (enq_tail Use s c l)
      (λ z. all_after Use (pick_true _ l.asks [] z))
  change_after Have = rest_after refl
  change_after Chng = if_zero (enq_codes Chng s.queue c l) _ (λ z. exclusive_after)

-- EVERY SERVICE
pub names_after : (s : Step) (q : Request) (ns : Names) (es : Ecbs) (area : List ℕ)
    → NamesAfter (entry_names s.queue) (names_of ns) (entry_names (service_of s q ns es area).outcome.tables.queue)
unfolding service_of attach_done enq_done deq_done post_done clear_done getmain_done freemain_done dispatch_body
names_after s (Attach c lpmod dpmod ecb) ns es area =
    gated_after (names_of ns) (attach_verdict s.tasks lpmod dpmod ecb) s c (attach_done s c lpmod dpmod ecb)
    (whole (names_of ns) (entry_names s.queue))
names_after s (Detach c task) ns es area =
    gated_after (names_of ns) (detach_verdict s.tasks c task) s c (detach_done s task)
    (detach_after (names_of ns) s task)
names_after s (End c code) ns es area =
    gated_after (names_of ns) (end_verdict s.tasks c code) s c (end_done s c code) (end_after (names_of ns) s c code)
names_after s (Abend c code step) ns es area =
    gated_after (names_of ns) (abend_verdict code) s c (abend_done s c code step) (abend_after (names_of ns) s c code step)
names_after s (Enq c ret) ns es area =
    gated_after (names_of ns) (enq_verdict s.queue c ret ns (length area)) s c (enq_done s c ret ns)
    (coded_after (names_of ns) (enq_codes ret s.queue c.0 ns) s (enq_change ret s c.0 ns)
    (change_after s c.0 ns ret))
names_after s (Deq c ret) ns es area =
    gated_after (names_of ns) (deq_verdict s.queue c ret ns (length area)) s c (deq_done s c ret ns)
    (coded_after (names_of ns) (deq_codes ret s.queue c.0 ns) s
    (requeued s (released c.0 (names_of ns) s.queue))
    (kept (names_of ns) (λ (e : Entry). not (is_for_one c.0 (names_of ns) e)) s.queue))
names_after s (Wait c n) ns es area =
    gated_after (names_of ns) (wait_verdict s.ecbs es n) s c (wait_done s c es n) (wait_after (names_of ns) s c es n)
names_after s (Post c e code) ns es area =
    gated_after (names_of ns) (post_verdict e code) s c (post_done s e code) (whole (names_of ns) (entry_names s.queue))
names_after s (Clear c e) ns es area =
    gated_after (names_of ns) (clear_verdict s.ecbs e) s c (clear_done s e)
    (whole (names_of ns) (entry_names s.queue))
names_after s (Getmain c bytes subpool conditional) ns es area =
    gated_after (names_of ns) (getmain_verdict s.areas c bytes subpool conditional) s c (getmain_done s c bytes subpool)
    (given_after (names_of ns) s (wanted bytes subpool c.0) (lowest s.areas (wanted bytes subpool c.0)))
names_after s (Freemain c address bytes subpool) ns es area =
    gated_after (names_of ns) (freemain_verdict s.areas c address bytes subpool) s c
    (freemain_done s c address bytes subpool) (whole (names_of ns) (entry_names s.queue))
names_after s Dispatch ns es area =
    through_after (names_of ns) (open_gate s) s (dispatch_body s) (whole (names_of ns) (entry_names s.queue))
