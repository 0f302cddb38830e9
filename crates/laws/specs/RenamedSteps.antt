-- NAMES FOR NAMES, SERVICE BY SERVICE: where different names stay different, every service does the same under the
-- changed names.
use Rattle.std.specs.Prelude.{◌≡◌, ◌&&◌, ℕ, eqb, leb, ltb, length}
use Rattle.std.proofs.Math.Path.{refl, sym, ap, ap₂}
use Rattle.std.proofs.Common.{◌∙◌}
use Rattle.std.proofs.Math.Bool.{Bool, true, false, not}
use mathlib.Core.List.{List, [], ◌∷◌, map}
use Rattle.std.proofs.lemmas.List.{length-map}
use borrow.Author.Tests.{not-true}
use Rattle.lists.specs.Lists.{keep, every, distinct}
use Rattle.lists.specs.Bools.{both, join}
use Rattle.lists.specs.Every.{some_of}
use Rattle.lists.specs.Keeping.{keep_map, every_keep}
use Rattle.lists.specs.Pick.{pick, pick_true, chain_and}
use Rattle.kinds.specs.Limits.{job_step_task}
use Rattle.kinds.specs.Ranges.{count_good}
use Rattle.kinds.specs.Replies.{fault_number}
use Rattle.kinds.specs.declared.numbers.TaskNumber.{TaskNumber}
use Rattle.kinds.specs.declared.areas.Area.{Area}
use Rattle.std.specs.Prelude.{Option, Some, Ok, Err}
use Rattle.std.specs.Prelude.{None as Nothing}
use Rattle.kinds.specs.Replies.{Verdict, Gate}
use Rattle.kinds.specs.declared.replies.No.TheVariants.{Refuse, Fail}
use Rattle.kinds.specs.declared.numbers.Address.{Address}
use Rattle.kinds.specs.declared.numbers.EcbNumber.{EcbNumber}
use Rattle.kinds.specs.declared.tasks.Task.{Task}
use Rattle.kinds.specs.declared.requests.Request.{Request}
use Rattle.kinds.specs.declared.requests.Request.TheVariants.{Attach, Detach, End, Abend, Enq, Deq, Wait, Post, Clear}
use Rattle.kinds.specs.declared.requests.Request.TheVariants.{Getmain, Freemain, Dispatch}
use Rattle.kinds.specs.declared.requests.Ret.{Ret}
use Rattle.kinds.specs.declared.requests.Ret.TheVariants.{None, Test, Use, Have, Chng}
use Rattle.kinds.specs.declared.requests.DeqRet.{DeqRet}
use Rattle.kinds.specs.declared.replies.Refusal.TheVariants.{OutOfRange, SystemName, ShortArea, NoEntryFree}
use Rattle.kinds.specs.declared.replies.Fault.TheVariants.{DuplicateEnq, DeqWithoutEntry}
use Rattle.rules.specs.Tests.{refuse, fail, first_of}
use Rattle.rules.specs.Names.{Resource, Ask, Names, names_of, same_name, legal, lawful, names_good, asks_system}
use Rattle.rules.specs.Control.{Entry}
use Rattle.rules.specs.Events.{Ecbs}
use Rattle.rules.specs.Family.{place}
use Rattle.rules.specs.ResourceWaits.{requeued}
use Rattle.rules.specs.Codes.{all_zero, coded, written_on, too_short}
use Rattle.rules.specs.Steps.{Step, with_tasks, with_queue, over_step, Outcome, done, four, failed, kept_by, Served}
use Rattle.rules.specs.Steps.{untouched}
use Rattle.rules.specs.Ending.{entry_stays, end_tasks, left_by, detached, ended_place, end_posted, ended, failing}
use Rattle.rules.specs.Admission.{gate_of, open_gate, through, settled, codes_through}
use Rattle.rules.specs.Attach.{attach_verdict, attach_done}
use Rattle.rules.specs.Detach.{detach_verdict, detach_done}
use Rattle.rules.specs.End.{end_verdict, end_done}
use Rattle.rules.specs.Abend.{abend_verdict, abend_done}
use Rattle.rules.specs.Enq.{enq_codes, enq_codes_due, to_queue, asks_shared, duplicated, too_few_free, enq_good, enq_verdict}
use Rattle.rules.specs.Enq.{with_tail, made_exclusive, enq_tail, only_if_zero, enq_change, enq_done, enq_written, enq_of}
use Rattle.rules.specs.Deq.{deq_codes, deq_codes_due, unentered, deq_verdict, released, deq_done, deq_written, deq_of}
use Rattle.rules.specs.Wait.{complete_of, wait_verdict, wait_done}
use Rattle.rules.specs.Post.{post_verdict, post_done}
use Rattle.rules.specs.Clear.{clear_verdict, clear_done}
use Rattle.rules.specs.Getmain.{wanted, getmain_verdict, given, getmain_done}
use Rattle.rules.specs.Storage.{lowest}
use Rattle.rules.specs.Freemain.{freemain_verdict, freemain_done}
use Rattle.rules.specs.Dispatch.{dispatch_body}
use Rattle.rules.specs.Serve.{service_of}
use Rattle.laws.specs.KeptQueue.{good_names}
use Rattle.laws.specs.LawfulNames.{lawful_each}
use Rattle.laws.specs.Renaming.{re_named, re_asked, re_names, Apart, all_known, waits_same, distinct_same}
use Rattle.laws.specs.Renaming.{released_same, exclusive_same, exclusive_known, names_of_lem, enq_codes_same}
use Rattle.laws.specs.Renaming.{deq_codes_same, to_queue_same, duplicated_same, too_few_same, unentered_same}
use Rattle.laws.specs.Renaming.{tail_same, tail_known}

-- other names in the queue of a step, and in the step that a service gives back
abbrev pub re_step : (Resource → Resource) → Step → Step
re_step f s = with_queue s (map (re_named f) s.queue)

abbrev pub re_outcome : (Resource → Resource) → Outcome Step → Outcome Step
re_outcome f o = kept_by (re_step f) o

abbrev pub re_served : (Resource → Resource) → Served Step → Served Step
re_served f o = record { outcome = re_outcome f o.outcome; codes = o.codes }

-- the names beside a request have passed its tests of names: 101 and 110 of ENQ, 101 of DEQ; no other request looks at
-- names
abbrev pub NamesTested : Request → Names → Type 0
NamesTested (Attach c lpmod dpmod ecb) ns = Unit
NamesTested (Detach c task) ns = Unit
NamesTested (End c code) ns = Unit
NamesTested (Abend c code step) ns = Unit
NamesTested (Enq c ret) ns = (enq_good ret ns ≡ true) × (asks_system ns ≡ false)
NamesTested (Deq c ret) ns = names_good ns ≡ true
NamesTested (Wait c n) ns = Unit
NamesTested (Post c e code) ns = Unit
NamesTested (Clear c e) ns = Unit
NamesTested (Getmain c bytes subpool conditional) ns = Unit
NamesTested (Freemain c address bytes subpool) ns = Unit
NamesTested Dispatch ns = Unit

-- a choice between two outcomes
choice : (f : Resource → Resource) (b : Bool) (o p : Outcome Step)
    → pick b (re_outcome f o) (re_outcome f p) ≡ re_outcome f (pick b o p)
unfolding pick
choice f true o p = refl
choice f false o p = refl

module _ (f : Resource → Resource) (known : Resource → Bool) (r : Apart f known) where
  abbrev R : Entry → Entry
  R = re_named f

  -- THE QUEUE CHANGES

  -- and with it every resource wait
  requeued_same : (s : Step) (q : List Entry) → all_known known q ≡ true
      → requeued (re_step f s) (map R q) ≡ re_step f (requeued s q)
  requeued_same s q h =
      ap (λ (ts : List Task). with_queue (with_tasks s ts) (map R q)) (waits_same f known r q s.tasks h)

  -- ENDINGS

  -- what is left where the places have become ts
  pub left_same : (s : Step) (ts : List Task) → all_known known s.queue ≡ true
      → left_by (re_step f s) ts ≡ re_step f (left_by s ts)
  unfolding left_by
  left_same s ts h =
      ap (requeued rest) (keep_map R (entry_stays ts) s.queue)
      ∙ requeued_same rest (keep (entry_stays ts) s.queue)
      (every_keep (λ (e : Entry). known e.name) (entry_stays ts) s.queue h)
    where
      rest : Step
      rest = with_tasks (left_by s ts) ts

  -- a post looks at no entry
  posted_same : (s : Step) (m : Option EcbNumber) (code : ℕ) → end_posted (re_step f s) m code ≡ re_step f (end_posted s m code)
  posted_same s Nothing code = refl
  posted_same s (Some e) code = refl

  -- task c ends with a code
  pub ended_same : (s : Step) (c code : ℕ) → all_known known s.queue ≡ true
      → ended (re_step f s) c code ≡ re_step f (ended s c code)
  unfolding ended over_step pick
  ended_same s c code h = one (eqb c job_step_task)
    where
      last : Task
      last = ended_place (place s.tasks c) (place s.tasks c).ecb

      one : (b : Bool)
          → pick b (over_step code)
          (end_posted (left_by (re_step f s) (end_tasks s.tasks c last)) (place s.tasks c).ecb code)
          ≡ re_step f (pick b (over_step code)
          (end_posted (left_by s (end_tasks s.tasks c last)) (place s.tasks c).ecb code))
      one true = refl
      one false =
          ap (λ (t : Step). end_posted t (place s.tasks c).ecb code)
          (left_same s (end_tasks s.tasks c last) h)
          ∙ posted_same (left_by s (end_tasks s.tasks c last)) (place s.tasks c).ecb code

  -- THE GATE AND THE VERDICT

  -- a gate refuses alike
  through_same : (g : Gate) (s : Step) (o p : Outcome Step) → p ≡ re_outcome f o
      → through g (re_step f s) p ≡ re_outcome f (through g s o)
  unfolding through
  through_same (Ok _) s o p e = e
  through_same (Err why) s o p e = refl

  -- a verdict refuses alike, and ends the caller alike
  settled_same : (v : Verdict) (s : Step) (c : TaskNumber) (o p : Outcome Step) → all_known known s.queue ≡ true
      → p ≡ re_outcome f o → settled v (re_step f s) c p ≡ re_outcome f (settled v s c o)
  unfolding settled failing
  settled_same (Ok _) s c o p h e = e
  settled_same (Err (Refuse why)) s c o p h e = refl
  settled_same (Err (Fail what)) s c o p h e = ap (failed what) (ended_same s c.0 (fault_number what) h)

  -- a service with the same verdict, behind the caller's gate
  gated_same : (v : Verdict) (s : Step) (c : TaskNumber) (o p : Outcome Step) → all_known known s.queue ≡ true
      → p ≡ re_outcome f o
      → through (gate_of (re_step f s) c) (re_step f s) (settled v (re_step f s) c p)
      ≡ re_outcome f (through (gate_of s c) s (settled v s c o))
  unfolding gate_of
  gated_same v s c o p h e =
      through_same (gate_of s c) s (settled v s c o) (settled v (re_step f s) c p) (settled_same v s c o p h e)

  -- a service that writes no codes
  plain_same : (v : Verdict) (s : Step) (c : TaskNumber) (o p : Outcome Step) (area : List ℕ)
      → all_known known s.queue ≡ true → p ≡ re_outcome f o
      → untouched area (through (gate_of (re_step f s) c) (re_step f s) (settled v (re_step f s) c p))
      ≡ re_served f (untouched area (through (gate_of s c) s (settled v s c o)))
  plain_same v s c o p area h e = ap (untouched area) (gated_same v s c o p h e)

  -- WHAT THE SERVICES DO THAT LOOK AT NO NAME

  detach_same : (s : Step) (task : TaskNumber) → all_known known s.queue ≡ true
      → detach_done (re_step f s) task ≡ re_outcome f (detach_done s task)
  unfolding detach_done detached
  detach_same s task h = ap done (left_same s _ h)

  end_same : (s : Step) (c : TaskNumber) (code : ℕ) → all_known known s.queue ≡ true
      → end_done (re_step f s) c code ≡ re_outcome f (end_done s c code)
  unfolding end_done
  end_same s c code h = ap done (ended_same s c.0 code h)

  abend_same : (s : Step) (c : TaskNumber) (code : ℕ) (step : Bool) → all_known known s.queue ≡ true
      → abend_done (re_step f s) c code step ≡ re_outcome f (abend_done s c code step)
  unfolding abend_done over_step pick
  abend_same s c code true h = refl
  abend_same s c code false h = ap done (ended_same s c.0 code h)

  wait_same : (s : Step) (c : TaskNumber) (es : Ecbs) (n : ℕ)
      → wait_done (re_step f s) c es n ≡ re_outcome f (wait_done s c es n)
  unfolding wait_done
  wait_same s c es n = choice f (leb n (complete_of s.ecbs es)) (done s) _

  given_same : (s : Step) (a : Area) (m : Option Address) → given (re_step f s) a m ≡ re_outcome f (given s a m)
  given_same s a (Some p) = refl
  given_same s a Nothing = refl

  -- CODES

  -- they decide the answer
  coded_same : (k : List ℕ) (s : Step) → coded k (re_step f s) ≡ re_outcome f (coded k s)
  unfolding coded
  coded_same k s = choice f (all_zero k) (done s) (four s)

  -- "only if every code is 0"
  if_zero_same : (k : List ℕ) (t s u : Step) → u ≡ re_step f t
      → only_if_zero k u (re_step f s) ≡ re_step f (only_if_zero k t s)
  unfolding pick
  if_zero_same k t s u e = one (all_zero k)
    where
      one : (b : Bool) → pick b u (re_step f s) ≡ re_step f (pick b t s)
      one true = e
      one false = refl

  -- THE NAMES BESIDE A REQUEST

  -- 104 looks only at how many there are
  short_same : (space : ℕ) (ns : Names) → too_short space (re_names f ns) ≡ too_short space ns
  unfolding too_short
  short_same space ns = ap (ltb space) (length-map ns.asks (re_asked f))

  -- and "CHNG asks for shared" at none of them
  shared_same : (ret : Ret) (ns : Names) → asks_shared ret (re_names f ns) ≡ asks_shared ret ns
  shared_same None ns = refl
  shared_same Test ns = refl
  shared_same Use ns = refl
  shared_same Have ns = refl
  shared_same Chng ns = some_of (re_asked f) (λ (a : Ask). not a.exclusive) ns.asks

  -- WHAT ENQ DOES

  -- what is to be queued stands at the tail
  enq_tail_same : (ret : Ret) (s : Step) (c : ℕ) (ns : Names) → all_known known s.queue ≡ true
      → every known (names_of ns) ≡ true → enq_tail ret (re_step f s) c (re_names f ns) ≡ re_step f (enq_tail ret s c ns)
  enq_tail_same ret s c ns h k =
      ap (requeued s) (ap (with_tail (map R s.queue) c) (to_queue_same f known r ret s.queue c ns h k)
      ∙ sym (tail_same f known r s.queue c (to_queue ret s.queue c ns)))
      ∙ requeued_same s (with_tail s.queue c (to_queue ret s.queue c ns))
      (tail_known f known r ret s.queue c ns h k)

  -- the column "then"
  enq_change_same : (ret : Ret) (s : Step) (c : ℕ) (ns : Names) → all_known known s.queue ≡ true
      → every known (names_of ns) ≡ true → enq_change ret (re_step f s) c (re_names f ns) ≡ re_step f (enq_change ret s c ns)
  enq_change_same None s c ns h k = enq_tail_same None s c ns h k
  enq_change_same Test s c ns h k = refl
  enq_change_same Use s c ns h k =
      ap (λ (m : List ℕ). only_if_zero m (enq_tail Use (re_step f s) c (re_names f ns)) (re_step f s))
      (enq_codes_same f known r Use s.queue c ns h k)
      ∙ if_zero_same (enq_codes Use s.queue c ns) (enq_tail Use s c ns) s _ (enq_tail_same Use s c ns h k)
  enq_change_same Have s c ns h k = enq_tail_same Have s c ns h k
  enq_change_same Chng s c ns h k =
      ap (λ (m : List ℕ).
      only_if_zero m (requeued s (map (made_exclusive c (names_of (re_names f ns))) (map R s.queue))) (re_step f s))
      (enq_codes_same f known r Chng s.queue c ns h k)
      ∙ if_zero_same (enq_codes Chng s.queue c ns) (requeued s (map (made_exclusive c (names_of ns)) s.queue)) s _
      (ap (λ (m : List Resource). requeued s (map (made_exclusive c m) (map R s.queue))) (names_of_lem f known r ns)
      ∙ ap (requeued s) (exclusive_same f known r c (names_of ns) s.queue h k)
      ∙ requeued_same s (map (made_exclusive c (names_of ns)) s.queue)
      (exclusive_known f known r c (names_of ns) s.queue h))

  enq_done_same : (s : Step) (c : TaskNumber) (ret : Ret) (ns : Names) → all_known known s.queue ≡ true
      → every known (names_of ns) ≡ true → enq_done (re_step f s) c ret (re_names f ns) ≡ re_outcome f (enq_done s c ret ns)
  unfolding enq_done
  enq_done_same s c ret ns h k =
      ap₂ coded (enq_codes_same f known r ret s.queue c.0 ns h k) (enq_change_same ret s c.0 ns h k)
      ∙ coded_same (enq_codes ret s.queue c.0 ns) (enq_change ret s c.0 ns)

  -- WHAT DEQ DOES

  deq_done_same : (s : Step) (c : TaskNumber) (ret : DeqRet) (ns : Names) → all_known known s.queue ≡ true
      → every known (names_of ns) ≡ true → deq_done (re_step f s) c ret (re_names f ns) ≡ re_outcome f (deq_done s c ret ns)
  unfolding deq_done
  deq_done_same s c ret ns h k =
      ap₂ coded (deq_codes_same f known r ret s.queue c.0 ns h k)
      (ap (λ (m : List Resource). requeued s (released c.0 m (map R s.queue))) (names_of_lem f known r ns)
      ∙ ap (requeued s) (released_same f known r c.0 (names_of ns) s.queue h k)
      ∙ requeued_same s (released c.0 (names_of ns) s.queue)
      (every_keep (λ (e : Entry). known e.name) _ s.queue h))
      ∙ coded_same (deq_codes ret s.queue c.0 ns) (requeued s (released c.0 (names_of ns) s.queue))

  -- NAMES THAT HAVE PASSED pass where they are changed to lawful ones
  module _ (lawfully : (n : Resource) → lawful (f n) ≡ true) where
    -- all changed names are lawful
    each_lawful : (l : List Resource) → every lawful (map f l) ≡ true
    each_lawful [] = refl
    each_lawful (n ∷ l) = join (lawful (f n)) (every lawful (map f l)) (lawfully n) (each_lawful l)

    -- so they are legal, and none is a system name
    legal_free : (ns : Names) → (every legal (names_of (re_names f ns)) ≡ true) × (asks_system (re_names f ns) ≡ false)
    unfolding asks_system
    legal_free ns =
        let e = ap (every lawful) (names_of_lem f known r ns) ∙ each_lawful (names_of ns) in
        let b = both (every legal (names_of (re_names f ns))) _ (sym (lawful_each (names_of (re_names f ns))) ∙ e) in
        (b.0, not-true _ b.1)

    -- 101, of any list
    names_pass : (ns : Names) → every known (names_of ns) ≡ true → names_good ns ≡ true → names_good (re_names f ns) ≡ true
    unfolding names_good
    names_pass ns k g =
        let a = chain_and (count_good ns.count) _ g in
        pick_true (count_good ns.count) _ false a.0
        ∙ pick_true (every legal (names_of (re_names f ns))) _ false (legal_free ns).0
        ∙ ap (distinct same_name) (names_of_lem f known r ns) ∙ distinct_same f known r (names_of ns) k
        ∙ (good_names ns g).1

    -- 101, of ENQ
    enq_pass : (ret : Ret) (ns : Names) → every known (names_of ns) ≡ true → enq_good ret ns ≡ true
        → enq_good ret (re_names f ns) ≡ true
    unfolding enq_good
    enq_pass ret ns k g =
        let b = both (names_good ns) (not (asks_shared ret ns)) g in
        join (names_good (re_names f ns)) (not (asks_shared ret (re_names f ns))) (names_pass ns k b.0)
        (ap not (shared_same ret ns) ∙ b.1)

    -- the tests of names of a request
    pub tested_same : (q : Request) (ns : Names) → every known (names_of ns) ≡ true → NamesTested q ns
        → NamesTested q (re_names f ns)
    tested_same (Attach c lpmod dpmod ecb) ns k g = tt
    tested_same (Detach c task) ns k g = tt
    tested_same (End c code) ns k g = tt
    tested_same (Abend c code step) ns k g = tt
    tested_same (Enq c ret) ns k g = (enq_pass ret ns k g.0, (legal_free ns).1)
    tested_same (Deq c ret) ns k g = names_pass ns k g
    tested_same (Wait c n) ns k g = tt
    tested_same (Post c e code) ns k g = tt
    tested_same (Clear c e) ns k g = tt
    tested_same (Getmain c bytes subpool conditional) ns k g = tt
    tested_same (Freemain c address bytes subpool) ns k g = tt
    tested_same Dispatch ns k g = tt

    -- THE VERDICTS

    enq_verdict_same : (q : List Entry) (c : TaskNumber) (ret : Ret) (ns : Names) (space : ℕ) → all_known known q ≡ true
        → every known (names_of ns) ≡ true → enq_good ret ns ≡ true → asks_system ns ≡ false
        → enq_verdict (map R q) c ret (re_names f ns) space ≡ enq_verdict q c ret ns space
    unfolding enq_verdict
    enq_verdict_same q c ret ns space h k g y =
        ap₂ (λ (u v : Bool). by u v (enq_codes_due ret && too_short space (re_names f ns))
        (duplicated ret (map R q) c.0 (re_names f ns)) (too_few_free ret (map R q) c.0 (re_names f ns)))
        (ap not (enq_pass ret ns k g ∙ sym g)) ((legal_free ns).1 ∙ sym y)
        ∙ ap (λ (b : Bool). by (not (enq_good ret ns)) (asks_system ns) (enq_codes_due ret && b)
        (duplicated ret (map R q) c.0 (re_names f ns)) (too_few_free ret (map R q) c.0 (re_names f ns)))
        (short_same space ns)
        ∙ ap₂ (λ (u v : Bool). by (not (enq_good ret ns)) (asks_system ns) (enq_codes_due ret && too_short space ns) u v)
        (duplicated_same f known r ret q c.0 ns h k) (too_few_same f known r ret q c.0 ns h k)
      where
        by : Bool → Bool → Bool → Bool → Bool → Verdict
        by a b d e g = first_of (refuse OutOfRange a ∷ refuse SystemName b ∷ refuse ShortArea d ∷ fail DuplicateEnq e
            ∷ refuse NoEntryFree g ∷ [])

    deq_verdict_same : (q : List Entry) (c : TaskNumber) (ret : DeqRet) (ns : Names) (space : ℕ)
        → all_known known q ≡ true → every known (names_of ns) ≡ true → names_good ns ≡ true
        → deq_verdict (map R q) c ret (re_names f ns) space ≡ deq_verdict q c ret ns space
    unfolding deq_verdict
    deq_verdict_same q c ret ns space h k g =
        ap₂ (λ (u v : Bool). by (not u) (deq_codes_due ret && v) (unentered ret (map R q) c.0 (re_names f ns)))
        (names_pass ns k g ∙ sym g) (short_same space ns)
        ∙ ap (by (not (names_good ns)) (deq_codes_due ret && too_short space ns))
        (unentered_same f known r ret q c.0 ns h k)
      where
        by : Bool → Bool → Bool → Verdict
        by a b d = first_of (refuse OutOfRange a ∷ refuse ShortArea b ∷ fail DeqWithoutEntry d ∷ [])

    -- ENQ AND DEQ

    enq_same : (s : Step) (c : TaskNumber) (ret : Ret) (ns : Names) (area : List ℕ) → all_known known s.queue ≡ true
        → every known (names_of ns) ≡ true → enq_good ret ns ≡ true → asks_system ns ≡ false
        → enq_of (re_step f s) c ret (re_names f ns) area ≡ re_served f (enq_of s c ret ns area)
    unfolding gate_of enq_written
    enq_same s c ret ns area h k g y =
        let v = enq_verdict_same s.queue c ret ns (length area) h k g y in
        ap₂ (λ (o : Outcome Step) (m : List ℕ). record { outcome = o; codes = m })
        (ap (λ (w : Verdict). through (gate_of s c) (re_step f s)
        (settled w (re_step f s) c (enq_done (re_step f s) c ret (re_names f ns)))) v
        ∙ gated_same (enq_verdict s.queue c ret ns (length area)) s c (enq_done s c ret ns) _ h
        (enq_done_same s c ret ns h k))
        (ap₂ (λ (w : Verdict) (m : List ℕ).
        codes_through (gate_of s c) w area (pick (enq_codes_due ret) (written_on m area) area))
        v (enq_codes_same f known r ret s.queue c.0 ns h k))

    deq_same : (s : Step) (c : TaskNumber) (ret : DeqRet) (ns : Names) (area : List ℕ)
        → all_known known s.queue ≡ true → every known (names_of ns) ≡ true → names_good ns ≡ true
        → deq_of (re_step f s) c ret (re_names f ns) area ≡ re_served f (deq_of s c ret ns area)
    unfolding gate_of deq_written
    deq_same s c ret ns area h k g =
        let v = deq_verdict_same s.queue c ret ns (length area) h k g in
        ap₂ (λ (o : Outcome Step) (m : List ℕ). record { outcome = o; codes = m })
        (ap (λ (w : Verdict). through (gate_of s c) (re_step f s)
        (settled w (re_step f s) c (deq_done (re_step f s) c ret (re_names f ns)))) v
        ∙ gated_same (deq_verdict s.queue c ret ns (length area)) s c (deq_done s c ret ns) _ h
        (deq_done_same s c ret ns h k))
        (ap₂ (λ (w : Verdict) (m : List ℕ).
        codes_through (gate_of s c) w area (pick (deq_codes_due ret) (written_on m area) area))
        v (deq_codes_same f known r ret s.queue c.0 ns h k))

    -- EVERY SERVICE does the same
    pub serves_same : (s : Step) (q : Request) (ns : Names) (es : Ecbs) (area : List ℕ)
        → all_known known s.queue ≡ true → every known (names_of ns) ≡ true → NamesTested q ns
        → service_of (re_step f s) q (re_names f ns) es area ≡ re_served f (service_of s q ns es area)
    unfolding service_of attach_done post_done clear_done getmain_done freemain_done open_gate dispatch_body
    serves_same s (Attach c lpmod dpmod ecb) ns es area h k t =
        plain_same (attach_verdict s.tasks lpmod dpmod ecb) s c (attach_done s c lpmod dpmod ecb) _ area h refl
    serves_same s (Detach c task) ns es area h k t =
        plain_same (detach_verdict s.tasks c task) s c (detach_done s task) _ area h (detach_same s task h)
    serves_same s (End c code) ns es area h k t =
        plain_same (end_verdict s.tasks c code) s c (end_done s c code) _ area h (end_same s c code h)
    serves_same s (Abend c code step) ns es area h k t =
        plain_same (abend_verdict code) s c (abend_done s c code step) _ area h (abend_same s c code step h)
    serves_same s (Enq c ret) ns es area h k t = enq_same s c ret ns area h k t.0 t.1
    serves_same s (Deq c ret) ns es area h k t = deq_same s c ret ns area h k t
    serves_same s (Wait c n) ns es area h k t =
        plain_same (wait_verdict s.ecbs es n) s c (wait_done s c es n) _ area h (wait_same s c es n)
    serves_same s (Post c e code) ns es area h k t =
        plain_same (post_verdict e code) s c (post_done s e code) _ area h refl
    serves_same s (Clear c e) ns es area h k t =
        plain_same (clear_verdict s.ecbs e) s c (clear_done s e) _ area h refl
    serves_same s (Getmain c bytes subpool conditional) ns es area h k t =
        plain_same (getmain_verdict s.areas c bytes subpool conditional) s c (getmain_done s c bytes subpool) _ area h
        (given_same s (wanted bytes subpool c.0) (lowest s.areas (wanted bytes subpool c.0)))
    serves_same s (Freemain c address bytes subpool) ns es area h k t =
        plain_same (freemain_verdict s.areas c address bytes subpool) s c (freemain_done s c address bytes subpool) _
        area h refl
    serves_same s Dispatch ns es area h k t =
        ap (untouched area) (through_same (open_gate s) s (dispatch_body s) _ refl)
