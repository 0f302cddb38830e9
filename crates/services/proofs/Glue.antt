-- The one path of every request: sound tables, the gate, the service's body, its verdict.
use Rattle.std.specs.Prelude.{Option, None, Some}
use mathlib.Core.Path.{◌≡◌, refl, sym, ap, ap₂, subst, ◌∙◌}
use mathlib.Core.Bool.{Bool, true, false, not, ◌&&◌}
use mathlib.Core.List.{List, [], ◌∷◌}
use Prim.Native.Nat.{ℕ, ◌≤◌}
use lib.Dec.{leb}
use native.Mathlib.Omega.{arith}
use borrow.Author.Tests.{leb-true}
use lib.ListN.{length}
use Rattle.lists.specs.Bools.{both}
use Rattle.lists.specs.Pick.{pick, on_true}
use Rattle.kinds.specs.Limits.{highest_priority}
use Rattle.kinds.specs.Ranges.{priority_good}
use Rattle.kinds.specs.Replies.Besides.{TheNumber}
use Rattle.kinds.specs.Tasks.{is_live, waits}
use Rattle.kinds.specs.declared.tasks.Task.{Task}
use Rattle.kinds.specs.declared.numbers.TaskNumber.{TaskNumber}
use Rattle.kinds.specs.declared.requests.Request.{Request}
use Rattle.kinds.specs.declared.requests.Request.TheVariants.{Attach, Detach, End, Abend, Enq, Deq, Wait, Post, Clear}
use Rattle.kinds.specs.declared.requests.Request.TheVariants.{Getmain, Freemain, Dispatch}
use Rattle.kinds.specs.declared.replies.Reply.TheVariants.{Dispatched}
use Rattle.kinds.specs.declared.replies.Refusal.{Refusal}
use Rattle.kinds.specs.declared.replies.Refusal.TheVariants.{Unsound, OutOfRange, SystemName, ShortArea, NoEntryFree}
use Rattle.kinds.specs.declared.replies.Fault.{Fault}
use Rattle.kinds.specs.declared.replies.Fault.TheVariants.{DuplicateEnq, DeqWithoutEntry}
use Rattle.std.specs.Prelude.{Ok, Err}
use Rattle.kinds.specs.Replies.{Verdict, Gate}
use Rattle.kinds.specs.declared.replies.No.TheVariants.{Refuse, Fail}
use Rattle.rules.specs.Tests.{refuse, fail, first_of}
use Rattle.rules.specs.Names.{Names, names_good, asks_system}
use Rattle.rules.specs.Events.{Ecbs}
use Rattle.rules.specs.Steps.{Step, Outcome, Served, refused, done_with, done, kept_by, untouched, over_step}
use Rattle.rules.specs.Family.{place}
use Rattle.rules.specs.Fresh.{begun_with, fresh_step, fresh_good, fresh_of}
use Rattle.rules.specs.Ending.{failing}
use Rattle.rules.specs.Admission.{gate_by, admitted, gate_of, through, settled, codes_through}
use Rattle.rules.specs.Codes.{too_short}
use Rattle.rules.specs.Enq.{enq_good, enq_codes_due, duplicated, too_few_free}
use Rattle.rules.specs.Deq.{deq_codes_due, unentered}
use Rattle.rules.specs.Dispatch.{dispatched, dispatch_body}
use Rattle.rules.specs.Form.{caller_of}
use Rattle.rules.specs.Serve.{Asked, service_of, service_tests, own_tests}
use Rattle.laws.specs.RenamedSteps.{NamesTested}
use Rattle.laws.specs.Tested.{gate_at, tested, gated as behind_gate}
use Rattle.laws.specs.Answering.{Sorts, service_sorts}
use Rattle.laws.specs.Answering.Sorts.{refuses, fails, goes}
use Rattle.namearea.specs.Areas.{area_of}
use Rattle.namearea.specs.declared.area.NameArea.{NameArea}
use Rattle.tables.specs.Tables.{Admitted}
use Rattle.tables.specs.Tables as all
use Rattle.tables.specs.Bodies.{Told, told, body_of}
use Rattle.tables.specs.declared.AllTables.{AllTables}
use Rattle.tables.specs.declared.made.Made.{Made}
use Rattle.tables.proofs.Admits as admits
use Rattle.services.specs.Kept.{in_tables, step_of, tables_of, said, said_with, served_by, soundb, answered}
use Rattle.services.specs.Kept.{answered_with}
use Rattle.services.specs.Serve.{served_of, caller_in, gate_for, gated, named_by, both_gates, entry_of, Admits, Behind}
use Rattle.services.specs.Serve.{Ends, settled_as, served_in, Settles}
use Rattle.services.specs.declared.Tables.{Tables}
use Rattle.services.specs.declared.Answer.{Answer}
use Rattle.services.proofs.Names.{sound_tables_lem}

-- a refusal leaves the tables as they are
pub refused_kept : (t : Tables) (why : Refusal) → soundb t ≡ true
    → refused why t ≡ kept_by tables_of (refused why (step_of t))
refused_kept t why h = ap (refused why) (sym (sound_tables_lem t h))

-- THE GATE's result g

shut_open : {A : Type 0} (why : Refusal) → ◌≡◌ {A = Gate} (Err why) (Ok tt) → A
shut_open why e = absurd (let z : ◌≡◌ {A = ℕ} 0 1 = cc in omega arith)

module _ (t : Tables) (k : Step → Gate) where
  pub gate_unsound : soundb t ≡ false → Err Unsound ≡ gated t k
  unfolding gated pick
  gate_unsound h = rw h

  pub gate_is : (g : Gate) → soundb t ≡ true → g ≡ k (step_of t) → g ≡ gated t k
  unfolding gated pick
  gate_is g h e = rw h e

  gate_cases : (b : Bool) → soundb t ≡ b → gated t k ≡ pick b (k (step_of t)) (Err Unsound)
  unfolding gated
  gate_cases b e = rw e

  open_sound : (b : Bool) → soundb t ≡ b → gated t k ≡ Ok tt → soundb t ≡ true
  unfolding pick
  open_sound true e h = e
  open_sound false e h = shut_open Unsound (sym (gate_cases false e) ∙ h)

  pub gate_opens : (g : Gate) → g ≡ gated t k → g ≡ Ok tt → (soundb t ≡ true) × (k (step_of t) ≡ Ok tt)
  unfolding pick
  gate_opens g e h =
      let b = open_sound (soundb t) refl (sym e ∙ h) in (b, sym (gate_cases true b) ∙ sym e ∙ h)

-- the caller's place is the same with names and with pointers
pub caller_gate : (t : AllTables) (bytes : List ℕ) (c : TaskNumber) (g : Gate) (a b : Bool) (x : Task)
    → g ≡ admitted t.over a b
    → a ≡ is_live x.condition → b ≡ waits x.condition
    → x ≡ place t.tasks.places c.0 → g ≡ gate_of (step_of (in_tables t bytes)) c
unfolding gate_of
caller_gate t bytes c g a b x e u v w =
    e ∙ rw (u, v) (ap (λ (y : Task). admitted t.over (is_live y.condition) (waits y.condition)) w)

-- whoever a request names, the gate is the one of the request
gate_named : (s : Step) (q : Request) → gate_for (caller_in q) s ≡ gate_at s q
gate_named s (Attach c lpmod dpmod ecb) = refl
gate_named s (Detach c task) = refl
gate_named s (End c code) = refl
gate_named s (Abend c code step) = refl
gate_named s (Enq c ret) = refl
gate_named s (Deq c ret) = refl
gate_named s (Wait c n) = refl
gate_named s (Post c e code) = refl
gate_named s (Clear c e) = refl
gate_named s (Getmain c bytes subpool conditional) = refl
gate_named s (Freemain c address bytes subpool) = refl
gate_named s Dispatch = refl

-- THE GATE OF THE NAMES

-- one that is open
names_open : (q : Request) (ns : Names) → named_by q ns ≡ Ok tt → NamesTested q ns
unfolding pick
names_open (Attach c lpmod dpmod ecb) ns h = tt
names_open (Detach c task) ns h = tt
names_open (End c code) ns h = tt
names_open (Abend c code step) ns h = tt
names_open (Enq c ret) ns h = one (enq_good ret ns) (asks_system ns) refl refl h
  where
    one : (a b : Bool) → enq_good ret ns ≡ a → asks_system ns ≡ b
        → gate_by (pick (not a) (Err (Refuse OutOfRange)) (pick b (Err (Refuse SystemName)) (Ok tt))) ≡ Ok tt
        → (enq_good ret ns ≡ true) × (asks_system ns ≡ false)
    one true false x y e = (x, y)
    one true true x y e = shut_open SystemName e
    one false b x y e = shut_open OutOfRange e
names_open (Deq c ret) ns h = one (names_good ns) refl h
  where
    one : (a : Bool) → names_good ns ≡ a → gate_by (pick (not a) (Err (Refuse OutOfRange)) (Ok tt)) ≡ Ok tt → names_good ns ≡ true
    one true x e = x
    one false x e = shut_open OutOfRange e
names_open (Wait c n) ns h = tt
names_open (Post c e code) ns h = tt
names_open (Clear c e) ns h = tt
names_open (Getmain c bytes subpool conditional) ns h = tt
names_open (Freemain c address bytes subpool) ns h = tt
names_open Dispatch ns h = tt

-- one that is shut says what the first of the request's tests says
names_shut : (s : Step) (q : Request) (ns : Names) (es : Ecbs) (space : ℕ) (why : Refusal) → named_by q ns ≡ Err why
    → first_of (own_tests s q ns es space) ≡ Err (Refuse why)
unfolding pick
names_shut s (Attach c lpmod dpmod ecb) ns es space why h = shut_open why (sym h)
names_shut s (Detach c task) ns es space why h = shut_open why (sym h)
names_shut s (End c code) ns es space why h = shut_open why (sym h)
names_shut s (Abend c code step) ns es space why h = shut_open why (sym h)
names_shut s (Enq c ret) ns es space why h = one (enq_good ret ns) (asks_system ns) h
  where
    rest : Verdict
    rest =
        first_of (refuse ShortArea (enq_codes_due ret && too_short space ns)
        ∷ fail DuplicateEnq (duplicated ret s.queue c.0 ns)
        ∷ refuse NoEntryFree (too_few_free ret s.queue c.0 ns) ∷ [])

    one : (a b : Bool) → gate_by (pick (not a) (Err (Refuse OutOfRange)) (pick b (Err (Refuse SystemName)) (Ok tt))) ≡ Err why
        → pick (not a) (Err (Refuse OutOfRange)) (pick b (Err (Refuse SystemName)) rest) ≡ Err (Refuse why)
    one true false e = shut_open why (sym e)
    one true true e = let z : SystemName ≡ why = cc in ap (λ (w : Refusal). Err (Refuse w)) z
    one false b e = let z : OutOfRange ≡ why = cc in ap (λ (w : Refusal). Err (Refuse w)) z
names_shut s (Deq c ret) ns es space why h = one (names_good ns) h
  where
    rest : Verdict
    rest =
        first_of (refuse ShortArea (deq_codes_due ret && too_short space ns)
        ∷ fail DeqWithoutEntry (unentered ret s.queue c.0 ns) ∷ [])

    one : (a : Bool) → gate_by (pick (not a) (Err (Refuse OutOfRange)) (Ok tt)) ≡ Err why
        → pick (not a) (Err (Refuse OutOfRange)) rest ≡ Err (Refuse why)
    one true e = shut_open why (sym e)
    one false e = let z : OutOfRange ≡ why = cc in ap (λ (w : Refusal). Err (Refuse w)) z
names_shut s (Wait c n) ns es space why h = shut_open why (sym h)
names_shut s (Post c e code) ns es space why h = shut_open why (sym h)
names_shut s (Clear c e) ns es space why h = shut_open why (sym h)
names_shut s (Getmain c bytes subpool conditional) ns es space why h = shut_open why (sym h)
names_shut s (Freemain c address bytes subpool) ns es space why h = shut_open why (sym h)
names_shut s Dispatch ns es space why h = shut_open why (sym h)

-- BOTH GATES

gates_open : (g k : Gate) → both_gates g k ≡ Ok tt → (g ≡ Ok tt) × (k ≡ Ok tt)
gates_open (Ok _) k h = (refl, h)
gates_open (Err why) k h = shut_open why h

-- how they come out
module _ (t : Tables) (q : Request) (ns : Names) (w : Option TaskNumber) (g : Gate) (n : w ≡ caller_in q)
    (e : g ≡ gated t (gate_for w)) where
  entry_is : g ≡ gated t (gate_for (caller_in q))
  entry_is = e ∙ ap (λ (x : Option TaskNumber). gated t (gate_for x)) n

  pub entry_refused : (why : Refusal) → g ≡ Err why → Err why ≡ entry_of t q ns
  entry_refused why h = ap (λ (x : Gate). both_gates x (named_by q ns)) (sym h ∙ entry_is)

  pub entry_named : (k : Gate) → g ≡ Ok tt → k ≡ named_by q ns → k ≡ entry_of t q ns
  entry_named k h m = m ∙ ap (λ (x : Gate). both_gates x (named_by q ns)) (sym h ∙ entry_is)

pub entry_admits : (t : Tables) (q : Request) (ns : Names) (g : Gate) → g ≡ entry_of t q ns → g ≡ Ok tt → Admits t q ns
entry_admits t q ns g e h =
    let b = gates_open (gated t (gate_for (caller_in q))) (named_by q ns) (sym e ∙ h) in
    let o = gate_opens t (gate_for (caller_in q)) (gated t (gate_for (caller_in q))) refl b.0 in
    record {
      sound = o.0;
      gate = sym (gate_named (step_of t) q) ∙ o.1;
      names = names_open q ns b.1;
    }

-- A GATE THAT IS SHUT

-- refuses and writes nothing, where the rules say so of it
module _ (t : Tables) (area : List ℕ) (k : Step → Gate) (f : Step → List ℕ → Served Step) where
  shut_is : (s : Outcome Tables) (why : Refusal) (b : Bool) → soundb t ≡ b → gated t k ≡ Err why
      → s ≡ refused why t
      → (k (step_of t) ≡ Err why → f (step_of t) area ≡ untouched area (refused why (step_of t)))
      → untouched area s ≡ answered_with t area f
  unfolding answered_with pick
  shut_is s why true e h a l =
      let g : k (step_of t) ≡ Err why = sym (gate_cases t k true e) ∙ h in
      rw e (ap (untouched area) (a ∙ refused_kept t why e) ∙ ap served_by (sym (l g)))
  shut_is s why false e h a l =
      let g : why ≡ Unsound = cc (gate_cases t k false e) in
      rw e (ap (untouched area) (a ∙ ap (λ (w : Refusal). refused w t) g))

  pub served_shut : (s : Outcome Tables) (g : Gate) (why : Refusal) → g ≡ gated t k → g ≡ Err why
      → s ≡ refused why t
      → (k (step_of t) ≡ Err why → f (step_of t) area ≡ untouched area (refused why (step_of t)))
      → untouched area s ≡ answered_with t area f
  served_shut s g why e h a l = shut_is s why (soundb t) refl (sym e ∙ h) a l

-- the rules say so of every request
module _ (s : Step) (q : Request) (ns : Names) (es : Ecbs) (area : List ℕ) (why : Refusal) where
  shut_sorts : (o : Served Step) → first_of (service_tests s q ns es (length area)) ≡ Err (Refuse why)
      → Sorts s (caller_of q) area (service_tests s q ns es (length area)) o → o ≡ untouched area (refused why s)
  shut_sorts o h (refuses w f e) =
      let g : w ≡ why = cc in
      e ∙ ap (λ (x : Refusal). untouched area (refused x s)) g
  shut_sorts o h (fails what d n g f e) = absurd (let z : ◌≡◌ {A = ℕ} 0 1 = cc in omega arith)
  shut_sorts o h (goes f n) = absurd (let z : ◌≡◌ {A = ℕ} 0 1 = cc in omega arith)

  service_shut : gate_at s q ≡ Err why → service_of s q ns es area ≡ untouched area (refused why s)
  service_shut h =
      shut_sorts _
      ((tested s q ns es (length area)).behind
      ∙ ap (λ (g : Gate). behind_gate g (first_of (own_tests s q ns es (length area)))) h)
      (service_sorts s q ns es area)

-- THE WHOLE PATH

module _ (t : Tables) (q : Request) (ns : Names) (es : Ecbs) (area : List ℕ) where
  abbrev asked : Asked
  asked = record { request = q; names = ns; ecbs = es; area = area }

  -- a gate that is shut refuses, whatever is asked
  serve_shut : (why : Refusal) (s : Outcome Tables) → gated t (gate_for (caller_in q)) ≡ Err why → s ≡ refused why t
      → untouched area s ≡ served_of t asked
  unfolding served_of
  serve_shut why s h a =
      served_shut t area (gate_for (caller_in q)) (λ u l. service_of u q ns es l) s _ why refl h a
      (λ k. service_shut (step_of t) q ns es area why (sym (gate_named (step_of t) q) ∙ k))

  -- and so do names that are refused
  named_shut : (why : Refusal) (s : Outcome Tables) → gated t (gate_for (caller_in q)) ≡ Ok tt → named_by q ns ≡ Err why
      → s ≡ refused why t → untouched area s ≡ served_of t asked
  unfolding served_of answered_with
  named_shut why s h n a =
      let o = gate_opens t (gate_for (caller_in q)) _ refl h in
      let g : gate_at (step_of t) q ≡ (Ok tt) = sym (gate_named (step_of t) q) ∙ o.1 in
      on_true (soundb t) _ _ _ o.0
      (ap (untouched area) (a ∙ refused_kept t why o.0)
      ∙ ap served_by (sym (shut_sorts (step_of t) q ns es area why _
      ((tested (step_of t) q ns es (length area)).behind
      ∙ ap₂ behind_gate g (names_shut (step_of t) q ns es (length area) why n))
      (service_sorts (step_of t) q ns es area))))

  pub entry_shut : (g : Gate) (why : Refusal) (s : Outcome Tables) → g ≡ entry_of t q ns → g ≡ Err why
      → s ≡ refused why t → untouched area s ≡ served_of t asked
  entry_shut g why s e h a = one (gated t (gate_for (caller_in q))) refl (sym e ∙ h)
    where
      one : (k : Gate) → gated t (gate_for (caller_in q)) ≡ k → both_gates k (named_by q ns) ≡ Err why
          → untouched area s ≡ served_of t asked
      one (Ok _) k z = named_shut why s k z a
      one (Err w) k z = let y : w ≡ why = cc in serve_shut why s (k ∙ ap Err y) a

  -- behind open ones stands what the rules say of the step
  pub serve_open : (o : Served Tables) → Admits t q ns → o ≡ served_by (service_of (step_of t) q ns es area)
      → o ≡ served_of t asked
  unfolding served_of answered_with
  serve_open o b e = on_true (soundb t) _ _ _ b.sound e

  -- the answer alone
  pub plain_said : (r : Answer) (left : List ℕ) → said_with r left ≡ served_of t asked
      → said r ≡ answered t (λ s. (service_of s q ns es area).outcome)
  unfolding served_of answered_with answered pick
  plain_said r left e = ap (λ (o : Served Tables). o.outcome) e ∙ one (soundb t)
    where
      one : (b : Bool)
          → (pick b (served_by (service_of (step_of t) q ns es area)) (untouched area (refused Unsound t))).outcome
          ≡ pick b (kept_by tables_of (service_of (step_of t) q ns es area).outcome) (refused Unsound t)
      one true = refl
      one false = refl

-- BEHIND AN OPEN GATE: the body of a service

module _ (t : AllTables) (c : TaskNumber) (a : Admitted t c) (v : Verdict) (o : Outcome Step) (k : Made)
    (e : told k ≡ body_of v t o) where
  -- one that fails leaves the tables to the ending of its caller
  fails_admitted : (what : Fault) → k.verdict ≡ Err (Fail what) → Admitted k.tables c
  unfolding told body_of
  fails_admitted what h =
      let w : v ≡ Err (Fail what) = sym (ap (λ (x : Told). x.verdict) e) ∙ h in
      subst (λ (u : AllTables). Admitted u c)
      (sym (ap (λ (x : Told). x.outcome.tables) e ∙ ap (λ (x : Verdict). (body_of x t o).outcome.tables) w)) a

  settles : (u : Verdict) → settled_as (body_of u t o) (Some c) ≡ kept_by all.tables_of (settled u (all.step_of t) c o)
  unfolding settled_as body_of settled failing
  settles (Ok _) = refl
  settles (Err (Refuse why)) = ap (refused why) (sym (admits.packed_tables t (admits.admitted_packed t c a)))
  settles (Err (Fail what)) = refl

  -- what the verdict comes to is what the rules say
  settles_so : settled_as (told k) (Some c)
      ≡ kept_by all.tables_of (through (gate_of (all.step_of t) c) (all.step_of t) (settled v (all.step_of t) c o))
  unfolding through
  settles_so = rw a.gate (ap (λ (x : Told). settled_as x (Some c)) e ∙ settles v)

  -- so it is of a request of its caller
  body_settles : (q : Request) → caller_in q ≡ Some c → (ns : Names) (es : Ecbs) (area left : List ℕ)
      → service_of (all.step_of t) q ns es area
      ≡ untouched left (through (gate_of (all.step_of t) c) (all.step_of t) (settled v (all.step_of t) c o))
      → Settles t ns es area k left q
  body_settles q n ns es area left so = record {
    says =
        ap (λ (w : Option TaskNumber). untouched left (settled_as (told k) w)) n
        ∙ ap (untouched left) settles_so ∙ ap served_in (sym so);
    ends = λ what h. subst (Ends k.tables) (sym n) (fails_admitted what h);
  }

  -- and of one with codes
  coded_settles : (q : Request) → caller_in q ≡ Some c → (ns : Names) (es : Ecbs) (area left written : List ℕ)
      → left ≡ codes_through (Ok tt) v area written
      → service_of (all.step_of t) q ns es area ≡ record {
        outcome = through (gate_of (all.step_of t) c) (all.step_of t) (settled v (all.step_of t) c o);
        codes = codes_through (gate_of (all.step_of t) c) v area written;
      } → Settles t ns es area k left q
  coded_settles q n ns es area left written h so =
      let l = ap (λ (g : Gate). codes_through g v area written) a.gate ∙ sym h in
      body_settles q n ns es area left
      (so ∙ ap (λ (x : List ℕ). untouched x
      (through (gate_of (all.step_of t) c) (all.step_of t) (settled v (all.step_of t) c o))) l)

-- what the verdict of a body comes to
pub settles_comes : (t : AllTables) (q : Request) (ns : Names) (es : Ecbs) (area left : List ℕ) (k : Made) (w : Option TaskNumber)
    (o : Outcome AllTables) → w ≡ caller_in q → Settles t ns es area k left q → o ≡ settled_as (told k) w
    → untouched left o ≡ served_in (service_of (all.step_of t) q ns es area)
settles_comes t q ns es area left k w o n b e =
    ap (untouched left) (e ∙ ap (settled_as (told k)) n) ∙ b.says

-- a request q that is known to be k
module _ (t : AllTables) (q k : Request) (e : q ≡ k) where
  pub known : {ns : Names} {es : Ecbs} {area left : List ℕ} {r : Made} → Settles t ns es area r left k
      → Settles t ns es area r left q
  known {ns = ns} {es = es} {area = area} {left = left} {r = r} = subst (Settles t ns es area r left) (sym e)

  -- and names its caller
  module _ (l : Names) (b : Behind t q l) (c : TaskNumber) (n : gate_at (all.step_of t) k ≡ gate_of (all.step_of t) c) where
    -- with names that have passed their tests
    pub behind_names : NamesTested k l
    behind_names = subst (λ (x : Request). NamesTested x l) e b.names

    pub behind_admits : Admitted t c
    behind_admits = record { sound = b.sound; gate = sym (ap (gate_at (all.step_of t)) e ∙ n) ∙ b.gate }

    -- with the body of its service
    module _ (m : caller_in k ≡ Some c) (v : Verdict) (o : Outcome Step) (r : Made) (h : told r ≡ body_of v t o) where
      pub plain_known : (ns : Names) (es : Ecbs) (area : List ℕ)
          → service_of (all.step_of t) k ns es area
          ≡ untouched area (through (gate_of (all.step_of t) c) (all.step_of t) (settled v (all.step_of t) c o))
          → Settles t ns es area r area q
      plain_known ns es area so = known (body_settles t c behind_admits v o r h k m ns es area area so)

      pub coded_known : (ns : Names) (es : Ecbs) (area left written : List ℕ) → left ≡ codes_through (Ok tt) v area written
          → service_of (all.step_of t) k ns es area ≡ record {
            outcome = through (gate_of (all.step_of t) c) (all.step_of t) (settled v (all.step_of t) c o);
            codes = codes_through (gate_of (all.step_of t) c) v area written;
          } → Settles t ns es area r left q
      coded_known ns es area left written l so =
          known (coded_settles t c behind_admits v o r h k m ns es area left written l so)

-- DISPATCH changes nothing
pub dispatch_settles : (t : AllTables) (n : TaskNumber) (k : Made) (ns : Names) (es : Ecbs) (area : List ℕ)
    → Behind t Dispatch ns → n.0 ≡ dispatched t.tasks.places
    → k ≡ record { verdict = Ok tt; reply = Dispatched n; tables = t } → Settles t ns es area k area Dispatch
unfolding service_of dispatch_body through settled_as told
dispatch_settles t n k ns es area b e h = record {
  says =
      ap (λ (x : Made). untouched area (settled_as (told x) None)) h
      ∙ rw b.gate (ap (λ (m : ℕ). untouched area (done_with (TheNumber (record { 0 = m })) t)) e
      ∙ ap (λ (u : AllTables). untouched area
      (done_with (TheNumber (record { 0 = dispatched t.tasks.places })) u))
      (sym (admits.sound_tables_lem t b.sound)));
  ends = λ what f. absurd (let z : ◌≡◌ {A = ℕ} 0 1 = cc in omega arith);
}

-- A FRESH START

-- no name is in use: of a step that is over, and of one that begins
pub over_kept : (code : ℕ) {a : AllTables} {n : NameArea} → a ≡ all.tables_of (over_step code) → n ≡ area_of []
    → ◌≡◌ {A = Tables} (record { all = a; names = n }) (tables_of (over_step code))
unfolding over_step
over_kept code e f = λ i. record { all = e i; names = f i }

pub begun_kept : (first : Task) {a : AllTables} {n : NameArea} → a ≡ all.tables_of (begun_with first) → n ≡ area_of []
    → ◌≡◌ {A = Tables} (record { all = a; names = n }) (tables_of (begun_with first))
unfolding begun_with over_step
begun_kept first e f = λ i. record { all = e i; names = f i }

module _ (limit dispatching : ℕ) where
  pub fresh_refused : fresh_good limit dispatching ≡ false → fresh_of limit dispatching ≡ refused OutOfRange (over_step 0)
  unfolding fresh_of pick
  fresh_refused h = rw h

  pub fresh_starts : fresh_good limit dispatching ≡ true → fresh_of limit dispatching ≡ done (fresh_step limit dispatching)
  unfolding fresh_of pick
  fresh_starts h = rw h

  pub fresh_ranges : fresh_good limit dispatching ≡ true → (limit ≤ highest_priority) × (dispatching ≤ highest_priority)
  unfolding fresh_good
  fresh_ranges h =
      let r = both (priority_good limit) (leb dispatching limit) h in (
        leb-true limit highest_priority r.0,
        omega (arith, leb-true limit highest_priority r.0, leb-true dispatching limit r.1),
      )

pub ruleset begins = (fresh_ranges, fresh_refused, fresh_starts, over_kept, begun_kept)
