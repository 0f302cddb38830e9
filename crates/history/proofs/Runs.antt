-- A run from a fresh step leaves a sound step, and the queue that the run tells of.
use mathlib.Core.Path.{◌≡◌, refl, sym, ap, subst}
use mathlib.Core.Bool.{Bool, true, false, not}
use mathlib.Core.List.{List}
use Prim.Native.Nat.{ℕ, zero, suc, ◌-◌}
use Rattle.lists.specs.Pick.{pick}
use Rattle.kinds.specs.Limits.{highest_task}
use Rattle.kinds.specs.declared.numbers.TaskNumber.{TaskNumber}
use Rattle.kinds.specs.declared.tasks.Task.{Task}
use Rattle.kinds.specs.declared.requests.Request.{Request}
use Rattle.kinds.specs.declared.requests.Request.TheVariants.{Attach, Detach, End, Abend, Enq, Deq, Wait, Post, Clear}
use Rattle.kinds.specs.declared.requests.Request.TheVariants.{Getmain, Freemain, Dispatch}
use Rattle.kinds.specs.declared.replies.Refusal.TheVariants.{OutOfRange}
use Rattle.std.specs.Prelude.{Ok}
use Rattle.kinds.specs.Replies.{Verdict}
use Rattle.rules.specs.Names.{Names}
use Rattle.rules.specs.Events.{Ecbs}
use Rattle.rules.specs.Family.{place, mother}
use Rattle.rules.specs.Steps.{Step, Outcome, Served, done, refused, over_step}
use Rattle.rules.specs.Fresh.{first_task, begun_with, fresh_step, fresh_good, fresh_of}
use Rattle.rules.specs.Form.{caller_of}
use Rattle.rules.specs.Admission.{gate_of, open_gate, through, settled}
use Rattle.rules.specs.Post.{post_done}
use Rattle.rules.specs.Clear.{clear_done}
use Rattle.rules.specs.Freemain.{freemain_done}
use Rattle.rules.specs.Dispatch.{dispatch_body}
use Rattle.rules.specs.Sound.{sound_step}
use Rattle.rules.specs.Serve.{Asked, service_of, serve_of}
use Rattle.rules.specs.Reading.{Turn, Reading, nothing, reads, reading, queue_read}
use Rattle.rules.specs.DemandThree.{Run, stop, turn, turn_of, Fresh}
use Rattle.laws.specs.Places.{place_free}
use Rattle.laws.specs.Running.{Running}
use Rattle.laws.specs.Failing.{Sound}
use Rattle.laws.specs.Kept.{fresh_sound}
use Rattle.laws.specs.Served.{sound_served, serve_sound}
use Rattle.history.proofs.Heirs.{same_heirs, posted_heirs}
use Rattle.history.proofs.Seen.{Seen, idle_seen, same_seen}
use Rattle.history.proofs.Turns.{Follows, through_follows, service_follows}
use Rattle.history.proofs.Quiet.{wait_done_lem, getmain_done_lem}
use Rattle.history.proofs.Queued.{enq_done_lem, deq_done_lem}
use Rattle.history.proofs.Leavers.{end_done_lem, abend_done_lem, detach_done_lem}
use Rattle.history.proofs.Attached.{attach_done_lem}

-- ONE TURN

module _ (s : Step) (r : Reading) (e : Seen s r) (h : Sound s) (l : Names) where
  -- a service leaves what its change leaves, where it is not refused and does not fail
  by : (q : Request) (c : TaskNumber) → caller_of q ≡ c.0 → (v : Verdict) (o : Outcome Step)
      → (gate_of s c ≡ Ok tt → Running s → v ≡ Ok tt → Follows r q l o)
      → Follows r q l (through (gate_of s c) s (settled v s c o))
  by q c i v o k = service_follows s r e q l c i v o h k

  stepped : (q : Request) (es : Ecbs) (area : List ℕ) → Follows r q l (service_of s q l es area).outcome
  unfolding service_of post_done clear_done freemain_done dispatch_body
  stepped (Attach c lpmod dpmod ecb) es area =
      by (Attach c lpmod dpmod ecb) c refl _ _ (λ o k v. attach_done_lem s r e l c lpmod dpmod ecb v)
  stepped (Detach c task) es area = by (Detach c task) c refl _ _ (λ o k v. detach_done_lem s r e l k c task o v)
  stepped (End c code) es area = by (End c code) c refl _ _ (λ o k v. end_done_lem s r e l k c code o v)
  stepped (Abend c code step) es area = by (Abend c code step) c refl _ _ (λ o k v. abend_done_lem s r e l k c code o step)
  stepped (Enq c ret) es area = by (Enq c ret) c refl _ _ (λ o k v. enq_done_lem s r e l c ret)
  stepped (Deq c ret) es area = by (Deq c ret) c refl _ _ (λ o k v. deq_done_lem s r e l c ret)
  stepped (Wait c n) es area = by (Wait c n) c refl _ _ (λ o k v. wait_done_lem s r e l c es n o)
  stepped (Post c b code) es area =
      by (Post c b code) c refl _ _ (λ o k v. idle_seen s r e _ (posted_heirs s.tasks s.ecbs b.0 code) refl)
  stepped (Clear c b) es area = by (Clear c b) c refl _ _ (λ o k v. idle_seen s r e _ (same_heirs s.tasks) refl)
  stepped (Getmain c bytes subpool conditional) es area =
      by (Getmain c bytes subpool conditional) c refl _ _ (λ o k v. getmain_done_lem s r e l c bytes subpool conditional)
  stepped (Freemain c address bytes subpool) es area =
      by (Freemain c address bytes subpool) c refl _ _ (λ o k v. idle_seen s r e _ (same_heirs s.tasks) refl)
  stepped Dispatch es area = through_follows s r e Dispatch l (open_gate s) (dispatch_body s) (λ o. same_seen s r e)

turn_seen : (s : Step) (r : Reading) → Seen s r → (a : Asked) → Sound s
    → Seen (serve_of s a).outcome.tables (reads r (turn_of a (serve_of s a).outcome))
turn_seen s r e a h =
    subst (λ (o : Served Step). Seen o.outcome.tables (reads r (turn_of a o.outcome))) (sym (sound_served s a h))
    (stepped s r e h _ _ a.ecbs a.area)

-- A RUN

run_seen : {s t : Step} {us : List Turn} (r : Reading) → Sound s → Seen s r → Run s us t
    → (Sound t) × (Seen t (reading r us))
run_seen r h e stop = (h, e)
run_seen {s} r h e (turn a w) =
    run_seen (reads r (turn_of a (serve_of s a).outcome)) (serve_sound s a h) (turn_seen s r e a h) w

-- THE FRESH STEP has an empty queue, and nobody in it has a mother

begun_alone : (first : Task) → first.mother.0 ≡ 0 → (n : ℕ) → 0 ≡ mother (begun_with first).tasks n
unfolding begun_with over_step mother place
begun_alone first m zero = refl
begun_alone first m (suc zero) = sym m
begun_alone first m (suc (suc i)) = sym (ap (λ (x : Task). x.mother.0) (place_free (highest_task - 1) (suc i)))

over_alone : (code n : ℕ) → 0 ≡ mother (over_step code).tasks n
unfolding over_step mother
over_alone code n = sym (ap (λ (x : Task). x.mother.0) (place_free highest_task n))

fresh_seen : (limit dispatching : ℕ) → Seen (fresh_of limit dispatching).tables nothing
unfolding fresh_of begun_with over_step pick
fresh_seen limit dispatching = one (not (fresh_good limit dispatching))
  where
    one : (b : Bool)
        → Seen (pick b (refused OutOfRange (over_step 0)) (done (fresh_step limit dispatching))).tables nothing
    one true = record { queue = refl; root = refl; mothers = λ n u. over_alone 0 n }
    one false = record { queue = refl; root = refl; mothers = λ n u. begun_alone (first_task limit dispatching) refl n }

-- THE HALF OF DEMAND 3 THAT FOLLOWS THE SERVICES
pub run_keeps : {s t : Step} {us : List Turn} → Fresh s → Run s us t → (sound_step t ≡ true) × (t.queue ≡ queue_read us)
run_keeps f w =
    let i = ap (λ (o : Outcome Step). o.tables) f.starts in
    let e = subst (λ (x : Step). Seen x nothing) i (fresh_seen f.limit f.dispatching) in
    let k = run_seen nothing (subst Sound i (fresh_sound f.limit f.dispatching)) e w in
    (k.0, sym k.1.queue)
