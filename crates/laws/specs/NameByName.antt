-- HAVE GOES NAME BY NAME, document 02 §3: "names with code 8 skipped and the rest queued. 105 counts only the names to
-- be queued."
use Rattle.std.specs.Prelude.{◌≡◌, Bool, ◌&&◌, ◌||◌, ℕ, ◌+◌, eqb, ltb, length}
use Rattle.std.proofs.Math.Path.{refl, ap}
use Rattle.std.proofs.Common.{ap₂, ◌∙◌}
use Rattle.std.proofs.Math.Bool.{true, false, not}
use mathlib.Core.List.{List, [], ◌∷◌, ◌++◌, map}
use Rattle.lists.specs.Lists.{every, some, how_many}
use Rattle.lists.specs.Pick.{pick, pick_true}
use Rattle.lists.specs.Keeping.{keep_any, keep_among, keep_none}
use Rattle.lists.specs.Counting.{how_many_keep}
use Rattle.kinds.specs.Limits.{most_entries}
use Rattle.kinds.specs.Tasks.{with_condition}
use Rattle.kinds.specs.Replies.Besides.{NoValue}
use Rattle.kinds.specs.declared.numbers.TaskNumber.{TaskNumber}
use Rattle.kinds.specs.declared.requests.Ret.TheVariants.{Have}
use Rattle.kinds.specs.declared.tasks.Condition.TheVariants.{ResourceWait}
use Rattle.std.specs.Prelude.{Ok}
use Rattle.rules.specs.Names.{Ask, Names}
use Rattle.rules.specs.Control.{Entry, has_entry, available}
use Rattle.rules.specs.Family.{place, with_place}
use Rattle.rules.specs.ResourceWaits.{requeued}
use Rattle.rules.specs.Codes.{all_zero, coded, written_on}
use Rattle.rules.specs.Steps.{Step, Served, with_tasks, with_queue, done, four}
use Rattle.rules.specs.Events.{Ecbs}
use Rattle.rules.specs.Admission.{gate_of, through, settled}
use Rattle.rules.specs.Enq.{enq_code, enq_codes, fresh, to_queue, too_few_free, enq_verdict, entry_for, with_tail}
use Rattle.rules.specs.Enq.{enq_tail, enq_done, enq_written}
use Rattle.rules.specs.Sound.{sound_step}
use Rattle.rules.specs.Serve.{Asked, service_of, serve_of}
use Rattle.laws.specs.Running.{Running, running_parts}
use Rattle.laws.specs.Failing.{Sound}
use Rattle.laws.specs.Admitted.{open_running}
use Rattle.laws.specs.InRange.{enq_names}
use Rattle.laws.specs.Passed.{enq_passed}
use Rattle.laws.specs.Queueing.{tail_none}
use Rattle.laws.specs.ToQueue.{zero_coded, have_zero}
use Rattle.laws.specs.KeptQueue.{coded_tables, tail_leaves}
use Rattle.laws.specs.SystemNames.{enq_asked}

-- 105, under HAVE: some name is one that the caller has no entry for, and these names are more than the free entries
pub have_too_few : (q : List Entry) (c : ℕ) (l : Names) → too_few_free Have q c l
    ≡ (some (fresh q c) l.asks && ltb most_entries (length q + how_many (fresh q c) l.asks))
unfolding too_few_free to_queue
have_too_few q c l =
    ap₂ (λ (b : Bool) (n : ℕ). b && ltb most_entries (length q + n)) (keep_any (fresh q c) l.asks)
    (how_many_keep (fresh q c) l.asks)

-- WHAT A HAVE THAT GOES ON LEAVES of a step
module _ (s : Step) (c : TaskNumber) where
  -- the caller has an entry for the name
  abbrev pub had : Ask → Bool
  had a = has_entry s.queue c.0 a.name

  -- these asks stand behind what was in the queue; apart from that only the caller's wait changes, which begins unless
  -- each of them is available
  abbrev pub step_with : List Ask → Step
  step_with asks =
      with_queue (with_tasks s (pick (every (available s.queue) asks) s.tasks
      (with_place s.tasks c.0 (with_condition (place s.tasks c.0) ResourceWait))))
      (s.queue ++ map (entry_for c.0) asks)

  pub record NameByName (l : Names) (area : List ℕ) (v : Served Step) : Type 0 where
    -- the names with code 0 are queued, these and no others, in list order
    pub tables : v.outcome.tables ≡ step_with (zero_coded s.queue c.0 Have l)
    -- 8 is written exactly where the caller had an entry before, and else 0
    pub codes : v.codes ≡ written_on (map (λ (a : Ask). pick (had a) 8 0) l.asks) area
    -- 4 is answered exactly where it had one, and else 0, with nothing besides
    pub number : v.outcome.number ≡ pick (some had l.asks) 4 0
    pub besides : v.outcome.besides ≡ NoValue

  -- every code is 0 exactly where the caller has an entry for none
  zero_none : (k : List Ask) → all_zero (map (enq_code Have s.queue c.0) k) ≡ not (some had k)
  unfolding enq_code pick
  zero_none [] = refl
  zero_none (a ∷ k) = one (had a) (zero_none k)
    where
      one : (b : Bool) → all_zero (map (enq_code Have s.queue c.0) k) ≡ not (some had k)
          → (eqb 0 (pick b 8 0) && all_zero (map (enq_code Have s.queue c.0) k)) ≡ not (b || some had k)
      one true e = refl
      one false e = e

  -- nothing is to be queued where it has one for each
  none_left : (l : Names) → every had l.asks ≡ true → to_queue Have s.queue c.0 l ≡ []
  unfolding to_queue
  none_left l e =
      keep_among had (fresh s.queue c.0) (λ (a : Ask). false) (λ a k. ap not k) l.asks e ∙ keep_none l.asks

coded_number : (k : List ℕ) (t : Step) (b : Bool) → all_zero k ≡ not b → (coded k t).number ≡ pick b 4 0
unfolding coded pick
coded_number k t true e = rw e
coded_number k t false e = rw e

coded_besides : (k : List ℕ) (t : Step) → (coded k t).besides ≡ NoValue
unfolding coded pick
coded_besides k t = one (all_zero k)
  where
    one : (b : Bool) → (pick b (done t) (four t)).besides ≡ NoValue
    one true = refl
    one false = refl

module _ (s : Step) (h : Sound s) (c : TaskNumber) (o : gate_of s c ≡ Ok tt) (l : Names) (es : Ecbs) (area : List ℕ)
    (g : enq_verdict s.queue c Have l (length area) ≡ Ok tt) where
  abbrev asked : Asked
  asked = enq_asked c Have l es area

  run : Running s
  run = running_parts s h (open_running s c o)

  served : serve_of s asked ≡ record { outcome = enq_done s c Have l; codes = enq_written s.queue c Have l area }
  unfolding serve_of service_of through settled
  served = pick_true (sound_step s) _ _ h ∙ rw (o, g)

  leaves : (serve_of s asked).outcome.tables ≡ enq_tail Have s c.0 l
  unfolding enq_done
  leaves =
      ap (λ (v : Served Step). v.outcome.tables) served
      ∙ coded_tables (enq_codes Have s.queue c.0 l) (enq_tail Have s c.0 l)

  tail_is : enq_tail Have s c.0 l ≡ step_with s c (to_queue Have s.queue c.0 l)
  tail_is =
      tail_leaves s run c o l (enq_names Have l (enq_passed s.queue c Have l (length area) g).good) Have _ refl

  pub name_by_name : NameByName s c l area (serve_of s asked)
  unfolding enq_done enq_written enq_code pick
  name_by_name = record {
    tables = leaves ∙ tail_is ∙ ap (step_with s c) (have_zero s.queue c.0 l);
    codes = ap (λ (v : Served Step). v.codes) served;
    number =
        ap (λ (v : Served Step). v.outcome.number) served
        ∙ coded_number (enq_codes Have s.queue c.0 l) (enq_tail Have s c.0 l) (some (had s c) l.asks)
        (zero_none s c l.asks);
    besides =
        ap (λ (v : Served Step). v.outcome.besides) served
        ∙ coded_besides (enq_codes Have s.queue c.0 l) (enq_tail Have s c.0 l);
  }

  -- where all are skipped the step stays, bit for bit
  pub skips_all : every (had s c) l.asks ≡ true → (serve_of s asked).outcome.tables ≡ s
  skips_all e =
      leaves
      ∙ ap (λ (k : List Ask). requeued s (with_tail s.queue c.0 k)) (none_left s c l e)
      ∙ tail_none s run c.0
