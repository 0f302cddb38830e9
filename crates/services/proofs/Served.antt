-- WHAT A REQUEST COMES TO, from the body with pointers for names to the tables that keep the step: without names, and
-- with them.
use mathlib.Core.Path.{◌≡◌, refl, sym, ap, subst, ◌∙◌}
use mathlib.Core.Bool.{true, false, not, false≢true}
use mathlib.Core.List.{List}
use Prim.Native.Nat.{ℕ, ◌+◌, ◌≤◌, ◌<◌}
use native.Mathlib.Omega.{arith}
use lib.ListN.{length, take}
use Rattle.lists.specs.Lists.{every}
use Rattle.lists.specs.Bools.{both}
use Rattle.lists.specs.Pick.{chain_and}
use Rattle.kinds.specs.Ranges.{count_good}
use Rattle.kinds.specs.Limits.{longest_list, name_area}
use Rattle.kinds.specs.declared.names.NameList.{NameList}
use Rattle.kinds.specs.declared.replies.Reply.{Reply}
use Rattle.kinds.specs.declared.requests.Request.{Request}
use Rattle.kinds.specs.declared.requests.Request.TheVariants.{Attach, Detach, End, Abend, Enq, Deq, Wait, Post, Clear}
use Rattle.kinds.specs.declared.requests.Request.TheVariants.{Getmain, Freemain, Dispatch}
use Rattle.rules.specs.Names.{Resource, Names, names_of, names_good, legal}
use Rattle.rules.specs.Events.{Ecbs}
use Rattle.rules.specs.Steps.{Outcome, untouched}
use Rattle.rules.specs.Admission.{gate_of, open_gate}
use Rattle.rules.specs.Enq.{asks_shared, enq_good}
use Rattle.rules.specs.Serve.{service_of}
use Rattle.laws.specs.Tested.{gate_at}
use Rattle.laws.specs.Renaming.{re_names}
use Rattle.laws.specs.RenamedSteps.{NamesTested}
use Rattle.laws.specs.NamesAfter.{entry_names}
use Rattle.names.specs.Named.{names_in}
use Rattle.names.proofs.Listed.{good_count}
use Rattle.names.specs.Pointers.{pointed_in}
use Rattle.namearea.specs.Firsts.{is_in}
use Rattle.namearea.specs.Spelling.{spelling}
use Rattle.namearea.specs.Scanning as area
use Rattle.namearea.specs.Scanning.{Kept}
use Rattle.namearea.specs.Settled.{kept_fits}
use Rattle.namearea.specs.Pointing.{InUse, points_to, new_names}
use Rattle.namearea.specs.Placing.{pointed_list}
use Rattle.namearea.specs.declared.points.Points.{Points}
use Rattle.queue.specs.Pointing.{offsets_at, offsets_in}
use Rattle.queue.specs.declared.offsets.Offsets.{Offsets}
use Rattle.tables.specs.Tables as all
use Rattle.tables.specs.Bodies.{replied}
use Rattle.tables.specs.declared.AllTables.{AllTables}
use Rattle.services.specs.Kept.{step_of, served_by}
use Rattle.services.specs.Serve.{served_in, asks_names, Admits, Behind}
use Rattle.services.specs.Naming.{Left, repacked, joined_by}
use Rattle.services.specs.declared.Tables.{Tables}
use Rattle.services.proofs.Names as names
use Rattle.services.proofs.Names.{no_ask}

-- the gate is the same with names and with pointers
gate_pointed : (t : Tables) (r : Request) → gate_at (all.step_of t.all) r ≡ gate_at (step_of t) r
unfolding gate_of open_gate
gate_pointed t r = refl

behind : (t : Tables) (r : Request) (ns ms : Names) → Admits t r ns → NamesTested r ms → Behind t.all r ms
behind t r ns ms a m = record {
  sound = names.sound_pointed t a.sound;
  gate = gate_pointed t r ∙ a.gate;
  names = m;
}

-- A REQUEST WITHOUT NAMES
module _ (t : Tables) (r : Request) (ns : Names) (es : Ecbs) (lent : List ℕ) (a : Admits t r ns)
    (u : asks_names r ≡ false) where
  pub unnamed_behind : (ms : Names) → Behind t.all r ms
  unnamed_behind ms = behind t r ns ms a (names.unasked_tested r ms u)

  tested : NamesTested r no_ask
  tested = names.unasked_tested r no_ask u

  module _ (ms : Names) (none : ms ≡ no_ask) (p : Reply) (k : AllTables) (written : List ℕ)
      (e : record { outcome = replied p k; codes = written } ≡ served_in (service_of (all.step_of t.all) r ms es lent))
    where
      so : record { outcome = replied p k; codes = written } ≡ served_in
          (service_of (all.step_of t.all) r no_ask es lent)
      so = e ∙ ap (λ (x : Names). served_in (service_of (all.step_of t.all) r x es lent)) none

      pub unnamed_left : Left t.all.queue k.queue t.names
      unnamed_left =
          names.left_so t a.sound r no_ask es lent tested (replied p k) written so
          (names.unasked_few t a.sound r es lent tested)

      pub unnamed_answers : (v : Tables) (s : Outcome Tables) → v ≡ repacked k t.names → s ≡ replied p v
          → untouched written s ≡ served_by (service_of (step_of t) r ns es lent)
      unnamed_answers v s f g =
          ap (untouched written) g
          ∙ names.left_answers t a.sound r no_ask es lent tested (replied p k) written so
          (names.unasked_few t a.sound r es lent tested) v f
          ∙ ap served_by (names.unasked_same (step_of t) r no_ask ns es lent u)

-- names that have passed their tests are good
names_good_lem : (r : Request) (ns : Names) → asks_names r ≡ true → NamesTested r ns → names_good ns ≡ true
unfolding enq_good
names_good_lem (Attach c lpmod dpmod ecb) ns h g = absurd (false≢true h)
names_good_lem (Detach c task) ns h g = absurd (false≢true h)
names_good_lem (End c code) ns h g = absurd (false≢true h)
names_good_lem (Abend c code step) ns h g = absurd (false≢true h)
names_good_lem (Enq c ret) ns h g = (both (names_good ns) (not (asks_shared ret ns)) g.0).0
names_good_lem (Deq c ret) ns h g = g
names_good_lem (Wait c n) ns h g = absurd (false≢true h)
names_good_lem (Post c e code) ns h g = absurd (false≢true h)
names_good_lem (Clear c e) ns h g = absurd (false≢true h)
names_good_lem (Getmain c bytes subpool conditional) ns h g = absurd (false≢true h)
names_good_lem (Freemain c address bytes subpool) ns h g = absurd (false≢true h)
names_good_lem Dispatch ns h g = absurd (false≢true h)

-- and few
pub named_few : (t : Tables) (r : Request) (l : NameList) → Admits t r (names_in l) → asks_names r ≡ true
    → l.count ≤ longest_list
named_few t r l a u = good_count (names_in l) (names_good_lem r (names_in l) u a.names)

-- A REQUEST WITH NAMES
module _ (t : Tables) (r : Request) (l : NameList) (es : Ecbs) (lent : List ℕ) (a : Admits t r (names_in l))
    (u : asks_names r ≡ true) (long : l.count ≤ length l.names) where
  pub named_good : names_good (names_in l) ≡ true
  named_good = names_good_lem r (names_in l) u a.names

  pub named_legal : every legal (names_of (names_in l)) ≡ true
  unfolding names_good
  named_legal =
      let b = chain_and (count_good l.count) _ named_good in
      (chain_and (every legal (names_of (names_in l))) _ b.1).0

  abbrev before : List Resource
  before = names.names_of_step t a.sound

  -- the names are looked up among those in use
  module _ (at : Offsets) (o : at ≡ offsets_at t.all.queue) where
    pub named_in_use : InUse at.of t.all.queue.count t.names.bytes
    named_in_use =
        let w : take t.all.queue.count at.of ≡ offsets_in t.all.queue = names.offsets_read t.all.queue
        at o in
        record {
          few = names.offsets_long t.all at (names.sound_pointed t a.sound) o;
          room = omega (arith, names.area_long t a.sound);
          kept = subst (Kept t.names.bytes) (sym w) (names.area_kept t a.sound);
          fit = ap (every (area.fits_at t.names.bytes)) w
              ∙ kept_fits t.names.bytes (offsets_in t.all.queue) (names.area_scanned t a.sound);
        }

    module _ (p : Points)
        (e : p ≡ points_to (area.names_of t.names.bytes (take t.all.queue.count at.of)) l) where
      points_are : p ≡ points_to before l
      points_are =
          e ∙ ap (λ (os : List ℕ). points_to (area.names_of t.names.bytes os) l)
          (names.offsets_read t.all.queue at o)
          ∙ ap (λ (ns : List Resource). points_to ns l) (sym (names.names_are t a.sound))

      list_is : pointed_in p.list ≡ re_names (names.pointing-to t a.sound r (names_in l) es lent a.names)
          (names_in l)
      list_is = ap (λ (x : Points). pointed_in x.list) points_are ∙ pointed_list before l long

      pub named_behind : Behind t.all r (pointed_in p.list)
      named_behind =
          subst (Behind t.all r) (sym list_is)
          (behind t r (names_in l) _ a (names.tested_pointed t a.sound r (names_in l) es lent a.names))

      module _ (q : Reply) (k : AllTables) (written : List ℕ)
          (f : record { outcome = replied q k; codes = written }
          ≡ served_in (service_of (all.step_of t.all) r (pointed_in p.list) es lent)) where
        named_so : record { outcome = replied q k; codes = written } ≡ served_in (service_of (all.step_of t.all) r
            (re_names (names.pointing-to t a.sound r (names_in l) es lent a.names) (names_in l)) es lent)
        named_so = f ∙ ap (λ (x : Names). served_in (service_of (all.step_of t.all) r x es lent)) list_is

        bc : t.all.queue.count ≡ length before
        bc = names.before_count t a.sound r (names_in l) es lent a.names (replied q k) written named_so

        ac : k.queue.count ≡ length (names.after t a.sound r (names_in l) es lent a.names).queue
        ac = names.after_count t a.sound r (names_in l) es lent a.names (replied q k) written named_so

        -- no entry has come
        module _ (z : k.queue.count ≤ t.all.queue.count) where
          few : every (λ (n : Resource). is_in n before)
              (entry_names (names.after t a.sound r (names_in l) es lent a.names).queue) ≡ true
          few = names.few_left t a.sound r (names_in l) es lent a.names (omega (arith, bc, ac))

          pub named_left : Left t.all.queue k.queue t.names
          named_left = names.left_so t a.sound r (names_in l) es lent a.names (replied q k) written named_so few

          pub named_answers : (v : Tables) (s : Outcome Tables) → v ≡ repacked k t.names → s ≡ replied q v
              → untouched written s ≡ served_by (service_of (step_of t) r (names_in l) es lent)
          named_answers v s x g =
              ap (untouched written) g
              ∙ names.left_answers t a.sound r (names_in l) es lent a.names (replied q k) written named_so few v x

        -- entries have come
        module _ (z : t.all.queue.count < k.queue.count) where
          came : names.Came t a.sound r (names_in l) es lent a.names
          came = names.more_came t a.sound r (names_in l) es lent a.names (omega (arith, bc, ac))

          pub named_room : p.from + length (spelling (new_names p l)) ≤ name_area
          named_room =
              subst (λ (x : Points). x.from + length (spelling (new_names x l)) ≤ name_area) (sym points_are)
              (names.joined_room t a.sound r (names_in l) es lent a.names l refl named_good came.test
              came.names came.rest)

          pub joined_answers : (v : Tables) (s : Outcome Tables) → v ≡ joined_by k t.names l p → s ≡ replied q v
              → untouched written s ≡ served_by (service_of (step_of t) r (names_in l) es lent)
          joined_answers v s x g =
              ap (untouched written) g
              ∙ names.joined_answers t a.sound r (names_in l) es lent a.names (replied q k) written named_so l refl
              named_good came v (x ∙ ap (joined_by k t.names l) points_are)
