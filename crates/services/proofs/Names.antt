-- NAMES AND POINTERS IN SOUND TABLES: the step that they stand for, with names, and the one that the services work on,
-- with pointers, say the same; and what a request leaves is kept in tables again.
use mathlib.Core.Path.{◌≡◌, refl, sym, ap, ap₂, subst, ◌∙◌}
use mathlib.Core.Bool.{Bool, true, false, not, ◌&&◌, ◌||◌, and-true, or-true, false≢true}
use mathlib.Core.List.{List, [], ◌∷◌, ◌++◌, map, append-nil}
use Prim.Native.Nat.{ℕ, ◌+◌, ◌≤◌, ◌<◌}
use native.Mathlib.Omega.{arith}
use lib.Dec.{eqb, ltb}
use lib.ListN.{length, take, replicate, length-map, length-append}
use borrow.Author.Tests.{eqb-true, eq-eqb, ltb-false, not-true}
use Rattle.lists.specs.Lists.{keep, every, some, distinct, same_bytes}
use Rattle.lists.specs.Bools.{both, join, not_so, never, or_left, or_right}
use Rattle.lists.specs.Every.{every_gives, every_of, some_append}
use Rattle.lists.specs.Pick.{pick_true, chain_and, chain_not}
use Rattle.lists.specs.Bytes.{same_bytes_eq}
use Rattle.lists.specs.Tables.{padded, padded_length}
use Rattle.kinds.specs.Limits.{most_entries, name_area}
use Rattle.kinds.specs.declared.names.Slot.{Slot}
use Rattle.kinds.specs.declared.names.NameList.{NameList}
use Rattle.kinds.specs.declared.requests.Request.{Request}
use Rattle.kinds.specs.declared.requests.Request.TheVariants.{Attach, Detach, End, Abend, Enq, Deq, Wait, Post, Clear}
use Rattle.kinds.specs.declared.requests.Request.TheVariants.{Getmain, Freemain, Dispatch}
use Rattle.rules.specs.Names.{Resource, Names, names_of, names_good, same_name, legal, lawful, firsts}
use Rattle.rules.specs.Control.{Entry}
use Rattle.rules.specs.Events.{Ecbs}
use Rattle.rules.specs.Steps.{Step, Outcome, Served, with_queue}
use Rattle.rules.specs.SoundQueue.{entry_names_good}
use Rattle.rules.specs.Sound.{sound_step}
use Rattle.rules.specs.Serve.{service_of}
use Rattle.laws.specs.Bounds.{sound_bounded}
use Rattle.laws.specs.Served.{service_of_sound}
use Rattle.laws.specs.Failing.{Sound}
use Rattle.laws.specs.LawfulNames.{lawful_each}
use Rattle.laws.specs.Renaming.{re_named, re_names, all_known}
use Rattle.laws.specs.RenamedSound.{sound_but_names, sound_renamed}
use Rattle.laws.specs.RenamedSteps.{re_step, re_served, NamesTested, tested_same, serves_same}
use Rattle.laws.specs.NamesAfter.{entry_names, in_itself, NamesAfter, names_after}
use Rattle.laws.specs.NamesAfter.NamesAfter.{fewer, more}
use Rattle.laws.specs.SameNames.{eq_name}
use Rattle.names.specs.Named.{names_in}
use Rattle.names.specs.Pointers.{pointer, lawful_pointer}
use Rattle.namearea.specs.Firsts.{is_in}
use Rattle.namearea.specs.Spelling.{spelling, needed, offset_in, name_at, whole, spelling_length}
use Rattle.namearea.specs.Scanning as area
use Rattle.namearea.specs.Scanning.{area_for, points_for, scanned, Kept, scanned_kept}
use Rattle.namearea.specs.Passing.{reads, stored_passes, there_map}
use Rattle.namearea.specs.Packing.{Clear as Packable}
use Rattle.namearea.specs.Settled.{kept_clear}
use Rattle.namearea.specs.Areas.{area_of, holds}
use Rattle.namearea.specs.declared.area.NameArea.{NameArea}
use Rattle.namearea.specs.Room.{legal_wholes, legal_room}
use Rattle.namearea.specs.Additions.{offset_longer, more_firsts, added, appended}
use Rattle.namearea.specs.Pointing.{points_to, overlaid, new_names}
use Rattle.namearea.specs.Placing.{good_once}
use Rattle.namearea.specs.Appending.{new_names_lem, new_end}
use Rattle.namearea.specs.Naming.{shown_in, point_to, offsets_of, all_pointers, pointers_lawful, names_shown}
use Rattle.namearea.specs.Naming.{offsets_pointed, names_known, shown_apart, pointed_apart, back_pointed, back_shown}
use Rattle.queue.specs.Queues.{entry_of, slot_of, zero_slot, entries_in, stored_entries, PackedEntries}
use Rattle.queue.specs.Queues.{rest_zero, packed_entries}
use Rattle.queue.specs.Pointing.{offsets_at, offsets_in, offsets_taken, pointed_by}
use Rattle.queue.specs.declared.offsets.Offsets.{Offsets}
use Rattle.queue.specs.declared.Queue.{Queue}
use Rattle.queue.proofs.Views.{Pointing, entries_shown, live_stored, entries_count, stored_packed}
use Rattle.queue.proofs.Passes.{stored_passes as queue-passes}
use Rattle.storage.specs.Stored.{packed_areas, stored_areas}
use Rattle.storage.specs.Kept.{stored_passes as areas-pass}
use Rattle.tables.specs.Tables.{sound_tables, Packed}
use Rattle.tables.specs.Tables as all
use Rattle.tables.specs.declared.AllTables.{AllTables}
use Rattle.tables.proofs.Admits as admits
use Rattle.services.specs.Kept.{in_tables, step_of, tables_of, served_by, soundb}
use Rattle.services.specs.Serve.{served_in, asks_names}
use Rattle.services.specs.Naming.{Left, repacked, joined_by}
use Rattle.services.specs.declared.Tables.{Tables}

-- THE PARTS of the test

module _ (t : Tables) (h : soundb t ≡ true) where
  abbrev q : Queue
  q = t.all.queue

  abbrev bytes : List ℕ
  bytes = t.names.bytes

  parts : (packed_entries q ≡ true) × (packed_areas t.all.storage ≡ true) × (holds t.names (offsets_in q) ≡ true)
      × (sound_step (step_of t) ≡ true)
  unfolding soundb
  parts =
      let a = chain_and (packed_entries q) _ h in
      let b = chain_and (packed_areas t.all.storage) _ a.1 in
      let d = chain_and (holds t.names (offsets_in q)) _ b.1 in
      (a.0, b.0, d.0, d.1)

  pub sound_step_lem : sound_step (step_of t) ≡ true
  sound_step_lem = parts.3

  pub sound_holds : holds t.names (offsets_in q) ≡ true
  sound_holds = parts.2

  held : (eqb (length bytes) name_area ≡ true) × (scanned bytes [] 0 (offsets_in q) ≡ true)
  unfolding holds
  held = both (eqb (length bytes) name_area) _ sound_holds

  pub area_long : length bytes ≡ name_area
  area_long = eqb-true (length bytes) name_area held.0

  pub area_scanned : scanned bytes [] 0 (offsets_in q) ≡ true
  area_scanned = held.1

  pub area_kept : Kept bytes (offsets_in q)
  area_kept = scanned_kept bytes (offsets_in q) area_scanned

-- BOTH VIEWS

-- an entry of a queue points to its name
pub entries_point : (q : Queue) → all_pointers (entries_in q) ≡ true
entries_point q = ap all_pointers (entries_shown q) ∙ each (take q.count q.slots)
  where
    each : (l : List Slot) → all_pointers (map entry_of l) ≡ true
    each [] = refl
    each (s ∷ l) = join (same_name (pointer s.name.0) (pointer s.name.0)) _
        (eq_name (pointer s.name.0) _ refl) (each l)

module _ (t : Tables) (h : soundb t ≡ true) where
  abbrev pub names_of_step : List Resource
  names_of_step = entry_names (step_of t).queue

  pub names_are : names_of_step ≡ area.names_of t.names.bytes (offsets_in t.all.queue)
  names_are = names_shown t.names.bytes (entries_in t.all.queue)

  -- with pointers again
  pub back : (ms : List Resource) → re_step (point_to (names_of_step ++ ms)) (step_of t) ≡ all.step_of t.all
  back ms =
      ap (λ (ns : List Resource). re_step (point_to (ns ++ ms)) (step_of t)) names_are
      ∙ ap (with_queue (all.step_of t.all))
      (back_pointed t.names.bytes (entries_in t.all.queue) ms (entries_point t.all.queue) (area_kept t h))

  pub back_alone : re_step (point_to names_of_step) (step_of t) ≡ all.step_of t.all
  back_alone = ap (λ (ns : List Resource). re_step (point_to ns) (step_of t)) (sym (append-nil names_of_step)) ∙ back []

  area_is : t.names ≡ area_of names_of_step
  area_is = λ i. record {
    bytes = ((area_kept t h).area ∙ ap₂ area_for (area_long t h) (sym names_are)) i;
  }

  -- the rules, with pointers for names
  pub sound_pointed : sound_tables t.all ≡ true
  unfolding sound_tables entry_names_good
  sound_pointed =
      let p = parts t h in
      let e = entries_in t.all.queue in
      pick_true (packed_entries t.all.queue) _ false p.0
      ∙ pick_true (packed_areas t.all.storage) _ false p.1
      ∙ sound_renamed (shown_in t.names.bytes) (λ n. is_in n (entry_names e))
      (shown_apart t.names.bytes e (entries_point t.all.queue) (area_kept t h))
      (all.step_of t.all) (names_known e) p.3 (pointers_lawful e (entries_point t.all.queue))

  pub sound_packed : Packed t.all
  sound_packed = admits.sound_packed t.all sound_pointed

  -- SOUND TABLES KEEP THEIR STEP
  pub sound_tables_lem : tables_of (step_of t) ≡ t
  sound_tables_lem = λ i. record {
    all = (ap all.tables_of back_alone ∙ admits.packed_tables t.all sound_packed) i;
    names = sym area_is i;
  }

-- THE TEST, as it is made: with pointers for names, then of the area, then of the names
module _ (t : AllTables) (bytes : List ℕ) (long : length bytes ≡ name_area) where
  abbrev u : Tables
  u = in_tables t bytes

  -- with an area that holds the names, the rules say of them what they say of the pointers, and that they are lawful
  rules_named : scanned bytes [] 0 (offsets_in t.queue) ≡ true → sound_step (all.step_of t) ≡ true
      → sound_step (step_of u) ≡ every lawful (area.names_of bytes (offsets_in t.queue))
  unfolding entry_names_good
  rules_named k p =
      let e = entries_in t.queue in
      let b = sound_but_names (shown_in bytes) (λ n. is_in n (entry_names e))
      (shown_apart bytes e (entries_point t.queue) (scanned_kept bytes (offsets_in t.queue) k))
      (all.step_of t) (names_known e) in
      sym (and-true (sound_step (step_of u)))
      ∙ ap (λ (x : Bool). sound_step (step_of u) && x) (sym (pointers_lawful e (entries_point t.queue)))
      ∙ b ∙ ap (λ (x : Bool). x && entry_names_good (map (re_named (shown_in bytes)) e)) p
      ∙ sym (every_of (λ (x : Entry). x.name) lawful (map (re_named (shown_in bytes)) e))
      ∙ ap (every lawful) (names_shown bytes e)

  pub test_names : sound_tables t ≡ true → scanned bytes [] 0 (offsets_in t.queue) ≡ true
      → every lawful (area.names_of bytes (offsets_in t.queue)) ≡ soundb u
  unfolding soundb sound_tables holds
  test_names p k =
      let a = chain_and (packed_entries t.queue) _ p in
      let b = chain_and (packed_areas t.storage) _ a.1 in
      sym (pick_true (packed_entries t.queue) _ false a.0
      ∙ pick_true (packed_areas t.storage) _ false b.0
      ∙ pick_true (eqb (length bytes) name_area && scanned bytes [] 0 (offsets_in t.queue)) _ false
      (join (eqb (length bytes) name_area) _ (eq-eqb (length bytes) name_area long) k)
      ∙ rules_named k b.1)

  pub test_tables : sound_tables t ≡ false → false ≡ soundb u
  test_tables p = sym (not_so (soundb u) (λ h. never (sound_tables t) (sound_pointed u h) p))

  pub test_area : scanned bytes [] 0 (offsets_in t.queue) ≡ false → false ≡ soundb u
  test_area p = sym (not_so (soundb u) (λ h. never (scanned bytes [] 0 (offsets_in t.queue)) (area_scanned u h) p))

-- names that differ are their own firsts
firsts_distinct : (ns : List Resource) → distinct same_name ns ≡ true → firsts ns ≡ ns
firsts_distinct [] h = refl
firsts_distinct (n ∷ ns) h =
    let b = both (not (some (same_name n) ns)) _ h in
    ap (λ (l : List Resource). n ∷ l)
    (ap (keep (λ (m : Resource). not (same_name n m))) (firsts_distinct ns b.1) ∙ all_other ns (not-true _ b.0))
  where
    all_other : (l : List Resource) → some (same_name n) l ≡ false → keep (λ (m : Resource). not (same_name n m)) l ≡ l
    all_other [] k = refl
    all_other (m ∷ l) k =
        rw (or_left (same_name n m) _ k) (ap (λ (r : List Resource). m ∷ r) (all_other l (or_right (same_name n m) _ k)))

-- where the entries point, as it is read from the queue
pub offsets_read : (q : Queue) (at : Offsets) → at ≡ offsets_at q → take q.count at.of ≡ offsets_in q
offsets_read q at e = ap (λ (x : Offsets). take q.count x.of) e ∙ offsets_taken q

-- the array behind it is as long as the queue's
pub offsets_long : (t : AllTables) (at : Offsets) → sound_tables t ≡ true → at ≡ offsets_at t.queue
    → t.queue.count ≤ length at.of
unfolding sound_tables packed_entries rest_zero
offsets_long t at h e =
    let a = chain_and (packed_entries t.queue) _ h in
    let b = chain_not (ltb most_entries t.queue.count) _ a.0 in
    let d = both (eqb (length t.queue.slots) most_entries) _ b.1 in
    let k : length at.of ≡ length t.queue.slots =
    ap (λ (x : Offsets). length x.of) e ∙ length-map t.queue.slots (λ (s : Slot). s.name.0) in
    omega (
      arith,
      ltb-false most_entries t.queue.count b.0,
      eqb-true (length t.queue.slots) most_entries
          d.0,
      k,
    )

-- so it is of a queue that keeps its list
pub offsets_full : (q : Queue) (at : Offsets) → PackedEntries q → at ≡ offsets_at q → q.count ≤ length at.of
offsets_full q at p e =
    let k : length at.of ≡ length q.slots =
    ap (λ (x : Offsets). length x.of) e ∙ length-map q.slots (λ (s : Slot). s.name.0) in
    let n : length (map slot_of (entries_in q)) ≡ q.count =
    length-map (entries_in q) slot_of ∙ sym (entries_count (entries_in q) q p.form) in
    let m : length q.slots ≡ most_entries =
    ap (λ (x : Queue). length x.slots) p.form
    ∙ padded_length most_entries zero_slot (map slot_of (entries_in q)) (omega (arith, n, p.room)) in
    omega (arith, k, m, p.room)

pub points_long : (bytes os : List ℕ) → length (points_for (area.names_of bytes os)) ≡ length os
points_long bytes os =
    length-map (area.names_of bytes os) (offset_in (firsts (area.names_of bytes os))) ∙ length-map os (name_at bytes)

-- the area in which nothing is yet
pub area_none : area_for name_area [] ≡ replicate name_area 0
unfolding padded spelling
area_none = refl

-- entries that point to their names are kept in slots
pub pointing : (ns : List Resource) (q : List Entry) → Pointing (map (re_named (point_to ns)) q)
pointing ns q = record { slots = map slot_at q; shown = each q }
  where
    slot_at : Entry → Slot
    slot_at e = record {
      task = record { 0 = e.task };
      exclusive = e.exclusive;
      name = record { 0 = offset_in (firsts ns) e.name };
    }

    each : (l : List Entry) → map (re_named (point_to ns)) l ≡ map entry_of (map slot_at l)
    each [] = refl
    each (e ∷ l) = ap (λ (k : List Entry). re_named (point_to ns) e ∷ k) (each l)

-- A SOUND STEP IS KEPT
module _ (s : Step) (h : Sound s) where
  abbrev ns : List Resource
  ns = entry_names s.queue

  names_legal : every legal ns ≡ true
  unfolding entry_names_good
  names_legal =
      (both (every legal ns) _
      (sym (lawful_each ns) ∙ every_of (λ (e : Entry). e.name) lawful s.queue ∙ (sound_bounded s h).names)).0

  pub step_few : length ns ≤ most_entries
  step_few = omega (arith, length-map s.queue (λ (e : Entry). e.name), (sound_bounded s h).queue)

  pub step_wholes : every whole (firsts ns) ≡ true
  step_wholes = legal_wholes ns names_legal

  pub step_room : needed (firsts ns) ≤ name_area
  step_room = legal_room ns names_legal step_few

  -- and shows again
  shows_again : map (re_named (shown_in (area_for name_area ns))) (map (re_named (point_to ns)) s.queue) ≡ s.queue
  shows_again = back_shown name_area ns s.queue step_wholes step_room (names_known s.queue)

  pub step_tables : step_of (tables_of s) ≡ s
  step_tables =
      ap (λ (u : Step). re_step (shown_in (area_for name_area ns)) u)
      (admits.step_tables (re_step (point_to ns) s) (pointing ns s.queue))
      ∙ ap (with_queue s) shows_again

  -- in tables that pass the test
  pub sound_kept : soundb (tables_of s) ≡ true
  unfolding soundb holds
  sound_kept =
      let e = map (re_named (point_to ns)) s.queue in
      let b = sound_bounded s h in
      let o : offsets_in (stored_entries e) ≡ points_for ns =
      ap offsets_of (live_stored e (pointing ns s.queue)) ∙ offsets_pointed ns s.queue in
      pick_true (packed_entries (stored_entries e)) _ false
      (queue-passes e (omega (arith, length-map s.queue (re_named (point_to ns)), b.queue)))
      ∙ pick_true (packed_areas (stored_areas s.areas)) _ false (areas-pass s.areas b.areas)
      ∙ pick_true (holds (area_of ns) (offsets_in (stored_entries e))) _ false
      (join (eqb (length (area_for name_area ns)) name_area) _
      (eq-eqb _ name_area (padded_length name_area 0 (spelling (firsts ns))
      (omega (arith, spelling_length (firsts ns) step_wholes, step_room))))
      (ap (scanned (area_for name_area ns) [] 0) o ∙ stored_passes name_area ns step_wholes step_room))
      ∙ ap sound_step step_tables ∙ h

-- ENTRIES HAVE LEFT, OR NONE HAS

module _ (before : Queue) (t : AllTables) (a : NameArea) (l : Left before t.queue a) where
  area_held : (eqb (length a.bytes) name_area ≡ true) × (scanned a.bytes [] 0 (offsets_in before) ≡ true)
  unfolding holds
  area_held = both (eqb (length a.bytes) name_area) _ l.held

  -- what is left can be packed anew
  pub left_clear : Packable name_area a.bytes (offsets_in t.queue)
  left_clear =
      kept_clear name_area a.bytes (offsets_in before) (offsets_in t.queue) area_held.1 l.there
      (eqb-true (length a.bytes) name_area area_held.0)

  own_offsets : (r : List Slot) → pointed_by (offsets_of (map entry_of r)) (map entry_of r) ≡ map entry_of r
  own_offsets [] = refl
  own_offsets (x ∷ r) = ap (λ (k : List Entry). entry_of x ∷ k) (own_offsets r)

  -- and is packed where every entry points to the name that it pointed to
  pub left_same : same_bytes (offsets_in before) (offsets_in t.queue) ≡ true
      → ◌≡◌ {A = Tables} (record { all = t; names = a }) (repacked t a)
  unfolding repacked
  left_same h =
      let os : offsets_in before ≡ offsets_in t.queue = same_bytes_eq (offsets_in before) (offsets_in t.queue) h in
      let k : Kept a.bytes (offsets_in t.queue) =
      subst (Kept a.bytes) os (scanned_kept a.bytes (offsets_in before) area_held.1) in
      let e : pointed_by (offsets_in t.queue) (entries_in t.queue) ≡ entries_in t.queue =
      ap (λ (r : List Entry). pointed_by (offsets_of r) r) (entries_shown t.queue)
      ∙ own_offsets (take t.queue.count t.queue.slots) ∙ sym (entries_shown t.queue) in
      λ i. record {
        all = all.put_queue t ((l.packed.form ∙ ap stored_entries
            (sym e ∙ ap (λ (x : List ℕ). pointed_by x (entries_in t.queue)) k.points)) i);
        names = record {
          bytes = (k.area ∙ ap (λ (n : ℕ). area_for n (area.names_of a.bytes (offsets_in t.queue)))
              (eqb-true (length a.bytes) name_area area_held.0)) i;
        };
      }

-- A REQUEST ON SOUND TABLES, with pointers for names
module _ (t : Tables) (h : soundb t ≡ true) (r : Request) (asked : Names) (es : Ecbs) (lent : List ℕ)
    (tested : NamesTested r asked) where
  abbrev before : List Resource
  before = names_of_step t h

  abbrev all-names : List Resource
  all-names = before ++ names_of asked

  abbrev pub pointing-to : Resource → Resource
  pointing-to = point_to all-names

  abbrev pub after : Step
  after = (service_of (step_of t) r asked es lent).outcome.tables

  queue_known : all_known (λ n. is_in n all-names) (step_of t).queue ≡ true
  queue_known =
      every_gives (λ (e : Entry). is_in e.name before) (λ (e : Entry). is_in e.name all-names)
      (λ e k. some_append (same_name e.name) before (names_of asked) ∙ rw k) (step_of t).queue
      (names_known (step_of t).queue)

  asked_known : every (λ n. is_in n all-names) (names_of asked) ≡ true
  asked_known =
      every_gives (λ (n : Resource). is_in n (names_of asked)) (λ (n : Resource). is_in n all-names)
      (λ n k. some_append (same_name n) before (names_of asked) ∙ rw (k, or-true)) (names_of asked)
      (in_itself (names_of asked))

  -- its names pass their tests
  pub tested_pointed : NamesTested r (re_names pointing-to asked)
  tested_pointed =
      tested_same pointing-to (λ n. is_in n all-names) (pointed_apart all-names) (λ n. lawful_pointer _) r asked
      asked_known tested

  -- it does what it does to the step with names
  pub serves_pointed : service_of (all.step_of t.all) r (re_names pointing-to asked) es lent
      ≡ re_served pointing-to (service_of (step_of t) r asked es lent)
  serves_pointed =
      ap (λ (s : Step). service_of s r (re_names pointing-to asked) es lent) (sym (back t h (names_of asked)))
      ∙ serves_same pointing-to (λ n. is_in n all-names) (pointed_apart all-names) (λ n. lawful_pointer _) (step_of t) r
      asked es lent queue_known asked_known tested

  pub after_sound : Sound after
  after_sound = service_of_sound (step_of t) r asked es lent (sound_step_lem t h)

  -- WHERE NO NAME HAS COME, what is left is packed anew
  module _ (few : every (λ (n : Resource). is_in n before) (entry_names after.queue) ≡ true) where
    abbrev left-tables : AllTables
    left-tables = all.tables_of (re_step pointing-to after)

    left_entries : entries_in left-tables.queue ≡ map (re_named pointing-to) after.queue
    left_entries = live_stored (map (re_named pointing-to) after.queue) (pointing all-names after.queue)

    left_offsets : offsets_in left-tables.queue ≡ map (offset_in (firsts all-names)) (entry_names after.queue)
    left_offsets = ap offsets_of left_entries ∙ offsets_pointed all-names after.queue

    -- a name that was in use is read where it stands
    read_there : (l : List Resource) → every (λ (n : Resource). is_in n before) l ≡ true
        → area.names_of t.names.bytes (map (offset_in (firsts all-names)) l) ≡ l
    read_there [] k = refl
    read_there (n ∷ l) k =
        let b = both (is_in n before) _ k in
        ap₂ (λ (m : Resource) (ms : List Resource). m ∷ ms)
        (ap₂ (λ (x : List ℕ) (o : ℕ). name_at x o) (ap (λ (a : NameArea). a.bytes) (area_is t h))
        (offset_longer before (names_of asked) n b.0)
        ∙ reads name_area before (step_wholes (step_of t) (sound_step_lem t h)) (step_room (step_of t) (sound_step_lem t h)) n
        b.0)
        (read_there l b.1)

    names_left : area.names_of t.names.bytes (offsets_in left-tables.queue) ≡ entry_names after.queue
    names_left = ap (area.names_of t.names.bytes) left_offsets ∙ read_there (entry_names after.queue) few

    pub left_there : every (λ (o : ℕ). some (eqb o) (offsets_in t.all.queue)) (offsets_in left-tables.queue) ≡ true
    left_there =
        ap (every (λ (o : ℕ). some (eqb o) (offsets_in t.all.queue))) left_offsets ∙ each
        (entry_names after.queue) few
      where
        each : (l : List Resource) → every (λ (n : Resource). is_in n before) l ≡ true
            → every (λ (o : ℕ). some (eqb o) (offsets_in t.all.queue)) (map (offset_in (firsts all-names)) l) ≡ true
        each [] k = refl
        each (n ∷ l) k =
            let b = both (is_in n before) _ k in
            join (some (eqb (offset_in (firsts all-names) n)) (offsets_in t.all.queue)) _
            (ap₂ (λ (o : ℕ) (os : List ℕ). some (eqb o) os) (offset_longer before (names_of asked) n b.0)
            ((area_kept t h).points ∙ ap points_for (sym (names_are t h)))
            ∙ there_map (offset_in (firsts before)) before n b.0)
            (each l b.1)

    pointed_anew : (fs : List Resource) (l : List Entry)
        → pointed_by (map (offset_in fs) (entry_names l)) (map (re_named pointing-to) l)
        ≡ map (re_named (λ (n : Resource). pointer (offset_in fs n))) l
    pointed_anew fs [] = refl
    pointed_anew fs (e ∷ l) =
        ap (λ (k : List Entry). re_named (λ (n : Resource). pointer (offset_in fs n)) e ∷ k) (pointed_anew fs l)

    pub left_kept : repacked left-tables t.names ≡ tables_of after
    unfolding repacked
    left_kept = λ i. record {
      all = all.put_queue left-tables ((ap stored_entries
          (ap₂ (λ (ns : List Resource) (l : List Entry). pointed_by (points_for ns) l) names_left left_entries
          ∙ pointed_anew (firsts (entry_names after.queue)) after.queue)) i);
      names = area_of (names_left i);
    }

  -- WHERE ENTRIES HAVE COME, the new names stand behind the others
  module _ (l : NameList) (is : asked ≡ names_in l) (good : names_good asked ≡ true) (p : Resource → Bool)
      (e : entry_names after.queue ≡ before ++ keep p (names_of asked))
      (k : every (λ (n : Resource). p n || is_in n before) (names_of asked) ≡ true) where
    all_firsts : firsts (entry_names after.queue) ≡ firsts all-names
    all_firsts = ap firsts e ∙ more_firsts p before (names_of asked) k

    new_are : new_names (points_to before l) l ≡ added before (names_of asked)
    new_are =
        new_names_lem before l
        ∙ ap (λ (x : Names). keep (λ (n : Resource). not (is_in n before)) (names_of x)) (sym is)
        ∙ ap (keep (λ (n : Resource). not (is_in n before))) (sym
        (firsts_distinct (names_of asked) (good_once asked good)))

    pub joined_room : (points_to before l).from + length (spelling (new_names (points_to before l) l)) ≤ name_area
    unfolding points_to
    joined_room =
        let z = new_end before l (ap names_good (sym is) ∙ good) in
        let y : (points_to before l).end ≡ needed (firsts (entry_names after.queue)) =
        ap (λ (x : Names). needed (firsts (before ++ names_of x))) (sym is) ∙ ap needed (sym all_firsts) in
        omega (arith, z, y, step_room after after_sound)

    pub joined_kept : joined_by (all.tables_of (re_step pointing-to after)) t.names l (points_to before l)
        ≡ tables_of after
    unfolding joined_by points_to
    joined_kept = λ i. record {
      all = all.tables_of (re_step (λ (n : Resource). pointer (offset_in (sym all_firsts i) n)) after);
      names = record {
        bytes = (ap₂ (λ (x : List ℕ) (new : List Resource). overlaid (needed (firsts before)) x (spelling new))
            (ap (λ (a : NameArea). a.bytes) (area_is t h)) new_are
            ∙ appended name_area before (names_of asked) (step_wholes (step_of t) (sound_step_lem t h))
            ∙ ap (λ (fs : List Resource). padded name_area 0 (spelling fs)) (sym all_firsts)) i;
      };
    }

  -- WHICH OF THE TWO, by the number of entries
  after_names : NamesAfter before (names_of asked) (entry_names after.queue)
  after_names = names_after (step_of t) r asked es lent

  pub few_left : length after.queue ≤ length before
      → every (λ (n : Resource). is_in n before) (entry_names after.queue) ≡ true
  few_left z = one after_names
    where
      none_new : (l : List Resource) → length (before ++ l) ≤ length before → l ≡ []
      none_new [] y = refl
      none_new (n ∷ l) y = absurd (omega (arith, length-append before (n ∷ l)))

      one : NamesAfter before (names_of asked) (entry_names after.queue)
          → every (λ (n : Resource). is_in n before) (entry_names after.queue) ≡ true
      one (fewer a b) = a
      one (more p e k) =
          let y : length (before ++ keep p (names_of asked)) ≤ length before =
          omega (arith, ap length e, length-map after.queue (λ (x : Entry). x.name)) in
          ap (every (λ (n : Resource). is_in n before))
          (e ∙ ap (λ (x : List Resource). before ++ x) (none_new (keep p (names_of asked)) y) ∙ append-nil before)
          ∙ in_itself before

  pub record Came : Type 0 where
    pub test : Resource → Bool
    pub names : entry_names after.queue ≡ before ++ keep test (names_of asked)
    pub rest : every (λ (n : Resource). test n || is_in n before) (names_of asked) ≡ true

  pub more_came : length before < length after.queue → Came
  more_came z = one after_names
    where
      one : NamesAfter before (names_of asked) (entry_names after.queue) → Came
      one (fewer a b) = absurd (omega (arith, length-map after.queue (λ (x : Entry). x.name)))
      one (more p e k) = record { test = p; names = e; rest = k }

  -- WHAT A BODY MADE OF IT, with pointers for names
  module _ (k : Outcome AllTables) (written : List ℕ)
      (e : record { outcome = k; codes = written }
      ≡ served_in (service_of (all.step_of t.all) r (re_names pointing-to asked) es lent)) where
    so : record { outcome = k; codes = written } ≡ served_in (re_served pointing-to
        (service_of (step_of t) r asked es lent))
    so = e ∙ ap served_in serves_pointed

    tables_are : k.tables ≡ all.tables_of (re_step pointing-to after)
    tables_are = ap (λ (o : Served AllTables). o.outcome.tables) so

    pub before_count : t.all.queue.count ≡ length before
    before_count =
        entries_count (entries_in t.all.queue) t.all.queue (sound_packed t h).queue.form
        ∙ sym (length-map (step_of t).queue (λ (x : Entry). x.name) ∙ length-map (entries_in t.all.queue) _)

    pub after_count : k.tables.queue.count ≡ length after.queue
    after_count =
        ap (λ (x : AllTables). x.queue.count) tables_are
        ∙ entries_count (map (re_named pointing-to) after.queue) _ refl
        ∙ length-map after.queue (re_named pointing-to)

    -- the answer with other tables
    abbrev with_these : Tables → Served Tables
    with_these u = record { outcome = record { number = k.number; besides = k.besides; tables = u }; codes = written }

    answers_so : (u : Tables) → u ≡ tables_of after → with_these u ≡ served_by (service_of (step_of t) r asked es lent)
    answers_so u v = λ i. record {
      outcome = record { number = (so i).outcome.number; besides = (so i).outcome.besides; tables = v i };
      codes = (so i).codes;
    }

    module _ (few : every (λ (n : Resource). is_in n before) (entry_names after.queue) ≡ true) where
      pub left_so : Left t.all.queue k.tables.queue t.names
      left_so = record {
        held = sound_holds t h;
        few = (sound_packed t h).queue.room;
        packed = stored_packed (map (re_named pointing-to) after.queue) k.tables.queue
            (ap (λ (x : AllTables). x.queue) tables_are)
            (omega (arith, length-map after.queue (re_named pointing-to), (sound_bounded after after_sound).queue));
        there = ap (λ (x : AllTables). every (λ (o : ℕ). some (eqb o) (offsets_in t.all.queue))
            (offsets_in x.queue))
            tables_are ∙ left_there few;
      }

      pub left_answers : (u : Tables) → u ≡ repacked k.tables t.names
          → with_these u ≡ served_by (service_of (step_of t) r asked es lent)
      left_answers u v =
          answers_so u (v ∙ ap (λ (x : AllTables). repacked x t.names) tables_are ∙ left_kept few)

    module _ (l : NameList) (is : asked ≡ names_in l) (good : names_good asked ≡ true) (c : Came) where
      pub joined_answers : (u : Tables) → u ≡ joined_by k.tables t.names l (points_to before l)
          → with_these u ≡ served_by (service_of (step_of t) r asked es lent)
      joined_answers u v =
          answers_so u (v ∙ ap (λ (x : AllTables). joined_by x t.names l (points_to before l)) tables_are
          ∙ joined_kept l is good c.test c.names c.rest)

-- A REQUEST WITHOUT NAMES

abbrev pub no_ask : Names
no_ask = record { count = 0; asks = [] }

pub unasked_tested : (r : Request) (ns : Names) → asks_names r ≡ false → NamesTested r ns
unasked_tested (Attach c lpmod dpmod ecb) ns h = tt
unasked_tested (Detach c task) ns h = tt
unasked_tested (End c code) ns h = tt
unasked_tested (Abend c code step) ns h = tt
unasked_tested (Enq c ret) ns h = absurd (false≢true (sym h))
unasked_tested (Deq c ret) ns h = absurd (false≢true (sym h))
unasked_tested (Wait c n) ns h = tt
unasked_tested (Post c e code) ns h = tt
unasked_tested (Clear c e) ns h = tt
unasked_tested (Getmain c bytes subpool conditional) ns h = tt
unasked_tested (Freemain c address bytes subpool) ns h = tt
unasked_tested Dispatch ns h = tt

-- looks at none
pub unasked_same : (s : Step) (r : Request) (ns ms : Names) (es : Ecbs) (lent : List ℕ) → asks_names r ≡ false
    → service_of s r ns es lent ≡ service_of s r ms es lent
unfolding service_of
unasked_same s (Attach c lpmod dpmod ecb) ns ms es lent h = refl
unasked_same s (Detach c task) ns ms es lent h = refl
unasked_same s (End c code) ns ms es lent h = refl
unasked_same s (Abend c code step) ns ms es lent h = refl
unasked_same s (Enq c ret) ns ms es lent h = absurd (false≢true (sym h))
unasked_same s (Deq c ret) ns ms es lent h = absurd (false≢true (sym h))
unasked_same s (Wait c n) ns ms es lent h = refl
unasked_same s (Post c e code) ns ms es lent h = refl
unasked_same s (Clear c e) ns ms es lent h = refl
unasked_same s (Getmain c bytes subpool conditional) ns ms es lent h = refl
unasked_same s (Freemain c address bytes subpool) ns ms es lent h = refl
unasked_same s Dispatch ns ms es lent h = refl

-- and so brings none
pub unasked_few : (t : Tables) (h : soundb t ≡ true) (r : Request) (es : Ecbs) (lent : List ℕ) (u : NamesTested r no_ask)
    → every (λ (n : Resource). is_in n (names_of_step t h)) (entry_names (after t h r no_ask es lent u).queue) ≡ true
unasked_few t h r es lent u = one (names_after (step_of t) r no_ask es lent)
  where
    one : NamesAfter (names_of_step t h) [] (entry_names (after t h r no_ask es lent u).queue)
        → every (λ (n : Resource). is_in n (names_of_step t h)) (entry_names (after t h r no_ask es lent u).queue) ≡ true
    one (fewer a b) = a
    one (more p e k) =
        ap (every (λ (n : Resource). is_in n (names_of_step t h))) (e ∙ append-nil (names_of_step t h))
        ∙ in_itself (names_of_step t h)
