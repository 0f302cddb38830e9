-- THE REPORTS UNDER OTHER NAMES: an item of either report has places and tasks and no name, so where the different
-- names of a queue stay different, both reports say the same.
use Rattle.std.specs.Prelude.{◌≡◌, Bool, true, ◌&&◌, ◌||◌, eqb, length, take}
use Rattle.std.proofs.Math.Path.{refl, sym, ap, ap₂}
use Rattle.std.proofs.Common.{◌∙◌}
use Rattle.std.proofs.Math.Bool.{not}
use mathlib.Core.List.{List, [], ◌∷◌, ◌++◌, map, map-append, map-map}
use Prim.Native.Nat.{ℕ}
use Rattle.std.proofs.lemmas.List.{length-map}
use Rattle.lists.specs.Lists.{keep, every, some, gathered, numbers, firsts_by}
use Rattle.lists.specs.Bools.{both, join}
use Rattle.lists.specs.Every.{every_append, every_of}
use Rattle.lists.specs.Keeping.{keep_map, keep_among, take_map, every_keep}
use Rattle.kinds.specs.Limits.{highest_task}
use Rattle.rules.specs.Names.{Resource, same_name, firsts}
use Rattle.rules.specs.Control.{Entry, of_task}
use Rattle.rules.specs.Rings.{bars, waits_from, waits_for, leads_by, tasks_of, stuck}
use Rattle.rules.specs.Reports.{StuckTask, stuck_at, holds_up, stuck_at_from, first_stuck_at, stuck_tasks}
use Rattle.rules.specs.Reports.{Standing, standing_from, standing, standing_for, queues_of}
use Rattle.rules.specs.Reports.{stuck_item, queue_item, itemised, stuck_list, queues_list}
use Rattle.laws.specs.Grouping.{gathered_among}
use Rattle.laws.specs.Standings.{name_in, standing_names}
use Rattle.laws.specs.Renaming.{re_named, Apart, all_known, bars_same, control_same}

-- LISTS

module _ {A B : Type 0} where
  -- what comes of each is changed, or what comes of each that is changed
  map_gathered : {C : Type 0} (g : B → C) (f : A → List B) (l : List A)
      → map g (gathered f l) ≡ gathered (λ (x : A). map g (f x)) l
  map_gathered {C} g f [] = refl
  map_gathered {C} g f (x ∷ l) =
      map-append g (f x) (gathered f l) ∙ ap (λ (r : List C). map g (f x) ++ r) (map_gathered g f l)

  gathered_map : {C : Type 0} (g : A → B) (f : B → List C) (l : List A)
      → gathered f (map g l) ≡ gathered (λ (x : A). f (g x)) l
  gathered_map {C} g f [] = refl
  gathered_map {C} g f (x ∷ l) = ap (λ (r : List C). f (g x) ++ r) (gathered_map g f l)

  -- tests that come out alike before and after a change keep the same
  keep_changed : (g : A → B) (p : A → Bool) (t : B → Bool) (s : A → Bool)
      → ((x : A) → p x ≡ true → t (g x) ≡ s x) → (l : List A) → every p l ≡ true
      → keep t (map g l) ≡ map g (keep s l)
  keep_changed g p t s h l e =
      keep_map g t l ∙ ap (map g) (keep_among p (λ (x : A). t (g x)) s h l e)

-- a change that the items do not show
itemised_same : {A : Type 0} (item : A → List ℕ) (g : A → A) (l : List A) → ((x : A) → item (g x) ≡ item x)
    → itemised item (map g l) ≡ itemised item l
itemised_same {A} item g l h =
    let n = length-map l g in
    let e : (λ (x : A). item (g x)) ≡ item = λ i. λ x. h x i in
    let b = gathered_map g item l ∙ ap (λ (shown : A → List ℕ). gathered shown l) e in
    λ i. record { items = n i; bytes = b i }

-- another name in a line of either list
abbrev pub re_stuck : (Resource → Resource) → StuckTask → StuckTask
re_stuck f x = record { task = x.task; place = x.place; name = f x.name; partner = x.partner }

abbrev pub re_standing : (Resource → Resource) → Standing → Standing
re_standing f x = record { place = x.place; entry = re_named f x.entry; owner = x.owner }

module _ (f : Resource → Resource) (known : Resource → Bool) (r : Apart f known) where
  abbrev R : Entry → Entry
  R = re_named f

  abbrev of_known : Entry → Bool
  of_known e = known e.name

  -- where the names before an entry are known, and its own
  one_more : (before : List Entry) (e : Entry) → all_known known before ≡ true → known e.name ≡ true
      → all_known known (before ++ (e ∷ [])) ≡ true
  one_more before e h k =
      every_append of_known before (e ∷ [])
      ∙ join (all_known known before) (all_known known (e ∷ [])) h (join (known e.name) true k refl)

  -- WHO IS STUCK

  -- some entry of task b bars the entry
  barred_same : (b : ℕ) (e : Entry) → known e.name ≡ true → (before : List Entry) → all_known known before ≡ true
      → some (λ (x : Entry). of_task b x && bars x (R e)) (map R before)
      ≡ some (λ (x : Entry). of_task b x && bars x e) before
  barred_same b e k [] h = refl
  barred_same b e k (x ∷ before) h =
      let d = both (known x.name) (all_known known before) h in
      ap₂ (λ (u v : Bool). (of_task b x && u) || v) (bars_same f known r x e d.0 k) (barred_same b e k before d.1)

  -- the same tasks wait for the same
  waits_from_lem : (a b : ℕ) (before l : List Entry) → all_known known before ≡ true → all_known known l ≡ true
      → waits_from (map R before) a b (map R l) ≡ waits_from before a b l
  waits_from_lem a b before [] h k = refl
  waits_from_lem a b before (e ∷ l) h k =
      let d = both (known e.name) (all_known known l) k in
      let c = control_same f known r before e h d.0 in
      let s = barred_same b e d.0 before h in
      let rest =
      ap (λ (p : List Entry). waits_from p a b (map R l)) (sym (map-append R before (e ∷ [])))
      ∙ waits_from_lem a b (before ++ (e ∷ [])) l (one_more before e h d.0) d.1 in
      λ i. (of_task a e && (not (c i) && s i)) || rest i

  pub waits_for_same : (q : List Entry) → all_known known q ≡ true → waits_for (map R q) ≡ waits_for q
  unfolding waits_for
  waits_for_same q h = λ i. λ a b. not (eqb a b) && waits_from_lem a b [] q refl h i

  tasks_same : (q : List Entry) → tasks_of (map R q) ≡ tasks_of q
  tasks_same q = map-map (λ (e : Entry). e.task) R q

  -- the same tasks are on rings
  pub stuck_same : (q : List Entry) → all_known known q ≡ true → stuck (map R q) ≡ stuck q
  unfolding stuck
  stuck_same q h =
      let w = waits_for_same q h in
      let k = ap (firsts_by eqb) (tasks_same q) in
      λ i. λ t. leads_by (w i) (k i) t t

  module _ (these : ℕ → Bool) (t : ℕ) where
    -- the lines of one entry, ..
    lines_at : (n : ℕ) (e : Entry) → known e.name ≡ true → (before : List Entry) → all_known known before ≡ true
        → map (stuck_at n (R e)) (keep (λ (x : Entry). of_task t e && holds_up these (R e) x) (map R before))
        ≡ map (re_stuck f) (map (stuck_at n e) (keep (λ (x : Entry). of_task t e && holds_up these e x) before))
    lines_at n e k before h =
        ap (map (stuck_at n (R e)))
        (keep_changed R of_known (λ (x : Entry). of_task t e && holds_up these (R e) x)
        (λ (x : Entry). of_task t e && holds_up these e x)
        (λ x d. ap (λ (b : Bool). of_task t e && ((not (eqb x.task e.task) && these x.task) && b))
        (bars_same f known r x e d k)) before h)
        ∙ map-map (stuck_at n (R e)) R (keep (λ (x : Entry). of_task t e && holds_up these e x) before)
        ∙ sym (map-map (re_stuck f) (stuck_at n e) (keep (λ (x : Entry). of_task t e && holds_up these e x) before))

    -- .. of each, ..
    lines_from : (before l : List Entry) → all_known known before ≡ true → all_known known l ≡ true
        → stuck_at_from these t (map R before) (map R l) ≡ map (re_stuck f) (stuck_at_from these t before l)
    lines_from before [] h k = refl
    lines_from before (e ∷ l) h k =
        let d = both (known e.name) (all_known known l) k in
        let here =
        ap (λ (n : ℕ). map (stuck_at n (R e)) (keep (λ (x : Entry). of_task t e && holds_up these (R e) x) (map R before)))
        (length-map before R) ∙ lines_at (length before) e d.0 before h in
        let rest =
        ap (λ (p : List Entry). stuck_at_from these t p (map R l)) (sym (map-append R before (e ∷ [])))
        ∙ lines_from (before ++ (e ∷ [])) l (one_more before e h d.0) d.1 in
        ap₂ (λ (a b : List StuckTask). a ++ b) here rest
        ∙ sym (map-append (re_stuck f)
        (map (stuck_at (length before) e) (keep (λ (x : Entry). of_task t e && holds_up these e x) before))
        (stuck_at_from these t (before ++ (e ∷ [])) l))

    -- .. and the first of them
    first_line : (q : List Entry) → all_known known q ≡ true
        → first_stuck_at these (map R q) t ≡ map (re_stuck f) (first_stuck_at these q t)
    first_line q h = ap (take 1) (lines_from [] q refl h) ∙ take_map (re_stuck f) 1 (stuck_at_from these t [] q)

  -- one after the other
  lines_of : (these : ℕ → Bool) (q : List Entry) → all_known known q ≡ true → (ts : List ℕ)
      → gathered (first_stuck_at these (map R q)) ts ≡ map (re_stuck f) (gathered (first_stuck_at these q) ts)
  lines_of these q h ts =
      let e : first_stuck_at these (map R q) ≡ (λ (t : ℕ). map (re_stuck f) (first_stuck_at these q t)) =
      λ i. λ t. first_line these t q h i in
      ap (λ (g : ℕ → List StuckTask). gathered g ts) e ∙ sym (map_gathered (re_stuck f) (first_stuck_at these q) ts)

  -- the first list has the same lines, under the other names
  pub stuck_tasks_same : (q : List Entry) → all_known known q ≡ true
      → stuck_tasks (map R q) ≡ map (re_stuck f) (stuck_tasks q)
  unfolding stuck_tasks
  stuck_tasks_same q h =
      ap (λ (these : ℕ → Bool). gathered (first_stuck_at these (map R q)) (keep these (numbers 1 highest_task)))
      (stuck_same q h)
      ∙ lines_of (stuck q) q h (keep (stuck q) (numbers 1 highest_task))

  -- and so the same items
  pub stuck_list_same : (q : List Entry) → all_known known q ≡ true → stuck_list (map R q) ≡ stuck_list q
  unfolding stuck_list
  stuck_list_same q h =
      ap (itemised stuck_item) (stuck_tasks_same q h) ∙ itemised_same stuck_item (re_stuck f) (stuck_tasks q) (λ x. refl)

  -- WHO STANDS IN WHICH QUEUE

  -- each entry at its place, an owner or not
  standing_same : (before l : List Entry) → all_known known before ≡ true → all_known known l ≡ true
      → standing_from (map R before) (map R l) ≡ map (re_standing f) (standing_from before l)
  standing_same before [] h k = refl
  standing_same before (e ∷ l) h k =
      let d = both (known e.name) (all_known known l) k in
      let n = length-map before R in
      let c = control_same f known r before e h d.0 in
      let rest =
      ap (λ (p : List Entry). standing_from p (map R l)) (sym (map-append R before (e ∷ [])))
      ∙ standing_same (before ++ (e ∷ [])) l (one_more before e h d.0) d.1 in
      λ i. record { place = n i; entry = R e; owner = c i } ∷ rest i

  -- those for a name
  for_same : (n : Resource) → known n ≡ true → (l : List Standing)
      → every (λ (x : Standing). known (name_in x)) l ≡ true
      → standing_for (f n) (map (re_standing f) l) ≡ map (re_standing f) (standing_for n l)
  for_same n k l h =
      keep_changed (re_standing f) (λ (x : Standing). known (name_in x)) (λ (x : Standing). same_name (name_in x) (f n))
      (λ (x : Standing). same_name (name_in x) n) (λ x d. r.same (name_in x) n d k) l h

  -- the different names, each where it stands first, ..
  firsts_known : (ns : List Resource) → every known ns ≡ true → every known (firsts ns) ≡ true
  firsts_known [] h = refl
  firsts_known (n ∷ ns) h =
      let d = both (known n) (every known ns) h in
      join (known n) (every known (keep (λ (m : Resource). not (same_name n m)) (firsts ns))) d.0
      (every_keep known (λ (m : Resource). not (same_name n m)) (firsts ns) (firsts_known ns d.1))

  -- .. are so under the other names
  pub firsts_same : (ns : List Resource) → every known ns ≡ true → firsts (map f ns) ≡ map f (firsts ns)
  firsts_same [] h = refl
  firsts_same (n ∷ ns) h =
      let d = both (known n) (every known ns) h in
      ap (λ (l : List Resource). f n ∷ l)
      (ap (keep (λ (m : Resource). not (same_name (f n) m))) (firsts_same ns d.1)
      ∙ keep_changed f known (λ (m : Resource). not (same_name (f n) m)) (λ (m : Resource). not (same_name n m))
      (λ m k. ap not (r.same n m d.0 k)) (firsts ns) (firsts_known ns d.1))

  -- so name by name
  queues_from : (l : List Standing) → every (λ (x : Standing). known (name_in x)) l ≡ true
      → (ns : List Resource) → every known ns ≡ true
      → gathered (λ (n : Resource). standing_for n (map (re_standing f) l)) (map f ns)
      ≡ map (re_standing f) (gathered (λ (n : Resource). standing_for n l) ns)
  queues_from l h ns k =
      gathered_map f (λ (n : Resource). standing_for n (map (re_standing f) l)) ns
      ∙ gathered_among known (λ (n : Resource). standing_for (f n) (map (re_standing f) l))
      (λ (n : Resource). map (re_standing f) (standing_for n l)) (λ n d. for_same n d l h) ns k
      ∙ sym (map_gathered (re_standing f) (λ (n : Resource). standing_for n l) ns)

  -- the second list has the same lines, under the other names
  pub queues_same : (q : List Entry) → all_known known q ≡ true → queues_of (map R q) ≡ map (re_standing f) (queues_of q)
  unfolding queues_of
  queues_same q h =
      ap₂ (λ (l : List Standing) (ns : List Resource). gathered (λ (n : Resource). standing_for n l) ns)
      (standing_same [] q refl h)
      (ap firsts (map-map name_of_entry R q ∙ sym (map-map f name_of_entry q)) ∙ firsts_same names all)
      ∙ queues_from (standing q) stand (firsts names) (firsts_known names all)
    where
      name_of_entry : Entry → Resource
      name_of_entry e = e.name

      names : List Resource
      names = map name_of_entry q

      all : every known names ≡ true
      all = every_of name_of_entry known q ∙ h

      stand : every (λ (x : Standing). known (name_in x)) (standing q) ≡ true
      stand = sym (every_of name_in known (standing q)) ∙ ap (every known) (standing_names [] q) ∙ all

  -- and so the same items
  pub queues_list_same : (q : List Entry) → all_known known q ≡ true → queues_list (map R q) ≡ queues_list q
  unfolding queues_list
  queues_list_same q h =
      ap (itemised queue_item) (queues_same q h) ∙ itemised_same queue_item (re_standing f) (queues_of q) (λ x. refl)
