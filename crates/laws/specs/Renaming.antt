-- NAMES FOR NAMES: where different names stay different, nothing that the rules say of a queue changes when its names
-- are replaced.
use Rattle.std.specs.Prelude.{◌≡◌, Bool, cond, ◌&&◌, ◌||◌, ℕ, ◌+◌}
use Rattle.std.proofs.Math.Path.{refl, sym, ap, ap₂}
use Rattle.std.proofs.Common.{◌∙◌}
use Rattle.std.proofs.Math.Bool.{true, false, not}
use mathlib.Core.List.{List, [], ◌∷◌, ◌++◌, map, map-append, map-map}
use Rattle.std.proofs.Math.Dec.{ltb}
use Rattle.std.proofs.Math.ListN.{length}
use Rattle.std.proofs.lemmas.List.{length-map}
use Rattle.lists.specs.Lists.{keep, every, some, none, distinct}
use Rattle.lists.specs.Bools.{both, join}
use Rattle.lists.specs.Every.{every_append, every_of}
use Rattle.lists.specs.Keeping.{keep_map, keep_among}
use Rattle.lists.specs.Numbered.{map_at_same}
use Rattle.lists.specs.Pick.{pick}
use Rattle.kinds.specs.Limits.{most_entries}
use Rattle.kinds.specs.Tasks.{with_condition}
use Rattle.kinds.specs.declared.requests.Ret.{Ret}
use Rattle.kinds.specs.declared.requests.Ret.TheVariants.{None, Test, Use, Have, Chng}
use Rattle.kinds.specs.declared.requests.DeqRet.{DeqRet}
use Rattle.kinds.specs.declared.requests.DeqRet.TheVariants.{None as DeqNone, Have as DeqHave}
use Rattle.kinds.specs.declared.tasks.Task.{Task}
use Rattle.rules.specs.Names.{Resource, Ask, Names, name_of, names_of, same_name}
use Rattle.rules.specs.Control.{Entry, of_task, is_for, is_for_one, has_entry, queue_of, available, control, holding, owners}
use Rattle.rules.specs.Control.{sole_owner, lacks_from, lacks}
use Rattle.rules.specs.Rings.{bars}
use Rattle.rules.specs.ResourceWaits.{held_up, let_go, wait_at, waits_by}
use Rattle.rules.specs.Codes.{all_zero}
use Rattle.rules.specs.Enq.{enq_code, enq_codes, fresh, to_queue, duplicated, too_few_free, entry_for, with_tail}
use Rattle.rules.specs.Enq.{made_exclusive}
use Rattle.rules.specs.Deq.{deq_code, deq_codes, unentered, released}
use Rattle.laws.specs.Control.{free, control_each}
use Rattle.laws.specs.ToQueue.{to_queue_every}

-- two functions that are alike on all that is there, one of them behind a change
module _ {A B : Type 0} (g : A → B) (p : A → Bool) where
  map_alike : {C : Type 0} (h : B → C) (k : A → C) → ((x : A) → p x ≡ true → h (g x) ≡ k x) → (l : List A)
      → every p l ≡ true → map h (map g l) ≡ map k l
  map_alike h k e [] u = refl
  map_alike {C} h k e (x ∷ l) u =
      let b = both (p x) (every p l) u in ap₂ (λ (y : C) (r : List C). y ∷ r) (e x b.0) (map_alike h k e l b.1)

  some_alike : (h : B → Bool) (k : A → Bool) → ((x : A) → p x ≡ true → h (g x) ≡ k x) → (l : List A)
      → every p l ≡ true → some h (map g l) ≡ some k l
  some_alike h k e [] u = refl
  some_alike h k e (x ∷ l) u =
      let b = both (p x) (every p l) u in ap₂ ◌||◌ (e x b.0) (some_alike h k e l b.1)

  every_alike : (h : B → Bool) (k : A → Bool) → ((x : A) → p x ≡ true → h (g x) ≡ k x) → (l : List A)
      → every p l ≡ true → every h (map g l) ≡ every k l
  every_alike h k e [] u = refl
  every_alike h k e (x ∷ l) u =
      let b = both (p x) (every p l) u in ap₂ ◌&&◌ (e x b.0) (every_alike h k e l b.1)

  keep_alike : (h : B → Bool) (k : A → Bool) → ((x : A) → p x ≡ true → h (g x) ≡ k x) → (l : List A)
      → every p l ≡ true → keep h (map g l) ≡ map g (keep k l)
  keep_alike h k e l u = keep_map g h l ∙ ap (map g) (keep_among p (λ (x : A). h (g x)) k e l u)

-- another name in an entry, and in a request
abbrev pub re_named : (Resource → Resource) → Entry → Entry
re_named f e = record { task = e.task; exclusive = e.exclusive; name = f e.name }

abbrev pub re_asked : (Resource → Resource) → Ask → Ask
re_asked f a = record { exclusive = a.exclusive; name = f a.name }

-- and in the names beside a request
abbrev pub re_names : (Resource → Resource) → Names → Names
re_names f l = record { count = l.count; asks = map (re_asked f) l.asks }

-- the names that are spoken of, and that the change keeps them apart
pub record Apart (f : Resource → Resource) (known : Resource → Bool) : Type 0 where
  pub same : (a b : Resource) → known a ≡ true → known b ≡ true → same_name (f a) (f b) ≡ same_name a b

abbrev pub all_known : (Resource → Bool) → List Entry → Bool
all_known known q = every (λ (e : Entry). known e.name) q

module _ (f : Resource → Resource) (known : Resource → Bool) (r : Apart f known) where
  abbrev R : Entry → Entry
  R = re_named f

  -- CONTROL

  -- one entry bars another exactly where it did
  pub bars_same : (x e : Entry) → known x.name ≡ true → known e.name ≡ true → bars (R x) (R e) ≡ bars x e
  unfolding bars
  bars_same x e h k = ap (λ (b : Bool). b && (x.exclusive || e.exclusive)) (r.same x.name e.name h k)

  -- an entry is free of all exactly where it was
  free_all : (p : List Entry) (e : Entry) → all_known known p ≡ true → known e.name ≡ true
      → every (free (R e)) (map R p) ≡ every (free e) p
  unfolding free
  free_all p e h k =
      every_alike R (λ (x : Entry). known x.name) (free (R e)) (free e) (λ x u. ap not (bars_same x e u k)) p h

  -- an entry has control exactly where it had
  pub control_same : (p : List Entry) (e : Entry) → all_known known p ≡ true → known e.name ≡ true
      → control (map R p) (R e) ≡ control p e
  control_same p e h k = control_each (map R p) (R e) ∙ free_all p e h k ∙ sym (control_each p e)

  -- entries that are known, and one more
  known_last : (p : List Entry) (e : Entry) → all_known known p ≡ true → known e.name ≡ true
      → all_known known (p ++ (e ∷ [])) ≡ true
  known_last p e h k =
      every_append (λ (x : Entry). known x.name) p (e ∷ [])
      ∙ join (all_known known p) _ h (join (known e.name) true k refl)

  -- a task lacks control exactly where it did
  lacks_from_lem : (t : ℕ) (before l : List Entry) → all_known known before ≡ true → all_known known l ≡ true
      → lacks_from t (map R before) (map R l) ≡ lacks_from t before l
  lacks_from_lem t before [] h k = refl
  lacks_from_lem t before (e ∷ l) h k =
      let b = both (known e.name) (all_known known l) k in
      ap₂ (λ (u v : Bool). (of_task t e && not u) || v) (control_same before e h b.0)
      (ap (λ (p : List Entry). lacks_from t p (map R l)) (sym (map-append R before (e ∷ [])))
      ∙ lacks_from_lem t (before ++ (e ∷ [])) l (known_last before e h b.0) b.1)

  pub lacks_same : (t : ℕ) (q : List Entry) → all_known known q ≡ true → lacks t (map R q) ≡ lacks t q
  lacks_same t q h = lacks_from_lem t [] q refl h

  -- so each resource wait is the same
  pub waits_same : (q : List Entry) (ts : List Task) → all_known known q ≡ true → waits_by (map R q) ts ≡ waits_by q ts
  unfolding wait_at
  waits_same q ts h =
      map_at_same (wait_at (map R q)) (wait_at q) 1 ts
      (λ n x a b. ap (λ (w : Bool). pick w (with_condition x (held_up x.condition))
      (with_condition x (let_go x.condition))) (lacks_same n q h))

  -- a task has an entry exactly where it had one
  pub entry_same : (q : List Entry) (t : ℕ) (n : Resource) → all_known known q ≡ true → known n ≡ true
      → has_entry (map R q) t (f n) ≡ has_entry q t n
  entry_same q t n h k =
      some_alike R (λ (e : Entry). known e.name) (is_for t (f n)) (is_for t n)
      (λ e u. ap (λ (b : Bool). of_task t e && b) (r.same e.name n u k)) q h

  -- a name is available exactly where it was
  pub available_same : (q : List Entry) (a : Ask) → all_known known q ≡ true → known a.name ≡ true
      → available (map R q) (re_asked f a) ≡ available q a
  unfolding available control
  available_same q a h k = control_same q (record { task = 0; exclusive = a.exclusive; name = a.name }) h k

  -- a name's queue, those that hold, and the owners
  pub queue_same : (n : Resource) (q : List Entry) → all_known known q ≡ true → known n ≡ true
      → queue_of (f n) (map R q) ≡ map R (queue_of n q)
  queue_same n q h k =
      keep_alike R (λ (e : Entry). known e.name) (λ (e : Entry). same_name e.name (f n))
      (λ (e : Entry). same_name e.name n) (λ e u. r.same e.name n u k) q h

  holding_same : (before l : List Entry) → all_known known before ≡ true → all_known known l ≡ true
      → holding (map R before) (map R l) ≡ map R (holding before l)
  holding_same before [] h k = refl
  holding_same before (e ∷ l) h k =
      let b = both (known e.name) (all_known known l) k in
      let ih = ap (λ (p : List Entry). holding p (map R l)) (sym (map-append R before (e ∷ [])))
      ∙ holding_same (before ++ (e ∷ [])) l (known_last before e h b.0) b.1 in
      ap₂ (λ (u : Bool) (v : List Entry). cond u (R e ∷ v) v) (control_same before e h b.0) ih
      ∙ one (control before e) (holding (before ++ (e ∷ [])) l)
    where
      one : (u : Bool) (v : List Entry) → cond u (R e ∷ map R v) (map R v) ≡ map R (cond u (e ∷ v) v)
      one true v = refl
      one false v = refl

  -- those that hold are known
  known_holding : (before l : List Entry) → all_known known l ≡ true → all_known known (holding before l) ≡ true
  known_holding before [] k = refl
  known_holding before (e ∷ l) k =
      let b = both (known e.name) (all_known known l) k in
      one (control before e) b.0 (known_holding (before ++ (e ∷ [])) l b.1)
    where
      one : (u : Bool) → known e.name ≡ true → all_known known (holding (before ++ (e ∷ [])) l) ≡ true
          → all_known known (cond u (e ∷ holding (before ++ (e ∷ [])) l) (holding (before ++ (e ∷ [])) l)) ≡ true
      one true v w = join (known e.name) (all_known known (holding (before ++ (e ∷ [])) l)) v w
      one false v w = w

  pub owners_same : (n : Resource) (q : List Entry) → all_known known q ≡ true → known n ≡ true
      → owners (f n) (map R q) ≡ map R (owners n q)
  owners_same n q h k =
      ap (queue_of (f n)) (holding_same [] q refl h) ∙ queue_same n (holding [] q) (known_holding [] q h) k

  -- "caller is sole owner"
  pub sole_same : (q : List Entry) (t : ℕ) (n : Resource) → all_known known q ≡ true → known n ≡ true
      → sole_owner (map R q) t (f n) ≡ sole_owner q t n
  sole_same q t n h k = ap (every (of_task t)) (owners_same n q h k) ∙ every_of R (of_task t) (owners n q)

  -- LISTS OF NAMES

  -- a name stands among others exactly where it stood
  among_same : (n : Resource) (ns : List Resource) → known n ≡ true → every known ns ≡ true
      → some (same_name (f n)) (map f ns) ≡ some (same_name n) ns
  among_same n ns h k = some_alike f known (same_name (f n)) (same_name n) (λ m u. r.same n m h u) ns k

  -- no two were the same exactly where no two are
  pub distinct_same : (ns : List Resource) → every known ns ≡ true → distinct same_name (map f ns) ≡ distinct same_name ns
  distinct_same [] h = refl
  distinct_same (n ∷ ns) h =
      let b = both (known n) (every known ns) h in
      ap₂ (λ (u v : Bool). not u && v) (among_same n ns b.0 b.1) (distinct_same ns b.1)

  -- an entry is the task's for one of the names exactly where it was
  for_one_same : (t : ℕ) (ns : List Resource) (e : Entry) → every known ns ≡ true → known e.name ≡ true
      → is_for_one t (map f ns) (R e) ≡ is_for_one t ns e
  for_one_same t ns e h k = ap (λ (b : Bool). of_task t e && b) (among_same e.name ns k h)

  -- DEQ takes the same entries out
  pub released_same : (t : ℕ) (ns : List Resource) (q : List Entry) → all_known known q ≡ true → every known ns ≡ true
      → released t (map f ns) (map R q) ≡ map R (released t ns q)
  released_same t ns q h k =
      keep_alike R (λ (e : Entry). known e.name) (λ (e : Entry). not (is_for_one t (map f ns) e))
      (λ (e : Entry). not (is_for_one t ns e)) (λ e u. ap not (for_one_same t ns e k u)) q h

  -- CHNG makes the same entries exclusive
  pub exclusive_same : (t : ℕ) (ns : List Resource) (q : List Entry) → all_known known q ≡ true → every known ns ≡ true
      → map (made_exclusive t (map f ns)) (map R q) ≡ map R (map (made_exclusive t ns) q)
  unfolding made_exclusive
  exclusive_same t ns q h k =
      map_alike R (λ (e : Entry). known e.name) (made_exclusive t (map f ns))
      (λ (e : Entry). R (made_exclusive t ns e))
      (λ e u. ap (λ (b : Bool). record { task = e.task; exclusive = b || e.exclusive; name = f e.name })
      (for_one_same t ns e k u)) q h
      ∙ sym (map-map R (made_exclusive t ns) q)

  -- and no name comes in
  pub exclusive_known : (t : ℕ) (ns : List Resource) (q : List Entry) → all_known known q ≡ true
      → all_known known (map (made_exclusive t ns) q) ≡ true
  unfolding made_exclusive
  exclusive_known t ns q h = every_of (made_exclusive t ns) (λ (e : Entry). known e.name) q ∙ h

  -- THE NAMES BESIDE A REQUEST

  -- they are the old ones, changed
  pub names_of_lem : (l : Names) → names_of (re_names f l) ≡ map f (names_of l)
  names_of_lem l = map-map name_of (re_asked f) l.asks ∙ sym (map-map f name_of l.asks)

  -- an ask for a known name
  abbrev known_ask : Ask → Bool
  known_ask a = known a.name

  -- where the names are known the asks are
  asks_known : (l : Names) → every known (names_of l) ≡ true → every known_ask l.asks ≡ true
  asks_known l k = sym (every_of name_of known l.asks) ∙ k

  -- each code is the same, under ENQ
  pub enq_code_same : (ret : Ret) (q : List Entry) (c : ℕ) (a : Ask) → all_known known q ≡ true → known a.name ≡ true
      → enq_code ret (map R q) c (re_asked f a) ≡ enq_code ret q c a
  unfolding enq_code
  enq_code_same None q c a h k = refl
  enq_code_same Test q c a h k =
      ap₂ (λ (u v : Bool). pick u 8 (pick v 0 4)) (entry_same q c a.name h k) (available_same q a h k)
  enq_code_same Use q c a h k =
      ap₂ (λ (u v : Bool). pick u 8 (pick v 0 4)) (entry_same q c a.name h k) (available_same q a h k)
  enq_code_same Have q c a h k = ap (λ (u : Bool). pick u 8 0) (entry_same q c a.name h k)
  enq_code_same Chng q c a h k =
      ap₂ (λ (u v : Bool). pick u (pick v 0 4) 8) (entry_same q c a.name h k) (sole_same q c a.name h k)

  pub enq_codes_same : (ret : Ret) (q : List Entry) (c : ℕ) (l : Names) → all_known known q ≡ true
      → every known (names_of l) ≡ true → enq_codes ret (map R q) c (re_names f l) ≡ enq_codes ret q c l
  enq_codes_same ret q c l h k =
      map_alike (re_asked f) known_ask (enq_code ret (map R q) c) (enq_code ret q c)
      (λ a u. enq_code_same ret q c a h u) l.asks (asks_known l k)

  -- and under DEQ
  pub deq_code_same : (ret : DeqRet) (q : List Entry) (c : ℕ) (n : Resource) → all_known known q ≡ true → known n ≡ true
      → deq_code ret (map R q) c (f n) ≡ deq_code ret q c n
  unfolding deq_code
  deq_code_same DeqNone q c n h k = refl
  deq_code_same DeqHave q c n h k = ap (λ (u : Bool). pick u 0 8) (entry_same q c n h k)

  pub deq_codes_same : (ret : DeqRet) (q : List Entry) (c : ℕ) (l : Names) → all_known known q ≡ true
      → every known (names_of l) ≡ true → deq_codes ret (map R q) c (re_names f l) ≡ deq_codes ret q c l
  deq_codes_same ret q c l h k =
      ap (map (deq_code ret (map R q) c)) (names_of_lem l)
      ∙ map_alike f known (deq_code ret (map R q) c) (deq_code ret q c) (λ n u. deq_code_same ret q c n h u) (names_of l) k

  -- the same asks are queued
  pub to_queue_same : (ret : Ret) (q : List Entry) (c : ℕ) (l : Names) → all_known known q ≡ true
      → every known (names_of l) ≡ true → to_queue ret (map R q) c (re_names f l) ≡ map (re_asked f) (to_queue ret q c l)
  unfolding to_queue pick
  to_queue_same None q c l h k = refl
  to_queue_same Test q c l h k = refl
  to_queue_same Use q c l h k =
      ap (λ (m : List ℕ). pick (all_zero m) (map (re_asked f) l.asks) []) (enq_codes_same Use q c l h k)
      ∙ one (all_zero (enq_codes Use q c l))
    where
      one : (b : Bool) → pick b (map (re_asked f) l.asks) [] ≡ map (re_asked f) (pick b l.asks [])
      one true = refl
      one false = refl
  to_queue_same Have q c l h k =
      keep_alike (re_asked f) known_ask (fresh (map R q) c) (fresh q c) (λ a u. ap not (entry_same q c a.name h u))
      l.asks (asks_known l k)
  to_queue_same Chng q c l h k = refl

  -- 201, 105 and 202 hold of the same names
  pub duplicated_same : (ret : Ret) (q : List Entry) (c : ℕ) (l : Names) → all_known known q ≡ true
      → every known (names_of l) ≡ true → duplicated ret (map R q) c (re_names f l) ≡ duplicated ret q c l
  duplicated_same None q c l h k =
      some_alike (re_asked f) known_ask (λ (a : Ask). has_entry (map R q) c a.name)
      (λ (a : Ask). has_entry q c a.name) (λ a u. entry_same q c a.name h u) l.asks (asks_known l k)
  duplicated_same Test q c l h k = refl
  duplicated_same Use q c l h k = refl
  duplicated_same Have q c l h k = refl
  duplicated_same Chng q c l h k = refl

  pub too_few_same : (ret : Ret) (q : List Entry) (c : ℕ) (l : Names) → all_known known q ≡ true
      → every known (names_of l) ≡ true → too_few_free ret (map R q) c (re_names f l) ≡ too_few_free ret q c l
  unfolding too_few_free
  too_few_same ret q c l h k =
      ap (λ (m : List Ask). not (none m) && ltb most_entries (length (map R q) + length m)) (to_queue_same ret q c l h k)
      ∙ one (to_queue ret q c l)
    where
      one : (m : List Ask)
          → (not (none (map (re_asked f) m)) && ltb most_entries (length (map R q) + length (map (re_asked f) m)))
          ≡ (not (none m) && ltb most_entries (length q + length m))
      one [] = refl
      one (a ∷ m) =
          ap₂ (λ (i j : ℕ). ltb most_entries (i + j)) (length-map q R) (length-map (a ∷ m) (re_asked f))

  pub unentered_same : (ret : DeqRet) (q : List Entry) (c : ℕ) (l : Names) → all_known known q ≡ true
      → every known (names_of l) ≡ true → unentered ret (map R q) c (re_names f l) ≡ unentered ret q c l
  unentered_same DeqNone q c l h k =
      ap not (ap (every (has_entry (map R q) c)) (names_of_lem l)
      ∙ every_alike f known (has_entry (map R q) c) (has_entry q c) (λ n u. entry_same q c n h u) (names_of l) k)
  unentered_same DeqHave q c l h k = refl

  -- new entries at the tail
  pub tail_same : (q : List Entry) (t : ℕ) (l : List Ask)
      → map R (q ++ map (entry_for t) l) ≡ map R q ++ map (entry_for t) (map (re_asked f) l)
  tail_same q t l =
      map-append R q (map (entry_for t) l)
      ∙ ap (λ (x : List Entry). map R q ++ x)
      (map-map R (entry_for t) l ∙ sym (map-map (entry_for t) (re_asked f) l))

  -- which are known if the asks are
  pub tail_known : (ret : Ret) (q : List Entry) (t : ℕ) (l : Names) → all_known known q ≡ true
      → every known (names_of l) ≡ true → all_known known (with_tail q t (to_queue ret q t l)) ≡ true
  tail_known ret q t l h k =
      every_append (λ (e : Entry). known e.name) q (map (entry_for t) (to_queue ret q t l))
      ∙ join (all_known known q) _ h (every_of (entry_for t) (λ (e : Entry). known e.name) (to_queue ret q t l)
      ∙ to_queue_every ret q t l known_ask (asks_known l k))
