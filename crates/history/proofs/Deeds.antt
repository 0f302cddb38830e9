-- What a turn says by its request and its reply is what its effect does: who is attached, queued, released and ended.
use Prim.Native.Nat.{ℕ, zero, suc}
use mathlib.Core.Path.{◌≡◌, refl, sym, ap, subst, ◌∙◌}
use mathlib.Core.Bool.{Bool, true, false, not, cond, ◌&&◌, ◌||◌, or-true, or-false, and-false, false≢true}
use mathlib.Core.List.{List, [], ◌∷◌, ◌++◌, map}
use mathlib.Core.Logic.{◌⊎◌, inl, inr}
use lib.Dec.{eqb}
use borrow.Author.Tests.{eqb-true, eq-eqb}
use Rattle.lists.specs.Lists.{keep, some}
use Rattle.lists.specs.Bools.{both, either}
use Rattle.lists.specs.Every.{some_of}
use Rattle.lists.specs.Keeping.{some_left}
use Rattle.kinds.specs.Limits.{job_step_task, highest_task}
use Rattle.kinds.specs.Replies.{faults, is_fault, fault_number}
use Rattle.kinds.specs.declared.requests.Request.{Request}
use Rattle.kinds.specs.declared.requests.Request.TheVariants.{Attach, Detach, End, Abend, Enq, Deq, Wait, Post, Clear}
use Rattle.kinds.specs.declared.requests.Request.TheVariants.{Getmain, Freemain, Dispatch}
use Rattle.kinds.specs.declared.requests.Ret.{Ret}
use Rattle.kinds.specs.declared.requests.Ret.TheVariants.{None, Test, Use, Have, Chng}
use Rattle.kinds.specs.declared.replies.Fault.{Fault}
use Rattle.rules.specs.Names.{Resource, Ask, name_of, names_of, same_name}
use Rattle.rules.specs.Control.{Entry, is_for, has_entry}
use Rattle.rules.specs.Enq.{fresh, to_queue, entry_for}
use Rattle.rules.specs.Form.{caller_of}
use Rattle.rules.specs.Reading.{Turn, Effect, NoEffect, Queues, Releases, Changes, Ends, Attaches, takes, brings, Link}
use Rattle.rules.specs.Reading.{links_by, mother_in, climbs, ends_with, ends_alone}
use Rattle.rules.specs.Reading.{Reading, enq_effect, if_done, went_on, effect_of, nothing, reading}
use Rattle.laws.specs.SameNames.{name_sym, name_eq}
use Rattle.laws.specs.Among.{some_same, some_kept}
use Rattle.history.specs.Told.{task, Attached, IsAttached, Mother, Below, EndsWith, Has, Queued, Released}
use Rattle.history.specs.Told.{Ended}
use Rattle.history.specs.Told.Attached.{attach}
use Rattle.history.specs.Told.Below.{itself, under}
use Rattle.history.specs.Told.Queued.{enq, have}
use Rattle.history.specs.Told.Released.{deq}
use Rattle.history.specs.Told.Ended.{end, abend, detach, fault}
use Rattle.history.proofs.Effects.{entry_as, fault_effect}

-- the mothers that are read from turns
abbrev mother_read : List Turn → ℕ → ℕ
mother_read us = mother_in (reading nothing us).links

-- they are those whom the turns tell of
pub record MothersTold (us : List Turn) : Type 0 where
  pub told : (c : ℕ) → Mother us c (mother_read us c)
  pub once : (c m : ℕ) → Mother us c m → mother_read us c ≡ m

or_later : (a b : Bool) → b ≡ true → (a || b) ≡ true
or_later true b h = refl
or_later false b h = h

-- one of the links is c's
abbrev pub attaches_to : ℕ → List Link → Bool
attaches_to c = some (λ (k : Link). eqb k.child c)

-- task c's entries for the names of a list
brings_asked : (c t : ℕ) (n : Resource) (l : List Ask)
    → has_entry (map (entry_for c) l) t n ≡ (eqb c t && some (λ (a : Ask). same_name a.name n) l)
brings_asked c t n l = some_of (entry_for c) (is_for t n) l ∙ one (eqb c t) l
  where
    one : (b : Bool) (k : List Ask)
        → some (λ (a : Ask). b && same_name a.name n) k ≡ (b && some (λ (a : Ask). same_name a.name n) k)
    one true [] = refl
    one true (a ∷ k) = ap (λ (x : Bool). same_name a.name n || x) (one true k)
    one false [] = refl
    one false (a ∷ k) = one false k

-- where task t has no entry for the name, an ask for it is kept of those for which it has none
kept_named : (q : List Entry) (t : ℕ) (n : Resource) → has_entry q t n ≡ false → (l : List Ask)
    → some (λ (a : Ask). same_name a.name n) (keep (fresh q t) l) ≡ some (λ (a : Ask). same_name a.name n) l
kept_named q t n e l =
    some_kept (λ (a : Ask). same_name a.name n) (fresh q t) l
    ∙ some_same (λ (a : Ask). fresh q t a && same_name a.name n) (λ (a : Ask). same_name a.name n)
    (λ a. one a (same_name a.name n) refl) l
  where
    one : (a : Ask) (b : Bool) → same_name a.name n ≡ b → (fresh q t a && b) ≡ b
    one a true i = rw (name_eq a.name n i, e)
    one a false i = and-false (fresh q t a)

-- WHO ENDS

module _ (past : List Turn) (law : MothersTold past) where
  abbrev read : Reading
  read = reading nothing past

  abbrev m : ℕ → ℕ
  m = mother_read past

  below_climbs : {c k t : ℕ} → Below past c k t → climbs m k c t ≡ true
  unfolding climbs
  below_climbs {c} itself = rw (eq-eqb c c refl)
  below_climbs {c} (under {k} {t} {p} mo b) =
      or_later (eqb t c) (climbs m k c (m t)) (ap (climbs m k c) (law.once t p mo) ∙ below_climbs b)

  climbs_below : (k c t : ℕ) → climbs m k c t ≡ true → Below past c k t
  unfolding climbs
  climbs_below zero c t h = absurd (false≢true h)
  climbs_below (suc k) c t h = one (either (eqb t c) (climbs m k c (m t)) h) (climbs_below k c (m t))
    where
      one : (eqb t c ≡ true) ⊎ (climbs m k c (m t) ≡ true) → (climbs m k c (m t) ≡ true → Below past c k (m t))
          → Below past c (suc k) t
      one (inl e) ih = subst (Below past c (suc k)) (sym (eqb-true t c e)) itself
      one (inr e) ih = under (law.told t) (ih e)

  ends_told : (c t : ℕ) → ends_with m c t ≡ true → EndsWith past c t
  unfolding ends_with
  ends_told c t h = one (either (eqb c job_step_task) (climbs m highest_task c t) h)
    where
      one : (eqb c job_step_task ≡ true) ⊎ (climbs m highest_task c t ≡ true) → EndsWith past c t
      one (inl e) = inl (eqb-true c job_step_task e)
      one (inr e) = inr (climbs_below highest_task c t e)

  told_ends : (c t : ℕ) → EndsWith past c t → ends_with m c t ≡ true
  unfolding ends_with
  told_ends c t (inl e) = rw (eq-eqb c job_step_task e)
  told_ends c t (inr b) = or_later (eqb c job_step_task) (climbs m highest_task c t) (below_climbs b)

  -- FROM THE EFFECT TO THE TURN

  module _ (u : Turn) where
    -- what an effect says of the turn that has it
    abbrev Means : Effect → Type 0
    Means NoEffect = Unit {0}
    Means (Queues t asks) = (n : Resource) → some (λ (a : Ask). same_name a.name n) asks ≡ true → Queued t n u
    Means (Releases t ns) = (n : Resource) → some (same_name n) ns ≡ true → Released t n u
    Means (Changes t ns) = Unit {0}
    Means (Ends who) = (t : ℕ) → who t ≡ true → Ended past t u
    Means (Attaches p c) = Attached p c u

    -- the name stands in a list of asks
    listed : (n : Resource) (l : List Ask)
        → some (same_name n) (map name_of l) ≡ some (λ (a : Ask). same_name a.name n) l
    listed n [] = refl
    listed n (a ∷ l) = rw (name_sym n a.name, listed n l)

    -- only where the answer is 0
    if_done_lem : (done : Bool) (ev : Effect) → (done ≡ true → Means ev) → Means (if_done done ev)
    if_done_lem true ev k = k refl
    if_done_lem false ev k = tt

    asked : (c : ℕ) (ret : Ret) (done : Bool) → u.request ≡ Enq (task c) ret → (done ≡ true → u.number ≡ 0)
        → (u.number ≡ 0) ⊎ (u.number ≡ 4) → Means (enq_effect read.queue c ret u.names done)
    unfolding to_queue
    asked c None done e z g = if_done_lem done (Queues c u.names.asks) (λ d n h. enq None e (inl refl) (z d) h)
    asked c Test done e z g = tt
    asked c Use done e z g = if_done_lem done (Queues c u.names.asks) (λ d n h. enq Use e (inr refl) (z d) h)
    asked c Have done e z g =
        λ n h. have e g (some_left (λ (a : Ask). same_name a.name n) (fresh read.queue c) u.names.asks h)
    asked c Chng done e z g = if_done_lem done (Changes c (names_of u.names)) (λ d. tt)

    alone_told : (c t : ℕ) → ends_alone c t ≡ true → (c ≡ job_step_task) ⊎ (t ≡ c)
    alone_told c t h = one (either (eqb c job_step_task) (eqb t c) h)
      where
        one : (eqb c job_step_task ≡ true) ⊎ (eqb t c ≡ true) → (c ≡ job_step_task) ⊎ (t ≡ c)
        one (inl e) = inl (eqb-true c job_step_task e)
        one (inr e) = inr (eqb-true t c e)

    all_told : (all : Bool) (c t : ℕ) → (all || ends_with m c t) ≡ true → (all ≡ true) ⊎ EndsWith past c t
    all_told true c t h = inl refl
    all_told false c t h = inr (ends_told c t h)

    went : (q : Request) → u.request ≡ q → (done : Bool) → (done ≡ true → u.number ≡ 0)
        → (u.number ≡ 0) ⊎ (u.number ≡ 4)
        → Means (went_on read q u.names done u.besides)
    went (Attach c lpmod dpmod ecb) r done z g =
        if_done_lem done (Attaches c.0 u.besides) (λ d. attach lpmod dpmod ecb r (z d) refl)
    went (Detach c t) r done z g =
        if_done_lem done (Ends (ends_with m t.0)) (λ d n h. detach c.0 t.0 r (z d) (ends_told t.0 n h))
    went (End c code) r done z g =
        if_done_lem done (Ends (ends_alone c.0)) (λ d n h. end c.0 code r (z d) (alone_told c.0 n h))
    went (Abend c code all) r done z g =
        if_done_lem done _ (λ d n h. abend c.0 code all r (z d) (all_told all c.0 n h))
    went (Enq c ret) r done z g = asked c.0 ret done r z g
    went (Deq c ret) r done z g = λ n h. deq ret r g (sym (listed n u.names.asks) ∙ h)
    went (Wait c t) r done z g = tt
    went (Post c e code) r done z g = tt
    went (Clear c e) r done z g = tt
    went (Getmain c bytes subpool conditional) r done z g = tt
    went (Freemain c address bytes subpool) r done z g = tt
    went Dispatch r done z g = tt

    -- a number that is a program error's is one's
    which : (l : List Fault) (n : ℕ) → some (λ (what : Fault). eqb n (fault_number what)) l ≡ true
        → (what : Fault) × (n ≡ fault_number what)
    which [] n h = absurd (false≢true h)
    which (w ∷ l) n h =
        one (either (eqb n (fault_number w)) (some (λ (what : Fault). eqb n (fault_number what)) l) h) (which l n)
      where
        one : (eqb n (fault_number w) ≡ true) ⊎ (some (λ (what : Fault). eqb n (fault_number what)) l ≡ true)
            → (some (λ (what : Fault). eqb n (fault_number what)) l ≡ true → (what : Fault) × (n ≡ fault_number what))
            → (what : Fault) × (n ≡ fault_number what)
        one (inl e) ih = (w, eqb-true n (fault_number w) e)
        one (inr e) ih = ih e

    pub means : Means (effect_of read u)
    means = one (is_fault u.number) (eqb u.number 0) (eqb u.number 4) refl refl refl
      where
        one : (f z g : Bool) → is_fault u.number ≡ f → eqb u.number 0 ≡ z → eqb u.number 4 ≡ g
            → Means (cond f (Ends (ends_with m (caller_of u.request)))
            (cond z (went_on read u.request u.names true u.besides)
            (cond g (went_on read u.request u.names false u.besides) NoEffect)))
        one true z g a b d =
            λ n h. fault (which faults u.number a).0 (which faults u.number a).1 (ends_told _ n h)
        one false true g a b d =
            went u.request refl true (λ i. eqb-true u.number 0 b) (inl (eqb-true u.number 0 b))
        one false false true a b d =
            went u.request refl false (λ i. absurd (false≢true i)) (inr (eqb-true u.number 4 d))
        one false false false a b d = tt

    -- what it takes is released or ended
    taken : (ev : Effect) → Means ev → (t : ℕ) (n : Resource) → takes ev (entry_as t n) ≡ true
        → Released t n u ⊎ Ended past t u
    taken NoEffect k t n h = absurd (false≢true h)
    taken (Queues c asks) k t n h = absurd (false≢true h)
    taken (Releases c ns) k t n h =
        let b = both (eqb t c) (some (same_name n) ns) h in
        inl (subst (λ (i : ℕ). Released i n u) (sym (eqb-true t c b.0)) (k n b.1))
    taken (Changes c ns) k t n h = absurd (false≢true h)
    taken (Ends who) k t n h = inr (k t h)
    taken (Attaches p c) k t n h = absurd (false≢true h)

    -- what it brings is queued
    brought : (ev : Effect) → Means ev → (t : ℕ) (n : Resource) → has_entry (brings ev) t n ≡ true → Queued t n u
    brought NoEffect k t n h = absurd (false≢true h)
    brought (Queues c asks) k t n h =
        let b = both (eqb c t) _ (sym (brings_asked c t n asks) ∙ h) in
        subst (λ (i : ℕ). Queued i n u) (eqb-true c t b.0) (k n b.1)
    brought (Releases c ns) k t n h = absurd (false≢true h)
    brought (Changes c ns) k t n h = absurd (false≢true h)
    brought (Ends who) k t n h = absurd (false≢true h)
    brought (Attaches p c) k t n h = absurd (false≢true h)

    -- whom it links is attached
    linked : (ev : Effect) → Means ev → (ls : List Link) (c : ℕ) → attaches_to c (links_by ev) ≡ true
        → (a : IsAttached c u) × (mother_in (links_by ev ++ ls) c ≡ a.0)
    linked NoEffect k ls c h = absurd (false≢true h)
    linked (Queues t asks) k ls c h = absurd (false≢true h)
    linked (Releases t ns) k ls c h = absurd (false≢true h)
    linked (Changes t ns) k ls c h = absurd (false≢true h)
    linked (Ends who) k ls c h = absurd (false≢true h)
    linked (Attaches p d) k ls c h =
        let e : eqb d c ≡ true = sym (or-false (eqb d c)) ∙ h in
        ((p, subst (λ (i : ℕ). Attached p i u) (eqb-true d c e) k), rw e)

    pub taken_gone : (t : ℕ) (n : Resource) → takes (effect_of read u) (entry_as t n) ≡ true
        → Released t n u ⊎ Ended past t u
    taken_gone = taken (effect_of read u) means

    pub brought_queued : (t : ℕ) (n : Resource) → has_entry (brings (effect_of read u)) t n ≡ true → Queued t n u
    brought_queued = brought (effect_of read u) means

    pub linked_attached : (ls : List Link) (c : ℕ) → attaches_to c (links_by (effect_of read u)) ≡ true
        → (a : IsAttached c u) × (mother_in (links_by (effect_of read u) ++ ls) c ≡ a.0)
    linked_attached = linked (effect_of read u) means

    -- FROM THE TURN TO THE EFFECT

    pub attached_links : {p c : ℕ} → Attached p c u → links_by (effect_of read u) ≡ record { child = c; mother = p } ∷ []
    attached_links (attach lpmod dpmod ecb r z b) = rw (z, r, b)

    -- the entry is there then: it was there and stays, or it comes
    abbrev pub Stands : ℕ → Resource → Effect → Type 0
    Stands t n ev =
        ((has_entry read.queue t n && not (takes ev (entry_as t n))) || has_entry (brings ev) t n) ≡ true

    comes : (t : ℕ) (n : Resource) (asks : List Ask) → some (λ (a : Ask). same_name a.name n) asks ≡ true
        → has_entry (map (entry_for t) asks) t n ≡ true
    comes t n asks h = brings_asked t t n asks ∙ rw (eq-eqb t t refl, h)

    -- HAVE skips it only where it was there
    skips_had : (t : ℕ) (n : Resource) (b : Bool) → has_entry read.queue t n ≡ b → Has n u.names
        → ((b && true) || has_entry (map (entry_for t) (keep (fresh read.queue t) u.names.asks)) t n) ≡ true
    skips_had t n true e h = refl
    skips_had t n false e h =
        comes t n (keep (fresh read.queue t) u.names.asks) (kept_named read.queue t n e u.names.asks ∙ h)

    pub queued_stands : (t : ℕ) (n : Resource) → Queued t n u → Stands t n (effect_of read u)
    unfolding to_queue
    queued_stands t n (enq ret e k z h) =
        subst (Stands t n) (sym (one k))
        (rw (comes t n u.names.asks h) (or-true (has_entry read.queue t n && true)))
      where
        one : (ret ≡ None) ⊎ (ret ≡ Use) → effect_of read u ≡ Queues t u.names.asks
        one (inl f) = rw (z, e, f)
        one (inr f) = rw (z, e, f)
    queued_stands t n (have e g h) =
        subst (Stands t n) (sym (one g)) (skips_had t n (has_entry read.queue t n) refl h)
      where
        one : (u.number ≡ 0) ⊎ (u.number ≡ 4) → effect_of read u ≡ Queues t (to_queue Have read.queue t u.names)
        one (inl z) = rw (z, e)
        one (inr z) = rw (z, e)

    released_taken : (t : ℕ) (n : Resource) → Released t n u → takes (effect_of read u) (entry_as t n) ≡ true
    released_taken t n (deq ret r g h) =
        ap (λ (ev : Effect). takes ev (entry_as t n)) (one g) ∙ rw (eq-eqb t t refl, listed n u.names.asks, h)
      where
        one : (u.number ≡ 0) ⊎ (u.number ≡ 4) → effect_of read u ≡ Releases t (names_of u.names)
        one (inl z) = rw (z, r)
        one (inr z) = rw (z, r)

    ended_taken : (t : ℕ) (n : Resource) → Ended past t u → takes (effect_of read u) (entry_as t n) ≡ true
    ended_taken t n (end c code r z (inl e)) = rw (z, r, eq-eqb c job_step_task e)
    ended_taken t n (end c code r z (inr e)) = rw (z, r) (or_later (eqb c job_step_task) (eqb t c) (eq-eqb t c e))
    ended_taken t n (abend c code step r z (inl e)) = rw (z, r, e)
    ended_taken t n (abend c code step r z (inr e)) = rw (z, r) (or_later step (ends_with m c t) (told_ends c t e))
    ended_taken t n (detach c d r z e) = rw (z, r) (told_ends d t e)
    ended_taken t n (fault what z e) = rw (fault_effect read u what z) (told_ends (caller_of u.request) t e)

    pub gone_taken : (t : ℕ) (n : Resource) → Released t n u ⊎ Ended past t u
        → takes (effect_of read u) (entry_as t n) ≡ true
    gone_taken t n (inl g) = released_taken t n g
    gone_taken t n (inr g) = ended_taken t n g
