-- SOUND TABLES UNDER OTHER NAMES: where the different names of a queue stay different, of all the rules of sound tables
-- only the one on names can come out otherwise.
use Rattle.std.specs.Prelude.{◌≡◌, Bool, true, false, ◌&&◌, eqb}
use Rattle.std.proofs.Math.Path.{refl, ap, ap₂}
use Rattle.std.proofs.Common.{sym, ◌∙◌}
use Rattle.std.proofs.Math.Bool.{not, and-false}
use mathlib.Core.List.{List, [], ◌∷◌, map}
use Prim.Native.Nat.{ℕ}
use Rattle.std.proofs.Math.Dec.{leb}
use Rattle.std.proofs.lemmas.List.{length-map}
use Rattle.lists.specs.Pick.{pick}
use Rattle.lists.specs.Lists.{every, every_at, alike}
use Rattle.lists.specs.Bools.{both, join, and_left}
use Rattle.lists.specs.Every.{every_of}
use Rattle.kinds.specs.Limits.{most_entries}
use Rattle.kinds.specs.Ranges.{end_code_good}
use Rattle.kinds.specs.Tasks.{in_resource_wait}
use Rattle.kinds.specs.declared.tasks.Task.{Task}
use Rattle.rules.specs.Names.{Resource}
use Rattle.rules.specs.Control.{Entry}
use Rattle.rules.specs.Family.{live}
use Rattle.rules.specs.Steps.{Step, with_queue}
use Rattle.rules.specs.SoundTasks.{zero_task}
use Rattle.rules.specs.SoundQueue.{queue_fits, entries_live, entries_once, entry_names_good, wait_good, waits_good}
use Rattle.rules.specs.Sound.{sizes_good, sound_tasks, sound_queue, sound_ecbs, sound_areas}
use Rattle.rules.specs.Sound.{over_good, running_good, sound_step}
use Rattle.laws.specs.Renaming.{re_named, Apart, all_known, entry_same, lacks_same}

-- of a test that asks for m, and n besides: the two may change places
swapped : (g : Bool → Bool) → g false ≡ false → (m n : Bool) → (g m && n) ≡ (g n && m)
swapped g e true true = refl
swapped g e true false = and-false (g true) ∙ sym (ap (λ (b : Bool). b && true) e)
swapped g e false true = ap (λ (b : Bool). b && true) e ∙ sym (and-false (g true))
swapped g e false false = refl

-- the rules on a step that runs, with n in place of the rule on names
unfoldable running_but : Step → Bool → Bool
running_but s n =
    sizes_good s.tasks s.ecbs && (eqb s.code 0 && (sound_tasks s.tasks && ((queue_fits s.queue
    && (entries_live s.tasks s.queue && (entries_once s.queue && (n && waits_good s.queue s.tasks))))
    && (sound_ecbs s.tasks s.ecbs && sound_areas s.tasks s.areas))))

-- with the rule itself these are the rules, and where it fails no step keeps them
running_but_lem : (s : Step) → running_good s ≡ running_but s (entry_names_good s.queue)
unfolding running_good sound_queue running_but
running_but_lem s = refl

but_fails : (s : Step) → running_but s false ≡ false
unfolding running_but
but_fails s =
    rw (
      and-false (entries_once s.queue),
      and-false (entries_live s.tasks s.queue),
      and-false (queue_fits s.queue),
      and-false (sound_tasks s.tasks),
      and-false (eqb s.code 0),
      and-false (sizes_good s.tasks s.ecbs),
    )

module _ (f : Resource → Resource) where
  -- as many entries, ..
  pub fits_same : (q : List Entry) → queue_fits (map (re_named f) q) ≡ queue_fits q
  unfolding queue_fits
  fits_same q = ap (λ (n : ℕ). leb n most_entries) (length-map q (re_named f))

  -- .. of the same tasks
  pub live_same : (ts : List Task) (q : List Entry) → entries_live ts (map (re_named f) q) ≡ entries_live ts q
  unfolding entries_live
  live_same ts q = every_of (re_named f) (λ (e : Entry). live ts e.task) q

  -- a step that is over has no names
  over_both : (s : Step) (q : List Entry)
      → (over_good (with_queue s (map (re_named f) q)) && entry_names_good q)
      ≡ (over_good (with_queue s q) && entry_names_good (map (re_named f) q))
  unfolding over_good entry_names_good
  over_both s [] = refl
  over_both s (e ∷ q) =
      rw (
        and-false (every zero_task s.tasks),
        and-false (end_code_good s.code),
        and-false (sizes_good s.tasks s.ecbs),
      )

module _ (f : Resource → Resource) (known : Resource → Bool) (r : Apart f known) where
  -- "one at most per task and name"
  pub once_same : (q : List Entry) → all_known known q ≡ true → entries_once (map (re_named f) q) ≡ entries_once q
  unfolding entries_once
  once_same [] h = refl
  once_same (e ∷ q) h =
      let b = both (known e.name) (all_known known q) h in
      ap₂ (λ (u v : Bool). not u && v) (entry_same f known r q e.task e.name b.1 b.0) (once_same q b.1)

  -- a task is in a resource wait exactly when an entry of its lacks control
  pub waits_good_same : (q : List Entry) (ts : List Task) → all_known known q ≡ true
      → waits_good (map (re_named f) q) ts ≡ waits_good q ts
  unfolding waits_good wait_good
  waits_good_same q ts h =
      let e : wait_good (map (re_named f) q) ≡ wait_good q =
      λ i. λ n x. alike (in_resource_wait x.condition) (lacks_same f known r n q h i) in
      ap (λ (w : ℕ → Task → Bool). every_at w 1 ts) e

  -- the other rules on a step that runs are the same
  but_same : (s : Step) (n : Bool) → all_known known s.queue ≡ true
      → running_but (with_queue s (map (re_named f) s.queue)) n ≡ running_but s n
  unfolding running_but
  but_same s n h =
      let fits = fits_same f s.queue in
      let lives = live_same f s.tasks s.queue in
      let once = once_same s.queue h in
      let waits = waits_good_same s.queue s.tasks h in
      λ i. sizes_good s.tasks s.ecbs && (eqb s.code 0 && (sound_tasks s.tasks && ((fits i
      && (lives i && (once i && (n && waits i))))
      && (sound_ecbs s.tasks s.ecbs && sound_areas s.tasks s.areas))))

  -- so tables are sound under the other names, and their own names good, exactly when they are sound as they are, and
  -- the other names good
  pub sound_but_names : (s : Step) → all_known known s.queue ≡ true
      → (sound_step (with_queue s (map (re_named f) s.queue)) && entry_names_good s.queue)
      ≡ (sound_step s && entry_names_good (map (re_named f) s.queue))
  unfolding sound_step pick
  sound_but_names s h = one s.over
    where
      then : Step
      then = with_queue s (map (re_named f) s.queue)

      runs : (running_good then && entry_names_good s.queue) ≡ (running_good s && entry_names_good then.queue)
      runs =
          ap (λ (b : Bool). b && entry_names_good s.queue)
          (running_but_lem then ∙ but_same s (entry_names_good then.queue) h)
          ∙ swapped (running_but s) (but_fails s) (entry_names_good then.queue) (entry_names_good s.queue)
          ∙ ap (λ (b : Bool). b && entry_names_good then.queue) (sym (running_but_lem s))

      one : (b : Bool) → (pick b (over_good then) (running_good then) && entry_names_good s.queue)
          ≡ (pick b (over_good s) (running_good s) && entry_names_good then.queue)
      one true = over_both f s s.queue
      one false = runs

  -- .. and so from either side
  pub sound_same : (s : Step) → all_known known s.queue ≡ true → sound_step s ≡ true
      → entry_names_good (map (re_named f) s.queue) ≡ true → sound_step (with_queue s (map (re_named f) s.queue)) ≡ true
  sound_same s h k n =
      and_left (sound_step (with_queue s (map (re_named f) s.queue))) (entry_names_good s.queue)
      (sound_but_names s h ∙ join (sound_step s) (entry_names_good (map (re_named f) s.queue)) k n)

  pub sound_renamed : (s : Step) → all_known known s.queue ≡ true
      → sound_step (with_queue s (map (re_named f) s.queue)) ≡ true → entry_names_good s.queue ≡ true
      → sound_step s ≡ true
  sound_renamed s h k n =
      and_left (sound_step s) (entry_names_good (map (re_named f) s.queue))
      (sym (sound_but_names s h)
      ∙ join (sound_step (with_queue s (map (re_named f) s.queue))) (entry_names_good s.queue) k n)
