-- WHAT BOUNDS A SOUND STEP, whether it runs or is over: entries and areas have their places, and names are lawful.
use Rattle.std.specs.Prelude.{◌≡◌, refl, Bool, true, false, List, [], ◌∷◌, ℕ, ◌≤◌, length}
use Rattle.std.proofs.Common.{sym, ◌∙◌, true≢false, arith, leb-true}
use Rattle.lists.specs.Lists.{every, none}
use Rattle.lists.specs.Bools.{both}
use Rattle.lists.specs.Pick.{pick_true}
use Rattle.kinds.specs.Limits.{most_entries, most_areas}
use Rattle.kinds.specs.Ranges.{end_code_good}
use Rattle.rules.specs.Control.{Entry}
use Rattle.rules.specs.Steps.{Step}
use Rattle.rules.specs.SoundTasks.{zero_task}
use Rattle.rules.specs.SoundQueue.{queue_fits, entry_names_good}
use Rattle.rules.specs.SoundEcbs.{zero_ecb}
use Rattle.rules.specs.SoundAreas.{areas_fit}
use Rattle.rules.specs.Sound.{sizes_good, over_good, running_good, sound_step}
use Rattle.laws.specs.Running.{Running, running_parts}
use Rattle.laws.specs.Failing.{Sound}

pub record Bounded (s : Step) : Type 0 where
  pub queue : length s.queue ≤ most_entries
  pub names : entry_names_good s.queue ≡ true
  pub areas : length s.areas ≤ most_areas

none_few : {A : Type 0} (n : ℕ) (l : List A) → none l ≡ true → length l ≤ n
none_few n [] h = omega arith
none_few n (x ∷ l) h = absurd (true≢false (sym h))

none_named : (q : List Entry) → none q ≡ true → entry_names_good q ≡ true
unfolding entry_names_good
none_named [] h = refl
none_named (e ∷ q) h = absurd (true≢false (sym h))

running_bounded : (s : Step) → Running s → Bounded s
unfolding queue_fits areas_fit
running_bounded s h = record {
  queue = leb-true (length s.queue) most_entries h.queue.fits;
  names = h.queue.names;
  areas = leb-true (length s.areas) most_areas h.areas.fits;
}

over_bounded : (s : Step) → over_good s ≡ true → Bounded s
unfolding over_good
over_bounded s h =
    let z = both (sizes_good s.tasks s.ecbs) _ h in
    let a = both (end_code_good s.code) _ z.1 in
    let b = both (every zero_task s.tasks) _ a.1 in
    let d = both (none s.queue) _ b.1 in
    let e = both (every zero_ecb s.ecbs) _ d.1 in
    record {
      queue = none_few most_entries s.queue d.0;
      names = none_named s.queue d.0;
      areas = none_few most_areas s.areas e.1;
    }

pub sound_bounded : (s : Step) → Sound s → Bounded s
unfolding sound_step
sound_bounded s h = one s.over refl
  where
    one : (b : Bool) → s.over ≡ b → Bounded s
    one true o = over_bounded s (sym (pick_true s.over (over_good s) (running_good s) o) ∙ h)
    one false o = running_bounded s (running_parts s h o)
