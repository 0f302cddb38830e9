-- A waiter that has no place cannot change.
use Rattle.std.specs.Prelude.{◌≡◌, List, ℕ, ◌-◌, ◌<◌, eqb, length}
use Rattle.std.proofs.Math.Path.{refl, ap}
use Rattle.std.proofs.Common.{sym, ◌∙◌, arith, ne_eqb}
use Rattle.std.proofs.Math.Seq.{set_out}
use Rattle.lists.specs.Pick.{pick, on_false}
use Rattle.kinds.specs.Limits.{highest_task}
use Rattle.kinds.specs.Tasks.{with_condition}
use Rattle.kinds.specs.declared.ecbs.Ecb.{Ecb}
use Rattle.kinds.specs.declared.tasks.Task.{Task}
use Rattle.rules.specs.Family.{place, condition_of}
use Rattle.rules.specs.Events.{Signals, one_post_fewer, bits_left, comes_to, woken}
use Rattle.laws.specs.Places.{place_past}

module _ (ts : List Task) (es : List Ecb) (w : ℕ) where
  -- a free place needs no post
  bits_past : length ts < w → es ≡ bits_left w (one_post_fewer (condition_of ts w)) es
  unfolding bits_left one_post_fewer pick
  bits_past h = ap (λ (x : Task). bits_left w (one_post_fewer x.condition) es) (sym (place_past ts w h))

  comes_past : length ts < w
      → ◌≡◌ {A = Signals} (record { tasks = ts; ecbs = es }) (comes_to ts es w (one_post_fewer (condition_of ts w)))
  comes_past h =
      let y = with_condition (place ts w) (one_post_fewer (condition_of ts w)) in
      λ i. record { tasks = sym (set_out ts (w - 1) y (omega arith)) i; ecbs = bits_past h i }

  pub woken_past : length ts ≡ highest_task → highest_task < w → record { tasks = ts; ecbs = es } ≡ woken ts es w
  unfolding woken
  woken_past z h =
      comes_past (omega arith) ∙ on_false (eqb w 0) _ _ _ (ne_eqb w 0 (λ (o : w ≡ 0). omega arith)) refl
