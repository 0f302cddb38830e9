-- WAIT and GETMAIN leave the queue and attach nobody, whether they change anything or not.
use mathlib.Core.Path.{◌≡◌, refl, sym, ap}
use mathlib.Core.Bool.{Bool}
use Prim.Native.Nat.{ℕ}
use Rattle.kinds.specs.Tasks.{is_free}
use Rattle.kinds.specs.declared.numbers.TaskNumber.{TaskNumber}
use Rattle.std.specs.Prelude.{Option, Some, Ok, None}
use Rattle.kinds.specs.declared.numbers.Address.{Address}
use Rattle.kinds.specs.declared.requests.Request.TheVariants.{Wait, Getmain}
use Rattle.rules.specs.Names.{Names}
use Rattle.rules.specs.Events.{Ecbs}
use Rattle.rules.specs.Storage.{lowest}
use Rattle.rules.specs.Steps.{Step}
use Rattle.rules.specs.Admission.{gate_of}
use Rattle.rules.specs.Wait.{wait_done}
use Rattle.rules.specs.Getmain.{wanted, given, getmain_done}
use Rattle.rules.specs.Reading.{Reading}
use Rattle.laws.specs.Chains.{used_pos, used_within}
use Rattle.laws.specs.Admitted.{open_used, open_ready}
use Rattle.history.proofs.Heirs.{same_heirs, moved_heirs}
use Rattle.history.proofs.Seen.{Seen, idle_seen, same_seen}
use Rattle.history.proofs.Turns.{Follows, picked_follows}

module _ (s : Step) (r : Reading) (e : Seen s r) (l : Names) where
  -- a caller that waits has the mother that it had
  pub wait_done_lem : (c : TaskNumber) (es : Ecbs) (n : ℕ) → gate_of s c ≡ Ok tt → Follows r (Wait c n) l (wait_done s c es n)
  unfolding wait_done
  wait_done_lem c es n o =
      let u = open_used s c o in
      picked_follows r (Wait c n) l _ _ _ (same_seen s r e)
      (idle_seen s r e _
      (moved_heirs s.tasks c.0 _ (used_pos s.tasks c.0 u) (used_within s.tasks c.0 u)
      (sym (ap is_free (open_ready s c o)))) refl)

  pub getmain_done_lem : (c : TaskNumber) (bytes subpool : ℕ) (conditional : Bool)
      → Follows r (Getmain c bytes subpool conditional) l (getmain_done s c bytes subpool)
  unfolding getmain_done
  getmain_done_lem c bytes subpool conditional = one (lowest s.areas (wanted bytes subpool c.0))
    where
      one : (p : Option Address)
          → Follows r (Getmain c bytes subpool conditional) l (given s (wanted bytes subpool c.0) p)
      one (Some p) = idle_seen s r e _ (same_heirs s.tasks) refl
      one None = same_seen s r e
