-- What the reading of a run knows of the step that it has come to: its queue, and the mothers of the tasks in use.
use mathlib.Core.Path.{◌≡◌, refl, sym, ◌∙◌}
use mathlib.Core.Bool.{true}
use mathlib.Core.List.{List}
use Prim.Native.Nat.{ℕ}
use Rattle.rules.specs.Control.{Entry}
use Rattle.rules.specs.Family.{used, mother}
use Rattle.rules.specs.Steps.{Step}
use Rattle.rules.specs.Reading.{NoEffect, after, Reading, read_by, mother_in}
use Rattle.history.proofs.Effects.{idles}
use Rattle.history.proofs.Heirs.{Heirs, same_heirs}

pub record Seen (s : Step) (r : Reading) : Type 0 where
  pub queue : r.queue ≡ s.queue
  pub root : mother_in r.links 0 ≡ 0
  pub mothers : (n : ℕ) → used s.tasks n ≡ true → mother_in r.links n ≡ mother s.tasks n

module _ (s : Step) (r : Reading) (e : Seen s r) where
  -- nobody is attached, and the queue becomes q
  pub heirs_seen : (t : Step) (q : List Entry) → Heirs s.tasks t.tasks → q ≡ t.queue
      → Seen t (record { links = r.links; queue = q })
  heirs_seen t q f g = record {
    queue = g;
    root = e.root;
    mothers = λ n u. let b = f n u in e.mothers n b.0 ∙ sym b.1;
  }

  -- the queue stands, and nobody is new
  pub idle_seen : (t : Step) → Heirs s.tasks t.tasks → s.queue ≡ t.queue → Seen t (read_by r NoEffect)
  idle_seen t f g = heirs_seen t (after NoEffect r.queue) f (idles r.queue ∙ e.queue ∙ g)

  pub same_seen : Seen s (read_by r NoEffect)
  same_seen = idle_seen s (same_heirs s.tasks) refl
