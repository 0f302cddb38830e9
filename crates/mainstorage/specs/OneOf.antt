-- ONE OF the areas of a list.
use Rattle.std.specs.Prelude.{◌≡◌, refl, Bool, true, false, not, List}
use Rattle.std.proofs.Common.{ap}
use Rattle.lists.specs.Lists.{every, some}
use Rattle.lists.specs.Bools.{not_so, never}
use Rattle.lists.specs.Every.{none_every}
use Rattle.kinds.specs.declared.areas.Area.{Area}

-- what every area of l passes, x passes
pub record OneOf (l : List Area) (x : Area) : Type 0 where
  pub passes : (f : Area → Bool) → every f l ≡ true → f x ≡ true

module _ {l : List Area} {x : Area} (held : OneOf l x) (f : Area → Bool) where
  pub one_fails : f x ≡ false → every f l ≡ false
  one_fails e = not_so (every f l) (λ u. never (f x) (held.passes f u) e)

  pub one_passes : f x ≡ true → some f l ≡ true
  one_passes e = one (some f l) refl
    where
      one : (b : Bool) → some f l ≡ b → some f l ≡ true
      one true k = k
      one false k = never (not (f x)) (held.passes (λ (y : Area). not (f y)) (none_every f l k)) (ap not e)
