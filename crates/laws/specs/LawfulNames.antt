-- NAMES ARE LAWFUL exactly when all are legal and none is a system name.
use Rattle.std.specs.Prelude.{◌≡◌, refl, Bool, true, false, not, ◌&&◌, ◌||◌, List, [], ◌∷◌}
use Rattle.std.proofs.Common.{sym, ap, ◌∙◌}
use Rattle.std.proofs.Math.Bool.{and-false}
use Rattle.lists.specs.Lists.{every, some}
use Rattle.rules.specs.Names.{Resource, legal, is_system, lawful}

regrouped : (a b c d : Bool) → ((a && not b) && (c && not d)) ≡ ((a && c) && not (b || d))
regrouped true true c d = sym (and-false c)
regrouped true false c d = refl
regrouped false b c d = refl

pub lawful_each : (ns : List Resource) → every lawful ns ≡ (every legal ns && not (some is_system ns))
unfolding lawful
lawful_each [] = refl
lawful_each (n ∷ ns) =
    ap (λ (b : Bool). (legal n && not (is_system n)) && b) (lawful_each ns)
    ∙ regrouped (legal n) (is_system n) (every legal ns) (some is_system ns)
