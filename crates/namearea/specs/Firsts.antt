-- "Each different name is kept once .. in the order of first entries".
use Rattle.std.specs.Prelude.{◌≡◌, Bool, true, false, not, List, [], ◌∷◌, ◌++◌}
use Rattle.std.proofs.Common.{◌∙◌, append-nil}
use Rattle.lists.specs.Lists.{some}
use Rattle.rules.specs.Names.{Resource, same_name, firsts}
use Rattle.laws.specs.Grouping.{firsts_next, firsts_all}
use Rattle.laws.specs.Standings.{same_names}

-- the two names are not one
abbrev pub differs : Resource → Resource → Bool
differs n m = not (same_name n m)

-- the name is one of these
abbrev pub is_in : Resource → List Resource → Bool
is_in n ns = some (same_name n) ns

-- a name that is there, once more at the end, changes nothing
pub firsts_seen : (ns : List Resource) (n : Resource) → is_in n ns ≡ true → firsts (ns ++ (n ∷ [])) ≡ firsts ns
firsts_seen ns n h = firsts_next same_names ns n ∙ rw h (append-nil (firsts ns))

-- a new name at the end comes behind the others
pub firsts_new : (ns : List Resource) (n : Resource) → is_in n ns ≡ false
    → firsts (ns ++ (n ∷ [])) ≡ firsts ns ++ (n ∷ [])
firsts_new ns n h = firsts_next same_names ns n ∙ rw h

-- nothing but the names of the list, and all of them
pub firsts_in : (n : Resource) (ns : List Resource) → is_in n (firsts ns) ≡ is_in n ns
firsts_in n ns = firsts_all same_names n ns
