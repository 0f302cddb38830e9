-- Where names stand among the different names of a list, and where these end, as names come behind.
use Rattle.std.specs.Prelude.{◌≡◌, refl, Bool, true, false, not, List, [], ◌∷◌, ◌++◌, map, ℕ, ◌+◌, ◌<◌, ltb}
use Rattle.std.proofs.Common.{sym, ap, ◌∙◌, append-nil, arith, lt-ltb, le-ltb}
use Rattle.std.proofs.lemmas.List.{map-append}
use Rattle.lists.specs.Lists.{keep}
use Rattle.rules.specs.Names.{Resource, firsts}
use Rattle.laws.specs.SameNames.{eq_name}
use Rattle.laws.specs.Grouping.{firsts_append}
use Rattle.laws.specs.Standings.{same_names}
use Rattle.laws.specs.NamesAfter.{in_itself}
use Rattle.namearea.specs.There.{map_among}
use Rattle.namearea.specs.Firsts.{is_in, firsts_seen, firsts_new, firsts_in}
use Rattle.namearea.specs.Spelling.{size_of, needed, offset_in, needed_append, needed_one, offset_front}
use Rattle.namearea.specs.Spelling.{offset_past, offset_within}

-- those of the second list's different names that are not in the first
abbrev pub added : List Resource → List Resource → List Resource
added ns ms = keep (λ (n : Resource). not (is_in n ns)) (firsts ms)

-- the different names of two lists are those of the first, then what the second adds
pub firsts_added : (ns ms : List Resource) → firsts (ns ++ ms) ≡ firsts ns ++ added ns ms
firsts_added ns ms = firsts_append same_names ns ms

-- a name that is there stands where it stood, whatever names come behind
pub offset_longer : (ns ms : List Resource) (n : Resource) → is_in n ns ≡ true
    → offset_in (firsts (ns ++ ms)) n ≡ offset_in (firsts ns) n
offset_longer ns ms n h =
    ap (λ (l : List Resource). offset_in l n) (firsts_added ns ms)
    ∙ offset_front (firsts ns) (added ns ms) n (firsts_in n ns ∙ h)

-- before the end of the names
pub offset_inside : (ns : List Resource) (n : Resource) → is_in n ns ≡ true
    → offset_in (firsts ns) n < needed (firsts ns)
offset_inside ns n h = omega (arith, offset_within (firsts ns) n (firsts_in n ns ∙ h))

-- a name that is not there comes behind those that are
offset_behind : (ns ms : List Resource) (n : Resource) → is_in n ns ≡ false
    → offset_in (firsts (ns ++ ms)) n ≡ needed (firsts ns) + offset_in (added ns ms) n
offset_behind ns ms n h =
    ap (λ (l : List Resource). offset_in l n) (firsts_added ns ms)
    ∙ offset_past (firsts ns) (added ns ms) n (firsts_in n ns ∙ h)

-- a name that is nowhere would stand at the end
pub offset_out : (ns : List Resource) (n : Resource) → is_in n ns ≡ false → offset_in (firsts ns) n ≡ needed (firsts ns)
unfolding offset_in
offset_out ns n h =
    let z : needed (firsts ns) + 0 ≡ needed (firsts ns) = omega arith in
    ap (λ (l : List Resource). offset_in (firsts l) n) (sym (append-nil ns)) ∙ offset_behind ns [] n h ∙ z

-- a new name stands at the end of those before it, whatever comes behind
pub offset_next : (ns more : List Resource) (n : Resource) → is_in n ns ≡ false
    → offset_in (firsts (ns ++ (n ∷ more))) n ≡ needed (firsts ns)
unfolding offset_in
offset_next ns more n h =
    let z : needed (firsts ns) + 0 ≡ needed (firsts ns) = omega arith in
    offset_behind ns (n ∷ more) n h
    ∙ rw (h, eq_name n n refl) z

-- so that offsets tell which names were there
pub offset_tells : (ns more : List Resource) (n : Resource)
    → ltb (offset_in (firsts (ns ++ more)) n) (needed (firsts ns)) ≡ is_in n ns
offset_tells ns more n = one (is_in n ns) refl
  where
    one : (b : Bool) → is_in n ns ≡ b → ltb (offset_in (firsts (ns ++ more)) n) (needed (firsts ns)) ≡ b
    one true h =
        lt-ltb (offset_in (firsts (ns ++ more)) n) (needed (firsts ns))
        (omega (arith, offset_longer ns more n h, offset_inside ns n h))
    one false h =
        le-ltb (offset_in (firsts (ns ++ more)) n) (needed (firsts ns)) (omega (arith, offset_behind ns more n h))

-- one name more, and where all stand: the others stand where they stood
pub points_more : (ns : List Resource) (n : Resource)
    → map (offset_in (firsts (ns ++ (n ∷ [])))) (ns ++ (n ∷ []))
    ≡ map (offset_in (firsts ns)) ns ++ (offset_in (firsts (ns ++ (n ∷ []))) n ∷ [])
points_more ns n =
    map-append (offset_in (firsts (ns ++ (n ∷ [])))) ns (n ∷ [])
    ∙ ap (λ (l : List ℕ). l ++ (offset_in (firsts (ns ++ (n ∷ []))) n ∷ []))
    (map_among (λ (m : Resource). is_in m ns) (offset_in (firsts (ns ++ (n ∷ [])))) (offset_in (firsts ns))
    (offset_longer ns (n ∷ [])) ns (in_itself ns))

-- a name that is there leaves the end where it is
pub end_seen : (ns : List Resource) (n : Resource) → is_in n ns ≡ true
    → needed (firsts (ns ++ (n ∷ []))) ≡ needed (firsts ns)
end_seen ns n h = ap needed (firsts_seen ns n h)

-- a new one moves it by what it takes
pub end_new : (ns : List Resource) (n : Resource) → is_in n ns ≡ false
    → needed (firsts (ns ++ (n ∷ []))) ≡ needed (firsts ns) + size_of n
end_new ns n h =
    ap needed (firsts_new ns n h) ∙ needed_append (firsts ns) (n ∷ [])
    ∙ ap (λ (k : ℕ). needed (firsts ns) + k) (needed_one n)
