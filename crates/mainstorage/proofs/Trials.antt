-- THE CODE'S SEARCH, which jumps and counts its tries, among the first n areas of l.
use mathlib.Core.Path.{◌≡◌, refl, sym, ap, ◌∙◌}
use mathlib.Core.Bool.{Bool, true, false, not, cond, ◌&&◌, true≢false}
use mathlib.Core.List.{List, [], ◌∷◌}
use Prim.Native.Nat.{ℕ, ◌+◌, ◌≤◌, ◌<◌}
use native.Mathlib.Omega.{arith}
use lib.ListN.{length, take}
use lib.Seq.{length-take-le}
use Rattle.std.specs.Prelude.{find, Some, None}
use Rattle.std.specs.Option.{is_some}
use Rattle.std.proofs.lemmas.Option.{same_Some}
use Rattle.lists.specs.Lists.{every}
use Rattle.lists.specs.Bools.{both}
use Rattle.kinds.specs.Limits.{most_areas, region}
use Rattle.kinds.specs.declared.areas.Area.{Area}
use Rattle.std.specs.Prelude.{Some, None}
use Rattle.rules.specs.Storage.{past_end, apart, placed_at, lowest}
use Rattle.laws.specs.Candidates.{is_candidate, aligned_end}
use Rattle.mainstorage.specs.Bars.{bar_of, next_at}
use Rattle.mainstorage.specs.OneOf.{OneOf}
use Rattle.mainstorage.specs.Tries.{most_tries, tries_left, tries_few, tries_over}
use Rattle.mainstorage.proofs.Searching.{Searching, search_first, none_at_end, found_at}
use Rattle.mainstorage.proofs.Jumps.{jumped}

-- BEFORE A TRY at s: it has found nothing yet, and no more addresses are left than tries
pub record Trying (l : List Area) (n : ℕ) (w : Area) (s tries : ℕ) : Type 0 where
  pub searching : Searching l n w s
  pub left : tries + tries_left (take n l) s ≤ most_tries
  -- "Search those": where every area ends at a multiple of 8, only candidates are tried
  pub candidate : every aligned_end (take n l) ≡ true → s < region → is_candidate (take n l) s ≡ true

pub tries_first : (l : List Area) (n : ℕ) (w : Area) → n ≤ most_areas → length l ≡ most_areas → Trying l n w 0 0
unfolding is_candidate
tries_first l n w h e = record {
  searching = search_first l n w h e;
  left = omega (arith, tries_few (take n l) (rw (length-take-le n l (omega arith)) h));
  candidate = λ v i. refl;
}

-- the count never ends it before the region's end, for then nothing is left
pub none_left : {l : List Area} {n : ℕ} {w : Area} {s tries : ℕ} → Trying l n w s tries → most_tries ≤ tries
    → None ≡ lowest (take n l) w
none_left {l} {n} {w} {s} h k = none_at_end h.searching (tries_over (take n l) s (omega (arith, h.left)))

-- what a search for the first that is not apart from a tells
module _ (a : Area) where
  none_found : (l : List Area) → find (λ (x : Area). not (apart a x)) l ≡ None → every (apart a) l ≡ true
  none_found [] e = refl
  none_found (x ∷ l) e = one (apart a x) e (none_found l)
    where
      one : (b : Bool) → cond (not b) (Some x) (find (λ (y : Area). not (apart a y)) l) ≡ None
          → (find (λ (y : Area). not (apart a y)) l ≡ None → every (apart a) l ≡ true) → (b && every (apart a) l) ≡ true
      one true u ih = ih u
      one false u ih = absurd (true≢false (ap is_some u))

  one_found : (l : List Area) (x : Area) → find (λ (y : Area). not (apart a y)) l ≡ Some x
      → (apart a x ≡ false) × OneOf l x
  one_found [] x e = absurd (true≢false (ap is_some (sym e)))
  one_found (y ∷ l) x e = one (apart a y) refl e (one_found l x)
    where
      one : (b : Bool) → apart a y ≡ b → cond (not b) (Some y) (find (λ (z : Area). not (apart a z)) l) ≡ Some x
          → (find (λ (z : Area). not (apart a z)) l ≡ Some x → (apart a x ≡ false) × OneOf l x)
          → (apart a x ≡ false) × OneOf (y ∷ l) x
      one true k u ih = let r = ih u in (r.0, record { passes = λ f v. r.1.passes f (both (f y) (every f l) v).1 })
      one false k u ih =
          let q : y ≡ x = same_Some y x u in
          (ap (apart a) (sym q) ∙ k, record { passes = λ f v. ap f (sym q) ∙ (both (f y) (every f l) v).0 })

-- ONE TRY, of the area a wanted at s
module _ {l : List Area} {n : ℕ} {w : Area} {s tries : ℕ} (t : Trying l n w s tries) (a : Area) (inside : s < region)
    (here : a ≡ placed_at w s) (ends : past_end a ≤ region) where
  -- none stands in the way
  pub found_free : find (λ (x : Area). not (apart a x)) (take n l) ≡ None → Some (record { 0 = s }) ≡ lowest (take n l) w
  found_free e = found_at t.searching a inside here ends (none_found a (take n l) e)

  -- x stands in the way, and the search goes on past it
  pub jump : (x : Area) → find (λ (y : Area). not (apart a y)) (take n l) ≡ Some x → (b u : ℕ) → b ≡ bar_of w x
      → u ≡ next_at b → Trying l n w u (tries + 1)
  jump x e b u p q =
      let h = t.searching in
      let z = one_found a (take n l) x e in
      let i : apart (placed_at w s) x ≡ false = ap (λ (y : Area). apart y x) (sym here) ∙ z.0 in
      let g = jumped z.1 w s u h.aligned inside i (q ∙ ap next_at p) in
      record {
        searching = record { few = h.few; full = h.full; aligned = g.aligned; same = h.same ∙ g.same };
        left = omega (arith, t.left, g.fewer);
        candidate = g.candidate;
      }
