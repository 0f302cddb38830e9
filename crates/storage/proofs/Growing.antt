-- The stored form of a list, with an area put in.
use Rattle.std.proofs.Common.{◌≡◌, sym, ap, ap₂, ◌∙◌, ℕ, suc, ◌+◌, ◌-◌, ◌≤◌, ◌<◌, List, [], ◌∷◌, ◌++◌}
use Rattle.std.proofs.Common.{length, take, drop, get_or, set, take-suc, length-append, length-take-le, length-drop}
use Rattle.std.proofs.Common.{arith, add-one, append_assoc}
use Rattle.std.proofs.Math.ListN.{replicate}
use Rattle.std.proofs.Math.Seq.{set-append_seam, append_snoc, take_at, drop_at}
use Rattle.std.proofs.lemmas.List.{take-append-le, drop-append-le}
use Rattle.std.specs.List.{copy_within}
use Rattle.lists.specs.Packed as packed
use Rattle.lists.specs.Tables.{padded}
use Rattle.kinds.specs.Areas.{no_area}
use Rattle.kinds.specs.Limits.{most_areas}
use Rattle.kinds.specs.declared.areas.Area.{Area}
use Rattle.storage.specs.Changes.{inserted_at}
use Rattle.storage.specs.Stored.{stored_areas, areas_in, PackedAreas}
use Rattle.storage.specs.Kept.{table}
use Rattle.storage.specs.declared.Storage.{Storage}

pub length_live : (s : Storage) → length s.areas ≡ most_areas → s.count ≤ most_areas → length (areas_in s) ≡ s.count
length_live = packed.live_count table

module _ {A : Type 0} (z a : A) (rest l : List A) (i : ℕ) (h : i ≤ length l) where
  abbrev xs : List A
  xs = l ++ (z ∷ rest)

  one_more : take (i + 1) xs ≡ take i l ++ (get_or xs i z ∷ [])
  one_more =
      rw (add-one) (take-suc xs i z (omega (arith, length-append l (z ∷ rest))))
      ∙ ap (λ r. r ++ (get_or xs i z ∷ [])) (take-append-le i l (z ∷ rest) h)

  behind : take (length l - i) (drop i xs) ≡ drop i l
  behind =
      rw (drop-append-le i l (z ∷ rest) h)
      (take_at (drop i l) (z ∷ rest) (length l - i) (omega (arith, length-drop i l)))

  past : drop ((i + 1) + (length l - i)) xs ≡ rest
  past =
      rw (sym (append_snoc l z rest))
      (drop_at (l ++ (z ∷ [])) rest ((i + 1) + (length l - i)) (omega (arith, length-append l (z ∷ []))))

  -- those behind place i moved up by one, and an area put there
  pub moved_up : set (copy_within xs i (length l) (i + 1)) i a ≡ (take i l ++ (a ∷ drop i l)) ++ rest
  moved_up =
      let f = take i l in
      let w = get_or xs i z in
      let k : length f ≡ i = length-take-le i l h in
      let e : copy_within xs i (length l) (i + 1) ≡ f ++ (w ∷ (drop i l ++ rest)) =
      rw (one_more, behind, past, append_snoc f w (drop i l)) (append_assoc f (w ∷ drop i l) rest) in
      ap₂ (λ (u : List A) (j : ℕ). set u j a) e (sym k)
      ∙ set-append_seam f w (drop i l ++ rest) a
      ∙ sym (append_assoc f (a ∷ drop i l) rest)

-- an area put in at place i of a packed storage
pub put_in : (s : Storage) → PackedAreas s → s.count < most_areas → (a : Area) (i : ℕ) → i ≤ s.count
    → record { areas = set (copy_within s.areas i s.count (i + 1)) i a; count = s.count + 1 }
    ≡ stored_areas (inserted_at i a (areas_in s))
unfolding padded
put_in s p h a i k =
    let l = areas_in s in
    let n : s.count ≡ length l = packed.stored_count table l s p.form in
    let m = most_areas - (length l + 1) in
    let e : most_areas - length l ≡ suc m = omega arith in
    let q : length (inserted_at i a l) ≡ length l + 1 =
    omega (arith, length-append (take i l) (a ∷ drop i l), length-take-le i l (omega arith), length-drop i l) in
    let r : s.areas ≡ l ++ (no_area ∷ replicate m no_area) =
    ap (λ (t : Storage). t.areas) p.form ∙ ap (λ (j : ℕ). l ++ replicate j no_area) e in
    let d : m ≡ most_areas - length (inserted_at i a l) = omega arith in
    ap₂ (λ (u : List Area) (c : ℕ). record { areas = u; count = c })
    (ap₂ (λ (u : List Area) (c : ℕ). set (copy_within u i c (i + 1)) i a) r n
    ∙ moved_up no_area a (replicate m no_area) l i (omega arith)
    ∙ ap (λ (j : ℕ). inserted_at i a l ++ replicate j no_area) d)
    (omega arith)
