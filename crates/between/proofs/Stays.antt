-- A loop that copies what stays to the front of an array, row by row.
use Rattle.std.proofs.Common.{◌≡◌, Bool, true, false, List, [], ◌∷◌, ◌++◌, ℕ, suc, ◌+◌, ◌-◌, ◌<◌, length, take, drop, get_or, set, sym, ap, ap₂, ◌∙◌, arith, append-nil, drop-cons, length-append, replicate}
use Rattle.std.proofs.lemmas.List.{drop-replicate}
use Rattle.std.proofs.Math.Seq.{set-append_seam, append_snoc}
use Rattle.lists.specs.Lists.{keep}
use Rattle.lists.specs.Keeping.{keep_next}
use Rattle.lists.specs.Tables.{padded}
use Rattle.between.specs.Staying.{Staying}

module _ {A : Type 0} where
  put_behind : (l old : List A) (x : A) → length l < length old
      → set (l ++ drop (length l) old) (length l) x ≡ (l ++ (x ∷ [])) ++ drop (length (l ++ (x ∷ []))) old
  put_behind l old x h =
      let k : suc (length l) ≡ length (l ++ (x ∷ [])) = omega (arith, length-append l (x ∷ [])) in
      ap (λ (r : List A). set (l ++ r) (length l) x) (drop-cons old (length l) x h)
      ∙ set-append_seam l _ (drop (suc (length l)) old) x
      ∙ sym (append_snoc l x (drop (suc (length l)) old))
      ∙ ap (λ (n : ℕ). (l ++ (x ∷ [])) ++ drop n old) k

  module _ (p : A → Bool) (rows old new : List A) (i n : ℕ) (x : A) (here : i < length rows) (is : x ≡ get_or rows i x)
      (v : Staying p (take i rows) old new n) where
    pub one_stays : n < length old → p x ≡ true → Staying p (take (i + 1) rows) old (set new n x) (n + 1)
    one_stays few e =
        let l = keep p (take i rows) in
        let k : keep p (take (i + 1) rows) ≡ l ++ (x ∷ []) =
        keep_next p i rows x true here (ap p (sym is) ∙ e) ∙ ap (λ (y : A). l ++ (y ∷ [])) (sym is) in
        record {
          many = omega (arith, v.many, ap length k, length-append l (x ∷ []));
          front =
              ap₂ (λ (r : List A) (m : ℕ). set r m x) v.front v.many
              ∙ put_behind l old x (omega (arith, v.many))
              ∙ ap (λ (r : List A). r ++ drop (length r) old) (sym k);
        }

    pub one_goes : p x ≡ false → Staying p (take (i + 1) rows) old new n
    one_goes e =
        let l = keep p (take i rows) in
        let k : keep p (take (i + 1) rows) ≡ l =
        keep_next p i rows x false here (ap p (sym is) ∙ e) ∙ append-nil l in
        record {
          many = v.many ∙ ap length (sym k);
          front = v.front ∙ ap (λ (r : List A). r ++ drop (length r) old) (sym k);
        }

-- where only zero rows stood, what stays and zero rows behind it
pub all_stored : {A : Type 0} (size : ℕ) (z : A) (p : A → Bool) (rows old new : List A) (n : ℕ) → old ≡ padded size z []
    → Staying p rows old new n → new ≡ padded size z (keep p rows)
unfolding padded
all_stored size z p rows old new n e v =
    let m = length (keep p rows) in
    v.front
    ∙ ap (λ (r : List _). keep p rows ++ r)
    (ap (drop m) e ∙ drop-replicate m (size - 0) z ∙ ap (λ (k : ℕ). replicate k z) (omega arith))
