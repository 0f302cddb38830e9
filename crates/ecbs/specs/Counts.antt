-- Counting wait bits along a loop.
use Rattle.std.specs.Prelude.{◌≡◌, refl, false, List, [], ◌∷◌, ◌++◌, ℕ, zero, suc, ◌+◌, ◌≤◌, ◌<◌, eqb, length, get_or, take, set}
use Rattle.std.proofs.Common.{sym, ap, ap₂, ◌∙◌, le_of_suc-le-suc, add-one, arith, take-suc, length-take-le, eq-eqb, ne_eqb}
use Rattle.lists.specs.Lists.{how_many}
use Rattle.lists.specs.Numbered.{numbers_at}
use Rattle.lists.specs.Setting.{how_many_yes, how_many_no, how_many_few}
use Rattle.kinds.specs.declared.ecbs.Ecb.{Ecb}
use Rattle.rules.specs.SoundEcbs.{waited_on_by}
use Rattle.ecbs.specs.Blocks.{tally_from}

pub waits_at : (k n w : ℕ) (es : List Ecb) → w < k → get_or (tally_from k n es) w 0 ≡ how_many (waited_on_by (n + w)) es
unfolding tally_from
waits_at k n w es h = numbers_at (λ (t : ℕ). how_many (waited_on_by t) es) 0 n k w h

-- one ECB more, whose waiter is none of these tasks
waits_off : (k n : ℕ) (p : List Ecb) (x : Ecb) → ((t : ℕ) → n ≤ t → t < n + k → eqb x.waiter.0 t ≡ false)
    → tally_from k n (p ++ (x ∷ [])) ≡ tally_from k n p
unfolding tally_from
waits_off zero n p x h = refl
waits_off (suc k) n p x h =
    ap₂ (λ (c : ℕ) (l : List ℕ). c ∷ l)
    (how_many_no (waited_on_by n) p x (h n (omega arith) (omega arith)))
    (waits_off k (n + 1) p x (λ t a b. h t (omega arith) (omega arith)))

-- one ECB more, whose waiter is task n + w
waits_on : (k n w : ℕ) (p : List Ecb) (x : Ecb) → w < k → x.waiter.0 ≡ n + w
    → set (tally_from k n p) w (how_many (waited_on_by (n + w)) p + 1) ≡ tally_from k n (p ++ (x ∷ []))
unfolding tally_from
waits_on zero n w p x h q = absurd (omega arith)
waits_on (suc k) n zero p x h q =
    let e : n + 0 ≡ n = omega arith in
    ap₂ (λ (c : ℕ) (l : List ℕ). c ∷ l)
    (ap (λ (t : ℕ). how_many (waited_on_by t) p + 1) e ∙ sym (how_many_yes (waited_on_by n) p x (eq-eqb _ _ (q ∙ e))))
    (sym (waits_off k (n + 1) p x (λ t a b. ne_eqb _ _ (λ (z : x.waiter.0 ≡ t). omega arith))))
waits_on (suc k) n (suc w) p x h q =
    let e : n + suc w ≡ (n + 1) + w = omega arith in
    ap₂ (λ (c : ℕ) (l : List ℕ). c ∷ l)
    (sym (how_many_no (waited_on_by n) p x (ne_eqb _ _ (λ (z : x.waiter.0 ≡ n). omega arith))))
    (ap (λ (t : ℕ). set (tally_from k (n + 1) p) w (how_many (waited_on_by t) p + 1)) e
    ∙ waits_on k (n + 1) w p x (le_of_suc-le-suc h) (q ∙ e))

-- a loop that counts for k tasks, the first of which is 0: the ECB at place i is counted, or is none of theirs
module _ (k : ℕ) (es : List Ecb) (i : ℕ) (d : Ecb) (l : List ℕ) (h : i < length es)
    (v : l ≡ tally_from k 0 (take i es)) where
  pub counted_few : (w : ℕ) → w < k → get_or l w 0 ≤ i
  counted_few w m =
      let a : get_or l w 0 ≡ how_many (waited_on_by (0 + w)) (take i es) = rw v (waits_at k 0 w (take i es) m) in
      let b = how_many_few (waited_on_by (0 + w)) (take i es) in
      let z : length (take i es) ≡ i = length-take-le i es (omega arith) in
      omega arith

  one_more : tally_from k 0 (take i es ++ (get_or es i d ∷ [])) ≡ tally_from k 0 (take (i + 1) es)
  one_more =
      let e : take i es ++ (get_or es i d ∷ []) ≡ take (i + 1) es = rw (add-one) (sym (take-suc es i d h)) in
      ap (tally_from k 0) e

  pub counted : (w : ℕ) → w < k → (get_or es i d).waiter.0 ≡ w
      → set l w (get_or l w 0 + 1) ≡ tally_from k 0 (take (i + 1) es)
  counted w m q =
      let z : (get_or es i d).waiter.0 ≡ 0 + w = omega (arith, q) in
      ap (λ (r : List ℕ). set r w (get_or r w 0 + 1)) v
      ∙ ap (λ (a : ℕ). set (tally_from k 0 (take i es)) w (a + 1)) (waits_at k 0 w (take i es) m)
      ∙ waits_on k 0 w (take i es) (get_or es i d) m z
      ∙ one_more

  pub not_counted : k ≤ (get_or es i d).waiter.0 → l ≡ tally_from k 0 (take (i + 1) es)
  not_counted q =
      let x = get_or es i d in
      v ∙ sym (waits_off k 0 (take i es) x (λ t a b. ne_eqb _ _ (λ (z : x.waiter.0 ≡ t). omega arith))) ∙ one_more
