-- The table of ways from task to task, and by way of one more.
use Rattle.std.specs.Prelude.{◌≡◌, refl, Bool, true, false, ◌&&◌, ◌||◌, List, [], ◌∷◌, map, ℕ, zero, suc, ◌+◌, ◌-◌, ◌*◌, ◌/◌, ◌%◌, ◌≤◌, ◌<◌, eqb, length, get_or, set, take, drop}
use Rattle.std.proofs.Common.{sym, ap, ap₂, ◌∙◌, add-one, arith, length-set, get_or-set_same, get_or-set_other, ext_get_or, eqb-true}
use Rattle.std.proofs.Math.Bool.{or-false, or_comm}
use Rattle.std.proofs.Math.Seq.{take-suc}
use Rattle.std.proofs.lemmas.List.{length-map, length-drop, get_or-drop}
use Rattle.std.proofs.lemmas.Bool.{eqb-false}
use Rattle.lists.specs.Lists.{numbers, some}
use Rattle.lists.specs.Every.{some_append}
use Rattle.lists.specs.Bools.{or_left, or_right}
use Rattle.lists.specs.Numbered.{length_numbers, numbers_at}
use Rattle.kinds.specs.Limits.{highest_task}
use Rattle.rules.specs.Rings.{leads_by}
use Rattle.rings.specs.declared.ways.Ways.{Ways}

-- a row's places: the numbers 0 to the highest task's are so many
abbrev pub wide : ℕ
wide = highest_task + 1

-- the table's
abbrev pub all_ways : ℕ
all_ways = wide * wide

-- from a to b
abbrev pub way_at : Ways → ℕ → ℕ → Bool
way_at m a b = get_or m.of (a * wide + b) false

-- those between which a test holds
unfoldable pub ways_by : (ℕ → ℕ → Bool) → Ways
ways_by test = record { of = map (λ (n : ℕ). test (n / wide) (n % wide)) (numbers 0 all_ways) }

-- the numbers below n, from the highest down
abbrev pub down : ℕ → List ℕ
down zero = []
down (suc n) = n ∷ down n

-- the first n places are what a test says
pub record Filled (test : ℕ → ℕ → Bool) (n : ℕ) (m : Ways) : Type 0 where
  pub long : length m.of ≡ all_ways
  pub each : (i : ℕ) → i < n → get_or m.of i false ≡ test (i / wide) (i % wide)

ways_long : (test : ℕ → ℕ → Bool) → length (ways_by test).of ≡ all_ways
unfolding ways_by
ways_long test = length-map (numbers 0 all_ways) (λ (n : ℕ). test (n / wide) (n % wide)) ∙ length_numbers 0 all_ways

way_of : (test : ℕ → ℕ → Bool) (i : ℕ) → i < all_ways → get_or (ways_by test).of i false ≡ test (i / wide) (i % wide)
unfolding ways_by
way_of test i h =
    numbers_at (λ (n : ℕ). test (n / wide) (n % wide)) false 0 all_ways i h
    ∙ ap (λ (n : ℕ). test (n / wide) (n % wide)) (zero_plus i)
  where
    zero_plus : (n : ℕ) → 0 + n ≡ n
    zero_plus n = omega arith

pub ways_are : (test : ℕ → ℕ → Bool) (n : ℕ) (m : Ways) → all_ways ≤ n → Filled test n m → m ≡ ways_by test
ways_are test n m h r =
    let e : m.of ≡ (ways_by test).of =
    ext_get_or false m.of (ways_by test).of (r.long ∙ sym (ways_long test))
    (λ i k. let l : i < all_ways = omega (arith, r.long) in r.each i (omega arith) ∙ sym (way_of test i l)) in
    λ i. record { of = e i }

-- THE WHOLE TABLE is what a test says
abbrev pub Full : (ℕ → ℕ → Bool) → Ways → Type 0
Full test m = Filled test all_ways m

full : (test : ℕ → ℕ → Bool) → Full test (ways_by test)
full test = record { long = ways_long test; each = way_of test }

pub full_at : (test : ℕ → ℕ → Bool) (m : Ways) (a b : ℕ) → a < wide → b < wide → Full test m → way_at m a b ≡ test a b
full_at test m a b h k v =
    let p : (a * wide + b) / wide ≡ a = omega arith in
    let q : (a * wide + b) % wide ≡ b = omega arith in
    v.each (a * wide + b) (omega arith) ∙ ap₂ test p q

pub way_at_lem : (test : ℕ → ℕ → Bool) (a b : ℕ) → a < wide → b < wide → way_at (ways_by test) a b ≡ test a b
way_at_lem test a b h k = full_at test (ways_by test) a b h k (full test)

-- two tests that agree on the numbers that it is about are one to it
pub full_same : (f g : ℕ → ℕ → Bool) (m : Ways) → ((a b : ℕ) → a < wide → b < wide → f a b ≡ g a b) → Full f m
    → Full g m
full_same f g m h v = record {
  long = v.long;
  each = λ i k. v.each i k ∙ h (i / wide) (i % wide) (omega arith) (omega arith);
}

ways_same : (f g : ℕ → ℕ → Bool) → ((a b : ℕ) → a < wide → b < wide → f a b ≡ g a b) → ways_by f ≡ ways_by g
ways_same f g h = ways_are g all_ways (ways_by f) (omega arith) (full_same f g (ways_by f) h (full f))

ways_whole : (m : Ways) → length m.of ≡ all_ways → m ≡ ways_by (way_at m)
ways_whole m h =
    ways_are (way_at m) all_ways m (omega arith)
    (record {
      long = h;
      each = λ i k. let e : i ≡ i / wide * wide + i % wide = omega arith in ap (λ (j : ℕ). get_or m.of j false) e;
    })

-- ONE PLACE IS WRITTEN: what stands there and elsewhere
set_at : (l : List Bool) (n : ℕ) (so : Bool) (test : ℕ → Bool) → n < length l → so ≡ test n → (i : ℕ)
    → ((i ≡ n → ⊥) → get_or l i false ≡ test i) → get_or (set l n so) i false ≡ test i
set_at l n so test h e i other = one (eqb i n) refl
  where
    one : (t : Bool) → eqb i n ≡ t → get_or (set l n so) i false ≡ test i
    one true q =
        let j : i ≡ n = eqb-true i n q in
        ap (λ (x : ℕ). get_or (set l n so) x false) j ∙ get_or-set_same l n so false h ∙ e ∙ ap test (sym j)
    one false q = get_or-set_other l n i so false (eqb-false i n q) ∙ other (eqb-false i n q)

-- a loop that fills one place after the other
filled_next : (test : ℕ → ℕ → Bool) (n : ℕ) (m : Ways) (so : Bool) → n < all_ways → so ≡ test (n / wide) (n % wide)
    → Filled test n m → Filled test (n + 1) (record { of = set m.of n so })
filled_next test n m so h e v = record {
  long = length-set m.of n so ∙ v.long;
  each = λ i k.
      set_at m.of n so (λ (x : ℕ). test (x / wide) (x % wide)) (omega (arith, v.long)) e i
      (λ (j : i ≡ n → ⊥). v.each i (omega arith));
}

-- the way from a to b, in a table that is whole
pub full_set : (f g : ℕ → ℕ → Bool) (m : Ways) (a b : ℕ) (so : Bool) → a < wide → b < wide → so ≡ g a b
    → ((c d : ℕ) → (a ≡ c → b ≡ d → ⊥) → f c d ≡ g c d) → Full f m
    → Full g (record { of = set m.of (a * wide + b) so })
full_set f g m a b so h k e other v =
    let p : a ≡ (a * wide + b) / wide = omega arith in
    let q : b ≡ (a * wide + b) % wide = omega arith in
    record {
      long = length-set m.of (a * wide + b) so ∙ v.long;
      each = λ i l.
          set_at m.of (a * wide + b) so (λ (x : ℕ). g (x / wide) (x % wide)) (omega (arith, v.long))
          (e ∙ ap₂ g p q) i
          (λ (j : i ≡ a * wide + b → ⊥). v.each i l
          ∙ other (i / wide) (i % wide) (λ (r : a ≡ i / wide) (s : b ≡ i % wide). j (omega arith)));
    }

-- A WAY LEADS ON from k
unfoldable pub leads_on : Ways → ℕ → Bool
leads_on m k = some (way_at m k) (down wide)

-- a loop that looks for one: the answer is that of the numbers below n
pub record LeadsYet (m : Ways) (k n : ℕ) : Type 0 where
  pub left : leads_on m k ≡ some (way_at m k) (down n)

pub leads_start : {m : Ways} {k : ℕ} → LeadsYet m k wide
unfolding leads_on
leads_start = record { left = refl }

module _ {m : Ways} {k n : ℕ} (v : LeadsYet m k n) where
  pub leads_over : n ≡ 0 → false ≡ leads_on m k
  leads_over e = sym (v.left ∙ ap (λ (i : ℕ). some (way_at m k) (down i)) e)

  -- the highest of them, of which b tells
  module _ (h : 0 < n) {b : Bool} (t : b ≡ way_at m k (n - 1)) where
    looked : leads_on m k ≡ (b || some (way_at m k) (down (n - 1)))
    looked =
        let e : n ≡ suc (n - 1) = omega arith in
        v.left ∙ ap (λ (i : ℕ). some (way_at m k) (down i)) e
        ∙ ap (λ (a : Bool). a || some (way_at m k) (down (n - 1))) (sym t)

    pub leads_found : b ≡ true → true ≡ leads_on m k
    leads_found e = sym (looked ∙ rw e)

    pub leads_further : b ≡ false → LeadsYet m k (n - 1)
    leads_further e = record { left = looked ∙ rw e }

-- some place of a row's first n has a way
some_below : (l : List Bool) (f : ℕ → Bool) (n : ℕ) → n ≤ length l → ((i : ℕ) → i < n → get_or l i false ≡ f i)
    → some (λ (b : Bool). b) (take n l) ≡ some f (down n)
some_below l f zero h e = refl
some_below l f (suc n) h e =
    ap (some (λ (b : Bool). b)) (take-suc l n false (omega arith))
    ∙ some_append (λ (b : Bool). b) (take n l) (get_or l n false ∷ [])
    ∙ or_comm (some (λ (b : Bool). b) (take n l)) (get_or l n false || false)
    ∙ ap₂ (λ (a b : Bool). a || b) (or-false (get_or l n false) ∙ e n (omega arith))
    (some_below l f n (omega arith) (λ i k. e i (omega arith)))

pub row_leads : (m : Ways) (k : ℕ) → length m.of ≡ all_ways → k < wide
    → some (λ (b : Bool). b) (take wide (drop (k * wide) m.of)) ≡ leads_on m k
unfolding leads_on
row_leads m k h l =
    some_below (drop (k * wide) m.of) (way_at m k) wide (omega (arith, length-drop (k * wide) m.of))
    (λ i j. get_or-drop (k * wide) m.of i false)

-- BY WAY OF k TOO
abbrev pub joined_by : Ways → ℕ → ℕ → ℕ → Bool
joined_by m k a b = way_at m a b || (way_at m a k && way_at m k b)

-- what a test that none below n passes says of each
pub none_below : (f : ℕ → Bool) (n : ℕ) → some f (down n) ≡ false → (k : ℕ) → k < n → f k ≡ false
none_below f zero h k l = absurd (omega arith)
none_below f (suc n) h k l = one (eqb k n) refl (none_below f n (or_right (f n) _ h) k)
  where
    one : (t : Bool) → eqb k n ≡ t → (k < n → f k ≡ false) → f k ≡ false
    one true q ih = ap f (eqb-true k n q) ∙ or_left (f n) _ h
    one false q ih = ih (omega (arith, eqb-false k n q))

-- where none leads on from k, it adds nothing
pub joined_none : (m : Ways) (k : ℕ) → length m.of ≡ all_ways → leads_on m k ≡ false → m ≡ ways_by (joined_by m k)
unfolding leads_on
joined_none m k h e =
    ways_whole m h
    ∙ ways_same (way_at m) (joined_by m k)
    (λ a b p q. rw (none_below (way_at m k) wide e b q) (none (way_at m a b) (way_at m a k)))
  where
    none : (x y : Bool) → x ≡ (x || (y && false))
    none true y = refl
    none false true = refl
    none false false = refl

-- one number more to pass
pub joined_by_lem : (w : ℕ → ℕ → Bool) (m : Ways) (k : ℕ) → k < wide → m ≡ ways_by (leads_by w (down k))
    → ways_by (joined_by m k) ≡ ways_by (leads_by w (down (k + 1)))
unfolding leads_by
joined_by_lem w m k h e =
    ways_same (joined_by m k) (leads_by w (down (k + 1)))
    (λ a b p q. rw (add-one k) (ap₂ (λ (x y : Bool). x || y) (at a b p q)
    (ap₂ (λ (x y : Bool). x && y) (at a k p h) (at k b h q))))
  where
    at : (a b : ℕ) → a < wide → b < wide → way_at m a b ≡ leads_by w (down k) a b
    at a b p q = ap (λ (x : Ways). way_at x a b) e ∙ way_at_lem (leads_by w (down k)) a b p q

-- a whole table, by way of nobody
pub ways_none : (m : Ways) → length m.of ≡ all_ways → m ≡ ways_by (leads_by (way_at m) (down 0))
unfolding leads_by
ways_none m h = ways_whole m h

pub joined_next : (m r : Ways) (k n : ℕ) → n < all_ways → Filled (joined_by m k) n r
    → Filled (joined_by m k) (n + 1)
    (record {
      of = set r.of n (get_or m.of n false
          || (get_or m.of (n / wide * wide + k) false && get_or m.of (k * wide + n % wide) false));
    })
joined_next m r k n h v =
    let e : n ≡ n / wide * wide + n % wide = omega arith in
    filled_next (joined_by m k) n r _ h
    (ap (λ (j : ℕ). get_or m.of j false
    || (get_or m.of (n / wide * wide + k) false && get_or m.of (k * wide + n % wide) false)) e) v
