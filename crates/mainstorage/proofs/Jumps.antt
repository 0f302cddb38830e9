-- An area in the way stays in the way up to its bar, and the search may go on there.
use mathlib.Core.Path.{◌≡◌, ap, ◌∙◌}
use mathlib.Core.Bool.{Bool, true, false, ◌&&◌, ◌||◌, and-false}
use mathlib.Core.List.{List}
use Prim.Native.Nat.{ℕ, ◌+◌, ◌-◌, ◌*◌, ◌/◌, ◌%◌, ◌≤◌, ◌<◌}
use native.Mathlib.Omega.{arith}
use lib.Dec.{leb}
use borrow.Author.Tests.{leb-false, lt-leb}
use Rattle.lists.specs.Pick.{pick}
use Rattle.lists.specs.Lists.{every}
use Rattle.lists.specs.Bools.{or_left, or_right}
use Rattle.kinds.specs.Limits.{region, page, doubleword}
use Rattle.kinds.specs.declared.areas.Area.{Area}
use Rattle.rules.specs.Storage.{start_of, past_end, past_page, first_page, one_holder, bytes_apart, pages_apart, apart}
use Rattle.rules.specs.Storage.{permitted, placed_at, lowest_from}
use Rattle.laws.specs.Candidates.{is_candidate, aligned_end}
use Rattle.mainstorage.specs.Bars.{bar_of, next_at}
use Rattle.mainstorage.specs.OneOf.{OneOf, one_fails}
use Rattle.mainstorage.specs.Tries.{tries_left}
use Rattle.mainstorage.proofs.Passed.{lowest_over, multiples_from}
use Rattle.mainstorage.proofs.Landing.{onward, falls, candidate}

-- two ranges that meet, of bytes or of pages: neither ends before the other begins
meet : (a b c d : ℕ) → (leb a b || leb c d) ≡ false → (b < a) × (d < c)
meet a b c d e =
    (leb-false a b (or_left (leb a b) (leb c d) e), leb-false c d (or_right (leb a b) (leb c d) e))

bytes_of : (b p : Bool) → (b && (true || p)) ≡ false → b ≡ false
bytes_of true p e = e
bytes_of false p e = e

pages_of : (b p : Bool) → (b ≡ false → p ≡ false) → (b && p) ≡ false → p ≡ false
pages_of true p f e = e
pages_of false p f e = f e

-- ONE AREA x, and the area w wanted at s and further up at u
module _ (w x : Area) where
  -- what they have in common at s: a byte where they are of one holder, else a page
  abbrev Shared : Bool → ℕ → Type 0
  Shared true s = (start_of x < s + w.size) × (s < past_end x)
  Shared false s = (first_page x < past_page (placed_at w s)) × (s / page < past_page x)

  abbrev bytes : ℕ → Bool
  bytes s = bytes_apart (placed_at w s) x

  abbrev pages : ℕ → Bool
  pages s = pages_apart (placed_at w s) x

  bytes_shared : (s : ℕ) → bytes s ≡ false → Shared true s
  unfolding bytes_apart
  bytes_shared s e = meet (s + w.size) (start_of x) (past_end x) s e

  bytes_met : (s : ℕ) → Shared true s → bytes s ≡ false
  unfolding bytes_apart
  bytes_met s h = rw (lt-leb _ _ h.0, lt-leb _ _ h.1)

  pages_shared : (s : ℕ) → pages s ≡ false → Shared false s
  unfolding pages_apart
  pages_shared s e = meet (past_page (placed_at w s)) (first_page x) (past_page x) (s / page) e

  pages_met : (s : ℕ) → Shared false s → pages s ≡ false
  unfolding pages_apart
  pages_met s h = rw (lt-leb _ _ h.0, lt-leb _ _ h.1)

  -- a byte in common is in a page in common
  page_of_byte : (s : ℕ) → bytes s ≡ false → pages s ≡ false
  page_of_byte s e = let h = bytes_shared s e in pages_met s (omega arith, omega arith)

  -- the bar lies above, and x stands in the way up to it
  in_way : (s : ℕ) → apart (placed_at w s) x ≡ false
      → (s < bar_of w x) × ((u : ℕ) → s ≤ u → u < bar_of w x → apart (placed_at w u) x ≡ false)
  unfolding apart one_holder bar_of pick
  in_way s e = one (one_holder w x) e
    where
      one : (o : Bool) → (bytes s && (o || pages s)) ≡ false
          → (s < pick o (past_end x) (past_page x * page))
          × ((u : ℕ) → s ≤ u → u < pick o (past_end x) (past_page x * page) → (bytes u && (o || pages u)) ≡ false)
      one true f =
          let h = bytes_shared s (bytes_of (bytes s) (pages s) f) in (h.1, λ u k m. rw (bytes_met u (omega arith, m)))
      one false f =
          let h = pages_shared s (pages_of (bytes s) (pages s) (page_of_byte s) f) in
          (omega arith, λ u k m. rw (pages_met u (omega arith, omega arith)) (and-false (bytes u)))

-- THE JUMP from s to u, past an area of l that is in the way
pub record Jumped (l : List Area) (w : Area) (s u : ℕ) : Type 0 where
  pub further : s < u
  pub aligned : u % doubleword ≡ 0
  -- the plain search from u on finds what that from s on finds
  pub same : lowest_from (multiples_from s) l w s ≡ lowest_from (multiples_from u) l w u
  pub fewer : tries_left l u < tries_left l s
  pub candidate : every aligned_end l ≡ true → u < region → is_candidate l u ≡ true

pub jumped : {l : List Area} {x : Area} → OneOf l x → (w : Area) (s u : ℕ) → s % doubleword ≡ 0
    → s < region → apart (placed_at w s) x ≡ false → u ≡ next_at (bar_of w x) → Jumped l w s u
unfolding permitted
jumped {l} {x} held w s u aligned inside e q =
    let g = in_way w x s e in
    let o = onward (bar_of w x) u q in
    let m : s < u = o.further s inside g.0 in
    let d = (u - s) / doubleword in
    let k : multiples_from s ≡ d + multiples_from u = omega (arith, o.aligned, o.inside) in
    let v : s + doubleword * d ≡ u = omega (arith, o.aligned) in
    let r = lowest_over l w (bar_of w x) (multiples_from u) d s (omega (arith, o.near))
    (λ y h i. rw (one_fails held (apart (placed_at w y)) (g.1 y h i)) (and-false (leb (y + w.size) region))) in
    record {
      further = m;
      aligned = o.aligned;
      same = ap (λ (i : ℕ). lowest_from i l w s) k ∙ r ∙ ap (lowest_from (multiples_from u) l w) v;
      fewer = falls l w x held u q s m;
      candidate = candidate l w x held u q;
    }
