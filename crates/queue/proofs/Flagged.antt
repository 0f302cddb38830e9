-- The flags of the names beside a request, and the searches that find them.
use mathlib.Core.Path.{◌≡◌, refl, sym, ap, ◌∙◌}
use mathlib.Core.Bool.{Bool, true, false, ◌&&◌, ◌||◌}
use mathlib.Core.List.{List, [], ◌∷◌, map, map-map}
use Prim.Native.Nat.{ℕ, ◌≤◌, ◌<◌}
use lib.ListN.{length, get_or, take, length-map, get_or-map}
use lib.Seq.{length-take-le}
use Rattle.std.specs.List.{list_all, zip}
use native.Mathlib.Omega.{arith}
use Rattle.lists.specs.Lists.{every, unskipped}
use Rattle.lists.specs.Keeping.{take_map}
use Rattle.lists.specs.Skipping.{unskipped_map}
use Rattle.lists.specs.Tables.{padded, padded_take}
use Rattle.lists.specs.Every.{every_of}
use Rattle.lists.specs.Filling.{filled_at}
use Rattle.kinds.specs.Limits.{longest_list}
use Rattle.kinds.specs.declared.names.Pointed.{Pointed}
use Rattle.kinds.specs.declared.names.PointedList.{PointedList}
use Rattle.names.specs.Pointers.{pointed_ask, pointed_in}
use Rattle.rules.specs.Names.{Ask}
use Rattle.rules.specs.Control.{Entry, control, available}
use Rattle.queue.specs.Flagging.{flags_of, all_set_but}
use Rattle.queue.specs.declared.looks.Flags.{Flags}

-- the names within the count are as many as it says
pub asks_length : (l : PointedList) → l.count ≤ length l.names → length (pointed_in l).asks ≡ l.count
asks_length l h = length-take-le l.count (map pointed_ask l.names) (rw (length-map l.names pointed_ask) h)

pub flags_are : (f : Ask → Bool) (l : PointedList) (r : Flags)
    → r.of ≡ padded longest_list false (map (λ (w : Pointed). f (pointed_ask w)) (take l.count l.names))
    → r ≡ flags_of f (pointed_in l)
unfolding flags_of
flags_are f l r e =
    let shown : map f (pointed_in l).asks ≡ map (λ (w : Pointed). f (pointed_ask w)) (take l.count l.names) =
    ap (map f) (take_map pointed_ask l.count l.names) ∙ map-map f pointed_ask (take l.count l.names) in
    let all = e ∙ sym (ap (padded longest_list false) shown) in
    λ j. record { of = all j }

-- the flag of one name
pub flag_at : (f : Ask → Bool) (l : PointedList) (r : Flags) (i : ℕ) (d : Pointed) (e : Bool)
    → r ≡ flags_of f (pointed_in l) → i < l.count → l.count ≤ length l.names
    → get_or r.of i e ≡ f (pointed_ask (get_or l.names i d))
unfolding flags_of
flag_at f l r i d e v h k =
    let n : l.count ≤ length (map pointed_ask l.names) = rw length-map k in
    ap (λ (x : Flags). get_or x.of i e) v
    ∙ filled_at f longest_list false (map pointed_ask l.names) l.count i (pointed_ask d) e h n
    ∙ ap f (get_or-map pointed_ask l.names i d)

-- a request is tested as an entry at the tail would be
pub tail_available : (q : List Entry) (t : ℕ) (a : Ask)
    → available q a ≡ control q (record { task = t; exclusive = a.exclusive; name = a.name })
unfolding available control
tail_available q t a = refl

-- each flag is set or skipped
pub but_skipped : (l skip : List Bool) → length l ≤ length skip
    → list_all (λ (p : Bool × Bool). p.1 || p.0) (zip l skip) ≡ every (λ (b : Bool). b) (unskipped skip l)
but_skipped [] skip h = refl
but_skipped (x ∷ l) [] h = absurd (omega arith)
but_skipped (x ∷ l) (true ∷ skip) h = but_skipped l skip (omega arith)
but_skipped (x ∷ l) (false ∷ skip) h = ap (λ (b : Bool). x && b) (but_skipped l skip (omega arith))

-- the flags of all names
module _ (f : Ask → Bool) (l : PointedList) (r : Flags) (e : r ≡ flags_of f (pointed_in l))
    (h : l.count ≤ length l.names) where
  flags_taken : take l.count r.of ≡ map f (pointed_in l).asks
  unfolding flags_of
  flags_taken =
      let n : l.count ≡ length (map f (pointed_in l).asks) =
      sym (length-map (pointed_in l).asks f ∙ asks_length l h) in
      ap (λ (x : Flags). take l.count x.of) e
      ∙ ap (λ (k : ℕ). take k (padded longest_list false (map f (pointed_in l).asks))) n
      ∙ padded_take longest_list false (map f (pointed_in l).asks)

  -- all are set but those that are skipped
  pub flags_but : (skip : Flags) → all_set_but r skip l.count ≡ every f (unskipped skip.of (pointed_in l).asks)
  unfolding all_set_but
  flags_but skip =
      ap (λ (k : List Bool). every (λ (b : Bool). b) (unskipped skip.of k)) flags_taken
      ∙ ap (every (λ (b : Bool). b)) (unskipped_map f skip.of (pointed_in l).asks)
      ∙ every_of f (λ (b : Bool). b) (unskipped skip.of (pointed_in l).asks)
