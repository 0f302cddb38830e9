-- The list of a report, as it grows item by item, and what comes of it in an area.
use mathlib.Core.Path.{◌≡◌, refl, sym, ap, ap₂, ◌∙◌}
use mathlib.Core.List.{List, [], ◌∷◌, ◌++◌, append-nil}
use Prim.Native.Nat.{ℕ, suc, ◌+◌, ◌≤◌, ◌<◌}
use native.Mathlib.Omega.{arith}
use lib.ListN.{length, take, drop, set, length-append, length-set, take-append-drop}
use native.Mathlib.Numerals.{add-one}
use borrow.Rule.Slice.PartMut.{put_mid}
use lib.Seq.{append_snoc, take-suc-set, drop-set-lt, drop-cons}
use borrow.Author.Tests.{lt-ltb, le-ltb}
use Rattle.lists.specs.Lists.{gathered}
use Rattle.lists.specs.Pick.{on_true, on_false}
use Rattle.lists.specs.Tables.{padded_take, push, one_longer}
use Rattle.laws.specs.Gathering.{gathered_next}
use Rattle.rules.specs.Codes.{written_on}
use Rattle.kinds.specs.declared.replies.Refusal.TheVariants.{ShortArea}
use Rattle.kinds.specs.declared.replies.Reply.TheVariants.{Counted, Refused}
use Rattle.rules.specs.Reports.{ItemList, itemised}
use Rattle.rings.specs.Listings.{most_bytes, stored_items, items_in, with_byte, with_bytes, with_item}
use Rattle.rings.specs.Listings.{with_items, report_reply, report_written}
use Rattle.rings.specs.declared.listing.Listing.{Listing}

-- what is kept stands there again
items_back : (r : ItemList) → items_in (stored_items r) ≡ r
items_back r = λ i. record { items = r.items; bytes = padded_take most_bytes 0 r.bytes i }

pub items_of : (r : ItemList) (l : Listing) → l ≡ stored_items r → items_in l ≡ r
items_of r l e = ap items_in e ∙ items_back r

-- one byte more, several, and an item
byte_stored : (k : ℕ) (bs : List ℕ) (b : ℕ) → length bs < most_bytes
    → with_byte (stored_items (record { items = k; bytes = bs })) b
    ≡ stored_items (record { items = k; bytes = bs ++ (b ∷ []) })
byte_stored k bs b h = λ i. record {
  bytes = push most_bytes 0 bs b h i;
  count = one_longer most_bytes 0 bs b i;
  items = k;
}

bytes_stored : (k : ℕ) (bs item : List ℕ) → length bs + length item ≤ most_bytes
    → with_bytes (stored_items (record { items = k; bytes = bs })) item
    ≡ stored_items (record { items = k; bytes = bs ++ item })
bytes_stored k bs [] h = ap (λ (r : List ℕ). stored_items (record { items = k; bytes = r })) (sym (append-nil bs))
bytes_stored k bs (b ∷ item) h =
    ap (λ (l : Listing). with_bytes l item) (byte_stored k bs b (omega arith))
    ∙ bytes_stored k (bs ++ (b ∷ [])) item (omega (arith, length-append bs (b ∷ [])))
    ∙ ap (λ (r : List ℕ). stored_items (record { items = k; bytes = r })) (append_snoc bs b item)

pub item_stored : (r : ItemList) (item : List ℕ) (l s : Listing) → length r.bytes + length item ≤ most_bytes
    → l ≡ stored_items r → s ≡ with_item l item
    → s ≡ stored_items (record { items = r.items + 1; bytes = r.bytes ++ item })
item_stored r item l s h e f =
    f
    ∙ ap (λ (m : Listing). with_item m item) e
    ∙ ap (λ (m : Listing). record { bytes = m.bytes; count = m.count; items = r.items + 1 })
    (bytes_stored r.items r.bytes item h)

-- the bytes of an item, written at once
pub item_put : (l : Listing) (item : List ℕ) → l.count + length item ≤ length l.bytes
    → record { bytes = put_mid l.count (length item) l.bytes item; count = l.count + length item; items = l.items }
    ≡ with_bytes l item
item_put l [] h =
    let n : l.count + 0 ≡ l.count = omega arith in
    λ i. record { bytes = take-append-drop l.count l.bytes i; count = n i; items = l.items }
item_put l (b ∷ item) h =
    let n : l.count + 1 + length item ≡ l.count + length (b ∷ item) = omega arith in
    let t : take (l.count + 1) (set l.bytes l.count b) ≡ take l.count l.bytes ++ (b ∷ []) =
    ap (λ (k : ℕ). take k (set l.bytes l.count b)) (add-one l.count) ∙ take-suc-set l.bytes l.count b (omega arith) in
    let d : drop (l.count + 1) (set l.bytes l.count b) ≡ drop (suc l.count) l.bytes =
    drop-set-lt (l.count + 1) l.bytes l.count b (omega arith) ∙ ap (λ (k : ℕ). drop k l.bytes) (add-one l.count) in
    let c : drop (length (b ∷ item)) (drop l.count l.bytes) ≡ drop (length item) (drop (suc l.count) l.bytes) =
    ap (drop (length (b ∷ item))) (drop-cons l.bytes l.count 0 (omega arith)) in
    let e = ap₂ (λ (r s : List ℕ). r ++ (item ++ s)) t (ap (drop (length item)) d ∙ sym c)
    ∙ append_snoc (take l.count l.bytes) b (item ++ drop (length (b ∷ item)) (drop l.count l.bytes)) in
    sym (λ i. record { bytes = e i; count = n i; items = l.items })
    ∙ item_put (with_byte l b) item (omega (arith, length-set l.bytes l.count b))

-- the list of some things, with one more
module _ {A : Type 0} (item : A → List ℕ) (xs : List A) (l : Listing) (e : l ≡ stored_items (itemised item xs)) where
  pub items_count : l.count ≡ length (gathered item xs)
  items_count = ap (λ (m : Listing). m.count) e

  pub items_many : l.items ≡ length xs
  items_many = ap (λ (m : Listing). m.items) e

  pub items_next : (x : A) (s : Listing) → length (gathered item xs) + length (item x) ≤ most_bytes
      → s ≡ with_item l (item x) → s ≡ stored_items (itemised item (xs ++ (x ∷ [])))
  items_next x s h f =
      item_stored (itemised item xs) (item x) l s h e f
      ∙ ap₂ (λ (k : ℕ) (bs : List ℕ). stored_items (record { items = k; bytes = bs })) (sym (length-append xs (x ∷ [])))
      (sym (gathered_next item xs x))

-- several more
pub items_stored : {A : Type 0} (item : A → List ℕ) (xs ys : List A) (l s : Listing)
    → length (gathered item xs) + length (gathered item ys) ≤ most_bytes
    → l ≡ stored_items (itemised item xs) → s ≡ with_items item l ys → s ≡ stored_items (itemised item (xs ++ ys))
items_stored {A} item xs [] l s h e f =
    f ∙ e ∙ ap (λ (zs : List A). stored_items (itemised item zs)) (sym (append-nil xs))
items_stored {A} item xs (y ∷ ys) l s h e f =
    let m = length-append (item y) (gathered item ys) in
    let n = length-append (gathered item xs) (item y) in
    let k : length (gathered item (xs ++ (y ∷ []))) ≡ length (gathered item xs ++ item y) =
    ap length (gathered_next item xs y) in
    items_stored item (xs ++ (y ∷ [])) ys (with_item l (item y)) s (omega arith)
    (items_next item xs l e y (with_item l (item y)) (omega arith) refl) f
    ∙ ap (λ (zs : List A). stored_items (itemised item zs)) (append_snoc xs y ys)

-- what comes of it in an area that is too short, and in one with room
module _ (l : Listing) (area : List ℕ) where
  pub area_short : length area < length (items_in l).bytes
      → (Refused ShortArea ≡ report_reply (items_in l) (length area)) × (area ≡ report_written (items_in l) area)
  unfolding report_reply report_written
  area_short k =
      let t = lt-ltb (length area) (length (items_in l).bytes) k in
      (on_true _ _ _ _ t refl, on_true _ _ _ _ t refl)

  pub area_filled : length (items_in l).bytes ≤ length area
      → (Counted l.items ≡ report_reply (items_in l) (length area))
      × ((items_in l).bytes ++ drop (length (items_in l).bytes) area ≡ report_written (items_in l) area)
  unfolding report_reply report_written written_on
  area_filled k =
      let t = le-ltb (length area) (length (items_in l).bytes) k in
      (on_false _ _ _ _ t refl, on_false _ _ _ _ t refl)
