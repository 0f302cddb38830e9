-- The bytes that are copied are those of the item, and there is room for them.
use Rattle.std.proofs.Common.{◌≡◌, ℕ, ◌+◌, ◌-◌, List, length, ap, ap₂, ◌∙◌, arith, rules}
use borrow.Rule.Slice.PartMut.{put_mid}
use Rattle.rings.specs.Listings.{most_bytes}
use Rattle.rings.specs.declared.listing.Listing.{Listing}
use Rattle.rings.proofs.Items.{item_put}
use Rattle.rings.proofs.listing.Listing.push.Goals as goal

pub returns : goal.returns
returns c =
    let l = c.args.self.now in
    let item = c.args.item.now in
    let n : l.count + length item - l.count ≡ length item = omega arith in
    let k : length l.bytes ≡ most_bytes = search rules in
    ap (λ (m : Listing). record { bytes = m.bytes; count = m.count; items = l.items + 1 })
    (ap₂ (λ (j : ℕ) (ys : List ℕ). record {
      bytes = put_mid l.count j l.bytes ys;
      count = l.count + length item;
      items = l.items;
    }) n c.copy_from_slice.ensures.after ∙ item_put l item (omega arith))
