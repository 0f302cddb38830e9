-- An area that is too short stays as it is; in any other the bytes stand at the front.
use Rattle.std.proofs.Common.{List, ℕ, ◌++◌, length, take, drop, ap, ◌∙◌}
use Rattle.rings.proofs.Items.{area_short, area_filled}
use Rattle.rings.proofs.listing.written.Goals as goal

pub returns-then-area-bytes : goal.returns-then-area-bytes
returns-then-area-bytes c =
    let p = area_short c.args.l.now c.args.area.now c.if-area-bytes.true in
    record { value = p.0; area_after = p.1 }

pub returns : goal.returns
returns c =
    let l = c.args.l.now in
    let area = c.args.area.now in
    let p = area_filled l area c.if-area-bytes.false in record {
      value = p.0;
      area_after =
          ap (λ (bs : List ℕ). bs ++ drop (length (take l.count l.bytes)) area) c.copy_from_slice.ensures.after ∙ p.1;
    }
