-- What `repack` leaves: where each name stands anew, and the area.
use mathlib.Core.Path.{◌≡◌, refl, sym, ap, subst, ◌∙◌}
use mathlib.Core.List.{List, ◌++◌}
use Prim.Native.Nat.{ℕ, ◌≤◌}
use lib.ListN.{length, take, drop}
use lib.Seq.{take_at, length-take-le}
use Rattle.kinds.specs.Limits.{name_area}
use Rattle.namearea.specs.Scanning.{area_for, points_for, names_of}
use Rattle.namearea.specs.Packing.{Clear}
use Rattle.namearea.specs.declared.area.NameArea.{NameArea}
use Rattle.queue.specs.Queues.{entries_in, stored_entries}
use Rattle.queue.specs.Pointing.{offsets_in, pointed_by}
use Rattle.tables.specs.Tables.{put_queue}
use Rattle.services.specs.Naming.{repacked}
use Rattle.services.proofs.Names.{offsets_read, offsets_full, points_long, area_none}
use borrow.Author.Rules.{rules}
use Rattle.services.proofs.naming.packed_anew.Goals as goal

pub slice_bounds-repack-end : goal.slice_bounds-repack-end
slice_bounds-repack-end c =
    let q = c.args.t.queue in
    let at = c.offsets_of-at.result in
    let h : q.count ≤ length at.of = offsets_full q at c.requires.0 c.offsets_of-at.ensures in
    let k : length (take q.count at.of) ≡ q.count = length-take-le q.count at.of h in
    search (rules, k)

pub slice_bounds-repack-end-3 : goal.slice_bounds-repack-end-3
slice_bounds-repack-end-3 c =
    let q = c.args.t.queue in
    let at = c.offsets_of-at.result in
    let h : q.count ≤ length at.of = offsets_full q at c.requires.0 c.offsets_of-at.ensures in
    let k : length (take q.count at.of) ≡ q.count = length-take-le q.count at.of h in
    search (rules, k)

pub repack-requires : goal.repack-requires
repack-requires c =
    let o = offsets_read c.args.t.queue _ c.offsets_of-at.ensures in (
      subst (Clear name_area _) (sym o) c.requires.1,
      search rules,
      refl,
      ap (λ (a : NameArea). a.bytes)
          c.empty-names.ensures ∙ area_none,
    )

pub with_offsets-requires : goal.with_offsets-requires
with_offsets-requires c = c.requires.0

pub returns : goal.returns
unfolding repacked
returns c =
    let q = c.args.t.queue in
    let at = c.offsets_of-at.result in
    let old = c.args.old in
    let o : take q.count at.of ≡ offsets_in q = offsets_read q at
    c.offsets_of-at.ensures in
    let ns : names_of old.bytes (take q.count at.of) ≡ names_of old.bytes (offsets_in q) = ap
    (names_of old.bytes) o in
    let e = c.repack.ensures in
    let h : q.count ≤ length at.of = offsets_full q at c.requires.0
    c.offsets_of-at.ensures in
    let z : length (points_for (names_of old.bytes (take q.count at.of))) ≡ q.count =
    points_long old.bytes (take q.count at.of) ∙ length-take-le q.count at.of h in
    let w = ap (λ (x : List ℕ). take q.count (x ++ drop q.count at.of)) e.0
    ∙ take_at (points_for (names_of old.bytes (take q.count at.of))) _ q.count z ∙ ap points_for ns in
    λ i. record {
      all = (c.put_queue.ensures ∙ ap (put_queue c.args.t)
          (c.with_offsets.ensures ∙ ap (λ (os : List ℕ). stored_entries (pointed_by os (entries_in q))) w)) i;
      names = record { bytes = (e.1 ∙ ap (area_for name_area) ns) i };
    }
