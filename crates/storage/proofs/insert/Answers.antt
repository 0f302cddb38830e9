-- The place that is found is the rank, and an insertion at the rank is one in address order.
use Rattle.std.proofs.Common.{◌≡◌, ap, ◌∙◌, arith, set, length, ◌+◌, List}
use Rattle.std.specs.Option.{unwrap_or}
use Rattle.lists.specs.Packed.{stored_count}
use Rattle.kinds.specs.declared.areas.Area.{Area}
use Rattle.storage.specs.Changes.{rank_in, inserted_at}
use Rattle.storage.specs.Kept.{table}
use Rattle.storage.specs.Stored.{stored_areas, areas_in}
use Rattle.storage.proofs.Growing.{put_in}
use Rattle.storage.proofs.Ranks.{inserted_rank, rank_place, rank_within}
use Rattle.storage.proofs.insert.Goals as goal

pub returns : goal.returns
returns c =
    let s = c.args.s in
    let a = c.args.a in
    let l = areas_in s in
    let i = c.unwrap_or-at.result in
    let n : s.count ≡ length l = stored_count table l s c.requires.0.form in
    let e : i ≡ rank_in a l =
    c.unwrap_or-at.ensures ∙ ap (λ o. unwrap_or o s.count) c.above.ensures ∙ rank_place a l s.count n in
    ap (λ (u : List Area). record { areas = set u i a; count = s.count + 1 }) c.copy_within.ensures.after
    ∙ put_in s c.requires.0 c.requires.1 a i (omega (arith, rank_within a l))
    ∙ ap (λ j. stored_areas (inserted_at j a l)) e
    ∙ ap stored_areas (inserted_rank a l)
