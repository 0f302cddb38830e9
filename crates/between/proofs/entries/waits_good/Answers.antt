-- Each task is tested beside its mark.
use Rattle.std.proofs.Common.{◌≡◌, ◌≤◌, Bool, false, ◌+◌, length, drop, sym, ◌∙◌, rules}
use Rattle.std.proofs.lemmas.Iterator.{YieldsList-from_slice, YieldsList-from_zip}
use Rattle.std.proofs.lemmas.Iterator.Search.{all_from_yields_List}
use Rattle.lists.specs.Arrays.{mapped_length}
use Rattle.lists.specs.Lists.{alike}
use Rattle.kinds.specs.Limits.{highest_task}
use Rattle.kinds.specs.Tasks.{in_resource_wait}
use Rattle.kinds.specs.declared.tasks.Task.{Task}
use Rattle.between.proofs.Both.{every_beside, rest_from, waits_are}
use Rattle.between.proofs.entries.waits_good.Goals as goal

pub returns : goal.returns
returns c =
    let ts = c.args.f.places in
    let m = c.lacking-lacking.result.tasks in
    let test = λ (x : Task) (lacks : Bool). alike (in_resource_wait x.condition) lacks in
    let long : length ts ≡ highest_task = search (rules, mapped_length) in
    let few : 1 + length ts ≤ length m = search rules in
    waits_are _ _ _ _ _ long c.all_marks.ensures c.lacking-lacking.ensures
    (sym (all_from_yields_List (λ (p : Task × Bool). test p.0 p.1) c.all.new.self _ _ c.all.ensures.ran
    (YieldsList-from_zip (YieldsList-from_slice ts (search rules))
    (YieldsList-from_slice (drop 1 m) (c.zip.ensures.second.0 ∙ rest_from 1 m)))
    (λ x b q k. search rules)
    ∙ every_beside test false ts m 1 few))
