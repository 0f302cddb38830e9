-- Each task is tested beside its count.
use Rattle.std.proofs.Common.{◌≡◌, ◌≤◌, ℕ, ◌+◌, length, drop, ◌∙◌, rules}
use Rattle.std.proofs.lemmas.Iterator.{YieldsList-from_slice, YieldsList-from_zip}
use Rattle.std.proofs.lemmas.Iterator.Search.{all_from_yields_List}
use Rattle.lists.specs.Arrays.{mapped_length}
use Rattle.kinds.specs.Limits.{highest_task}
use Rattle.kinds.specs.declared.tasks.Task.{Task}
use Rattle.rules.specs.SoundEcbs.{need_good}
use Rattle.between.specs.Sound.{need_from, needs_from}
use Rattle.between.proofs.Both.{every_beside, rest_from}
use Rattle.between.proofs.waiters.needs_good.Goals as goal

pub returns : goal.returns
unfolding need_from
returns c =
    let ts = c.args.f.places in
    let t = c.waited_on-waited_on.result.ecbs in
    let test = λ (x : Task) (has : ℕ). need_good x.condition has in
    let long : length ts ≡ highest_task = search (rules, mapped_length) in
    let few : 1 + length ts ≤ length t = search rules in
    all_from_yields_List (λ (p : Task × ℕ). test p.0 p.1) c.all.new.self _ _ c.all.ensures.ran
    (YieldsList-from_zip (YieldsList-from_slice ts (search rules))
    (YieldsList-from_slice (drop 1 t) (c.zip.ensures.second.0 ∙ rest_from 1 t)))
    (λ x b q k. search rules)
    ∙ every_beside test 0 ts t 1 few
    ∙ needs_from _ _ _ c.waited_on-waited_on.ensures long
