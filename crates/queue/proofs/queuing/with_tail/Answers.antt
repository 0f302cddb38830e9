use Rattle.std.proofs.Common.{rules, arith, ◌≡◌, ◌<◌, length, get_or, take, ap, ◌∙◌, length-take}
use Rattle.std.proofs.lemmas.List.{get_or-take}
use Rattle.lists.specs.Arrays.{mapped_length}
use Rattle.lists.specs.Packed.{appended}
use Rattle.kinds.specs.Limits.{most_entries}
use Rattle.kinds.specs.declared.names.Pointed.{Pointed}
use Rattle.queue.proofs.Views.{table}
use Rattle.queue.proofs.Builds.{blank, slot_for, tailed_start, tailed_room, tailed_next, tailed_passed, tailed_end}
use Rattle.queue.proofs.queuing.with_tail.Goals.{else-not-skip-i, then-not-skip-i}
use Rattle.queue.proofs.queuing.with_tail.Goals as goal

pub loop-i-init : goal.loop-i-init
loop-i-init c =
    let n : length c.args.q.slots ≡ most_entries = search (rules, mapped_length) in
    record {
      few = c.requires.1;
      names = search (rules, mapped_length);
      flags = search (rules, mapped_length);
      tailed = tailed_start c.requires.0 n c.requires.2;
    }

pub push-requires : goal.push-requires
push-requires c =
    let v = c.loop-i.invariant in
    let here : c.loop-i.i < c.args.l.count = omega (arith, length-take {A = Pointed}) in
    tailed_room v.tailed here (omega arith) (omega arith) _ c.if-not-skip-i.true

pub loop-i-preserved : goal.loop-i-preserved
loop-i-preserved c =
    let v = c.loop-i.invariant in
    let l = c.args.l in
    let i = c.loop-i.i in
    let here : i < l.count = omega (arith, length-take {A = Pointed}) in
    let asked : get_or (take l.count l.names) i blank ≡ get_or l.names i blank =
    get_or-take l.count l.names i blank here in
    record {
      few = v.few;
      names = v.names;
      flags = v.flags;
      tailed = elim c.if-not-skip-i.branch [
        | then-not-skip-i w ↦ tailed_next v.tailed here (omega arith) (omega arith) _ w.if-not-skip-i.true blank
            (w.r-is ∙ w.push.ensures ∙ ap (λ (x : Pointed). appended table c.loop-i.r (slot_for c.args.c.0 x)) asked)
        | else-not-skip-i w ↦ tailed_passed v.tailed here (omega arith) (omega arith) _ w.if-not-skip-i.false w.r-is
      ];
    }

pub returns : goal.returns
returns c =
    let over : c.loop-i.i ≡ c.args.l.count = omega (arith, length-take {A = Pointed}) in
    tailed_end c.loop-i.invariant.tailed over
