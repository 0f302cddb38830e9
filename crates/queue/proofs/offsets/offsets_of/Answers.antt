use Rattle.std.proofs.Common.{rules, arith, refl}
use Rattle.lists.specs.Arrays.{mapped_length}
use Rattle.queue.proofs.Repointing.{read_next, read_over}
use Rattle.queue.proofs.offsets.offsets_of.Goals as goal

pub loop-i-init : goal.loop-i-init
loop-i-init c = record { wide = search (rules, mapped_length); long = refl; read = refl }

pub loop-i-preserved : goal.loop-i-preserved
loop-i-preserved c =
    let v = c.loop-i.invariant in
    record {
      wide = v.wide;
      long = v.long;
      read = read_next c.args.q _ _ c.loop-i.i _ (omega arith) (omega (arith, v.wide, v.long)) v.read;
    }

pub returns : goal.returns
returns c =
    let v = c.loop-i.invariant in
    read_over c.args.q _ c.loop-i.i c.loop-i.r (omega arith) (omega (arith, v.wide, v.long)) v.read
