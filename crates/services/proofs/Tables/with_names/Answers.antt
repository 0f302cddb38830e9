-- The names are looked up; the body goes by their offsets; then the new ones are appended, or what is left is packed.
use Prim.Native.Nat.{◌≤◌}
use native.Mathlib.Omega.{arith}
use lib.ListN.{length}
use borrow.Author.Rules.{rules}
use mathlib.Core.Path.{◌≡◌}
use Rattle.kinds.specs.Limits.{longest_list}
use Rattle.lists.specs.Arrays.{mapped_length}
use Rattle.ecbs.specs.Blocks.{ecbs_in}
use Rattle.services.proofs.Served.{named_good, named_in_use, named_behind, named_left, named_answers, named_room}
use Rattle.services.proofs.Served.{named_legal, named_few, joined_answers}
use Rattle.services.proofs.Tables.with_names.Goals.{Start}
use Rattle.services.proofs.Tables.with_names.Goals as goal

list-long : (c : Start) → c.args.names.count ≤ length c.args.names.names
list-long c =
    let g : length c.args.names.names ≡ longest_list = search (rules, mapped_length) in
    let f = named_few c.args.self c.args.request c.args.names c.requires.0 c.requires.1 in
    omega (arith, f)

pub points_of-p-requires : goal.points_of-p-requires
points_of-p-requires c = record {
  in_use = named_in_use c.args.self
      c.args.request
      c.args.names
      (ecbs_in c.args.ecbs)
      c.args.codes.now
      c.requires.0
      c.requires.1
      (list-long (goal.at.points_of-p-requires c).Start) _
      c.offsets_of-at.ensures;
  l_value = named_good
      c.args.self
      c.args.request
      c.args.names
      (ecbs_in c.args.ecbs)
      c.args.codes.now
      c.requires.0
      c.requires.1
      (list-long (goal.at.points_of-p-requires c).Start);
}

pub worked-k-requires : goal.worked-k-requires
worked-k-requires c = named_behind c.args.self c.args.request c.args.names (ecbs_in c.args.ecbs)
    c.args.codes.now c.requires.0 c.requires.1
    (list-long (goal.at.worked-k-requires c).Start) _
    c.offsets_of-at.ensures _
    c.points_of-p.ensures

pub joined-requires : goal.joined-requires
joined-requires c = (
  named_legal c.args.self
      c.args.request
      c.args.names
      (ecbs_in c.args.ecbs)
      c.args.codes.now
      c.requires.0 c.requires.1
      (list-long (goal.at.joined-requires c).Start),
  named_few
      c.args.self c.args.request c.args.names
      c.requires.0 c.requires.1,
  named_room
      c.args.self c.args.request c.args.names
      (ecbs_in c.args.ecbs)
      c.args.codes.now
      c.requires.0 c.requires.1
      (list-long (goal.at.joined-requires c).Start) _ c.offsets_of-at.ensures _
      c.points_of-p.ensures
      c.worked-k.result.reply _ _
      c.worked-k.ensures (omega arith),
)

pub returns-then-self-k : goal.returns-then-self-k
returns-then-self-k c =
    joined_answers c.args.self
    c.args.request
    c.args.names
    (ecbs_in c.args.ecbs)
    c.args.codes.now
    c.requires.0
    c.requires.1
    (list-long (goal.at.returns-then-self-k c).Start) _
    c.offsets_of-at.ensures _
    c.points_of-p.ensures
    c.worked-k.result.reply _ _
    c.worked-k.ensures (omega arith)
    _ _ c.joined.ensures c.answering.ensures

pub left-requires : goal.left-requires
left-requires c = named_left c.args.self
    c.args.request
    c.args.names
    (ecbs_in c.args.ecbs)
    c.args.codes.now
    c.requires.0
    c.requires.1
    (list-long (goal.at.left-requires c).Start) _
    c.offsets_of-at.ensures _ c.points_of-p.ensures c.worked-k.result.reply _ _ c.worked-k.ensures (omega arith)

pub returns : goal.returns
returns c = named_answers c.args.self
    c.args.request
    c.args.names
    (ecbs_in c.args.ecbs)
    c.args.codes.now
    c.requires.0
    c.requires.1
    (list-long (goal.at.returns c).Start) _
    c.offsets_of-at.ensures _
    c.points_of-p.ensures
    c.worked-k.result.reply _ _
    c.worked-k.ensures (omega arith) _ _
    c.left.ensures c.answering-2.ensures
