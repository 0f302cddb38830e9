-- Where no names are asked for, what is left is packed.
use Rattle.names.specs.Named.{names_in}
use Rattle.ecbs.specs.Blocks.{ecbs_in}
use Rattle.services.proofs.Served.{unnamed_behind, unnamed_left, unnamed_answers}
use Rattle.services.proofs.Tables.unnamed.Goals as goal

pub worked-k-requires : goal.worked-k-requires
worked-k-requires c = unnamed_behind c.args.self
    c.args.request (names_in c.args.names)
    (ecbs_in c.args.ecbs) c.args.codes.now
    c.requires.0 c.requires.1 _

pub left-requires : goal.left-requires
left-requires c =
    unnamed_left c.args.self
    c.args.request
    (names_in c.args.names)
    (ecbs_in c.args.ecbs)
    c.args.codes.now
    c.requires.0
    c.requires.1 _
    c.no_names.ensures c.worked-k.result.reply _ _
    c.worked-k.ensures

pub returns : goal.returns
returns c =
    unnamed_answers c.args.self
    c.args.request
    (names_in c.args.names)
    (ecbs_in c.args.ecbs)
    c.args.codes.now
    c.requires.0
    c.requires.1 _
    c.no_names.ensures
    c.worked-k.result.reply _ _
    c.worked-k.ensures _ _ c.left.ensures c.answering.ensures
