use Rattle.ranked_tree.proofs.FragsLaws.{because, where_refused}
use Rattle.ranked_tree.proofs.frags.RankedTreeFrags.change.Goals as goal

pub returns-clause-kept : goal.returns-clause-kept
returns-clause-kept g c = where_refused c.args.self.now c.make_change.new.self c.args._op.now c.args.change c.requires.of_op c.make_change.result c.make_change.ensures.changed c.make_change.ensures.followed c.make_change.ensures.kept.stand

pub returns-clause-err : goal.returns-clause-err
returns-clause-err g c = because c.args.self.now c.make_change.new.self c.args._op.now c.args.change c.requires.of_op c.make_change.result c.make_change.ensures.changed
