use Rattle.ranked_tree.proofs.Common.{result_err}
use Rattle.ranked_tree.proofs.FragsLaws.{keeps_dir}
use Rattle.ranked_tree.proofs.frags.RankedTreeFrags.list_after.Goals as goal

pub returns-clause-kept : goal.returns-clause-kept
returns-clause-kept g c = keeps_dir c.self.inside.tree c.list_dir.new.tree _ c.args.self.now c.self.view_is c.args._op.now c.args.dir (result_err c.list_dir.result) c.requires.reads.0 c.list_dir.ensures.kept c.list_dir.ensures.reads
