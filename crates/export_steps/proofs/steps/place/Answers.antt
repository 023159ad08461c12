use Rattle.export_steps.proofs.RootLaws.{rooted_again}
use Rattle.export_steps.proofs.steps.place.Goals as goal

pub returns-then-is_root_of-clause-roots : goal.returns-then-is_root_of-clause-roots
returns-then-is_root_of-clause-roots c = rooted_again c.args.subtrees.now.roots (c.args.dir, c.args.frag) c.args.export.exporter (c.is_root_of.ensures.0 c.if-is_root_of.true)
