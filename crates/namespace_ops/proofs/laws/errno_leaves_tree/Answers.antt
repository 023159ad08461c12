use Rattle.mds_types.proofs.StepLaws.{errno_leaves as law}
use Rattle.namespace_ops.proofs.laws.errno_leaves_tree.Goals as goal

pub returns : goal.returns
returns c = law
