use Rattle.mds_types.proofs.AboveLaws.{above_exact as law}
use Rattle.namespace_ops.proofs.laws.above_is_a_chain.Goals as goal

pub returns : goal.returns
returns c = law
