use Rattle.mds_types.proofs.StepLaws.{errno_of_any_number as law}
use Rattle.namespace_ops.proofs.laws.number_leaves_errno.Goals as goal

pub returns : goal.returns
returns c = law
