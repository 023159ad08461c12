use Rattle.mds_types.proofs.StepLaws.{takes_where_made as law}
use Rattle.namespace_ops.proofs.laws.making_takes_number.Goals as goal

pub returns : goal.returns
returns c = law
