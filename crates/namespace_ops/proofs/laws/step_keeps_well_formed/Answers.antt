use Rattle.mds_types.proofs.WellFormedLaws.{step_keeps_well_formed as law}
use Rattle.namespace_ops.proofs.laws.step_keeps_well_formed.Goals as goal

pub returns : goal.returns
returns c = law
