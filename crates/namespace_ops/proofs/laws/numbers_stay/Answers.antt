use Rattle.mds_types.proofs.NumberLaws.{old_or_taken as law}
use Rattle.namespace_ops.proofs.laws.numbers_stay.Goals as goal

pub returns : goal.returns
returns c = law
