use Rattle.export_steps.proofs.Holders.{one_holder_of, some_holder}
use Rattle.export_steps.proofs.laws.each_leaf_has_one_holder.Goals as goal

pub returns-clause-some : goal.returns-clause-some
returns-clause-some c = some_holder

pub returns-clause-one : goal.returns-clause-one
returns-clause-one c = one_holder_of
