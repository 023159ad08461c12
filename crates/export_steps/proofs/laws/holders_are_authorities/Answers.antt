use Rattle.export_steps.proofs.Holding.{holder_is, valid_so}
use Rattle.export_steps.proofs.laws.holders_are_authorities.Goals as goal

pub returns-clause-same : goal.returns-clause-same
returns-clause-same c = holder_is

pub returns-clause-valid : goal.returns-clause-valid
returns-clause-valid c = valid_so
