use Rattle.export_steps.proofs.Common.{Ok}
use Rattle.export_steps.proofs.HoldingSteps.{start_soundly}
use Rattle.export_steps.proofs.Placed.{starts_placed}
use Rattle.export_steps.proofs.laws.start_keeps_holders.Goals as goal

pub returns-clause-kept : goal.returns-clause-kept
returns-clause-kept c = start_soundly

pub returns-clause-placed : goal.returns-clause-placed
returns-clause-placed c old new root exporter importer is = starts_placed old new root exporter importer (Ok tt) is
