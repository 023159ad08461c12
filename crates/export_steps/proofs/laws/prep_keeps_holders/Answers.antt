use Rattle.export_steps.proofs.Common.{Ok}
use Rattle.export_steps.proofs.HoldingSteps.{prep_soundly}
use Rattle.export_steps.proofs.Placed.{preps_placed}
use Rattle.export_steps.proofs.laws.prep_keeps_holders.Goals as goal

pub returns-clause-kept : goal.returns-clause-kept
returns-clause-kept c = prep_soundly

pub returns-clause-placed : goal.returns-clause-placed
returns-clause-placed c old new was now root is = preps_placed old new root was now (Ok tt) is
