use Rattle.export_steps.proofs.Common.{refl}
use Rattle.export_steps.specs.declared.exports.ExportState.TheVariants as state
use Rattle.export_steps.proofs.HoldingSteps.{send_soundly}
use Rattle.export_steps.proofs.Placed.{comes_placed}
use Rattle.export_steps.proofs.laws.send_keeps_holders.Goals as goal

pub returns-clause-kept : goal.returns-clause-kept
returns-clause-kept c = send_soundly

pub returns-clause-placed : goal.returns-clause-placed
returns-clause-placed c old new root is = comes_placed old new root state.Prepared state.Sent refl is
