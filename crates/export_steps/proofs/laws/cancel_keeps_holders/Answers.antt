use Rattle.export_steps.proofs.Handover.{cancels_soundly}
use Rattle.export_steps.proofs.laws.cancel_keeps_holders.Goals as goal

pub returns : goal.returns
returns c = cancels_soundly
