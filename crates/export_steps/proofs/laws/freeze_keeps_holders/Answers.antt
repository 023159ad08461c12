use Rattle.export_steps.proofs.Handover.{freezes_soundly}
use Rattle.export_steps.proofs.laws.freeze_keeps_holders.Goals as goal

pub returns : goal.returns
returns c = freezes_soundly
