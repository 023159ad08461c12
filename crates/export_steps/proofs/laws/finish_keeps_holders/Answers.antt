use Rattle.export_steps.proofs.Handover.{finishes_soundly}
use Rattle.export_steps.proofs.laws.finish_keeps_holders.Goals as goal

pub returns : goal.returns
returns c = finishes_soundly
