use Rattle.export_steps.proofs.Holding.{finished}
use Rattle.export_steps.proofs.laws.finish_keeps_holding.Goals as goal

pub returns : goal.returns
returns c = finished
