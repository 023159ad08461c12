use Rattle.export_steps.proofs.Elsewhere.{after_finish}
use Rattle.export_steps.proofs.laws.finishes_elsewhere_keep_frozen_regions.Goals as goal

pub returns : goal.returns
returns c = after_finish
