use Rattle.export_steps.proofs.Elsewhere.{after_removal}
use Rattle.export_steps.proofs.laws.removals_elsewhere_keep_frozen_regions.Goals as goal

pub returns : goal.returns
returns c = after_removal
