use Rattle.export_steps.proofs.Elsewhere.{after_split}
use Rattle.export_steps.proofs.laws.splits_elsewhere_keep_frozen_regions.Goals as goal

pub returns : goal.returns
returns c = after_split
