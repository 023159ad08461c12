use Rattle.export_steps.proofs.Elsewhere.{after_merge}
use Rattle.export_steps.proofs.laws.merges_elsewhere_keep_frozen_regions.Goals as goal

pub returns : goal.returns
returns c = after_merge
