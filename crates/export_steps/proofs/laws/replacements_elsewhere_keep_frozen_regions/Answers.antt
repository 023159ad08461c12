use Rattle.export_steps.proofs.Holding.{after_replacement}
use Rattle.export_steps.proofs.laws.replacements_elsewhere_keep_frozen_regions.Goals as goal

pub returns : goal.returns
returns c = after_replacement
