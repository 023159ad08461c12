use Rattle.export_steps.proofs.Elsewhere.{after_freeze}
use Rattle.export_steps.proofs.laws.freezes_elsewhere_keep_frozen_regions.Goals as goal

pub returns : goal.returns
returns c = after_freeze
