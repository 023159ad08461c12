use Rattle.export_steps.proofs.Elsewhere.{after_making}
use Rattle.export_steps.proofs.laws.new_directories_elsewhere_keep_frozen_regions.Goals as goal

pub returns : goal.returns
returns c = after_making
