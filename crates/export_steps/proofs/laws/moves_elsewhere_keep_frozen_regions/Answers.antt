use Rattle.export_steps.proofs.Elsewhere.{after_move}
use Rattle.export_steps.proofs.laws.moves_elsewhere_keep_frozen_regions.Goals as goal

pub returns : goal.returns
returns c = after_move
