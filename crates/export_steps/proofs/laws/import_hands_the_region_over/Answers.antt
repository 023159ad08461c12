use Rattle.export_steps.proofs.Handover.{hands_over}
use Rattle.export_steps.proofs.laws.import_hands_the_region_over.Goals as goal

pub returns : goal.returns
returns c = hands_over
