use Rattle.asking.proofs.DrainLaws.{rounds_progress}
use Rattle.asking.proofs.laws.rounds_progress.Goals as goal

pub returns : goal.returns
returns c = rounds_progress
