use Rattle.cluster_core.proofs.CheckLaws.{splits_by_checks}
use Rattle.cluster_core.proofs.laws.splits_by_checks.Goals as goal

pub returns : goal.returns
returns c = splits_by_checks
