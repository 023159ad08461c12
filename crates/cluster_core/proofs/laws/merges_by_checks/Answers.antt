use Rattle.cluster_core.proofs.CheckLaws.{merges_by_checks}
use Rattle.cluster_core.proofs.laws.merges_by_checks.Goals as goal

pub returns : goal.returns
returns c = merges_by_checks
