use Rattle.cluster_core.proofs.JobObjects.{jobs_take}
use Rattle.cluster_core.proofs.laws.jobs_take_what_is_shown.Goals as goal

pub returns : goal.returns
returns c = jobs_take
