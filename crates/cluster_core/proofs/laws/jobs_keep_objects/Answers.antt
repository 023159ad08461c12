use Rattle.cluster_core.proofs.JobObjects.{jobs_keep}
use Rattle.cluster_core.proofs.laws.jobs_keep_objects.Goals as goal

pub returns : goal.returns
returns c = jobs_keep
