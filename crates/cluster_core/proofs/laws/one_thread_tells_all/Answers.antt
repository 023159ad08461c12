use Rattle.cluster_core.proofs.TeethLaws.{tells_all}
use Rattle.cluster_core.proofs.laws.one_thread_tells_all.Goals as goal

pub returns : goal.returns
returns c = tells_all
