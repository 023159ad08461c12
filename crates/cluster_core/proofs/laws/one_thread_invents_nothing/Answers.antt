use Rattle.cluster_core.proofs.TeethLaws.{invents_nothing}
use Rattle.cluster_core.proofs.laws.one_thread_invents_nothing.Goals as goal

pub returns : goal.returns
returns c = invents_nothing
