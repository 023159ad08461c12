use Rattle.cluster_core.proofs.Forgotten.{forgets, none_is_new, one_history}
use Rattle.cluster_core.proofs.laws.a_beginning_may_be_forgotten.Goals as goal

pub returns-clause-whole : goal.returns-clause-whole
returns-clause-whole c = one_history

pub returns-clause-forgotten : goal.returns-clause-forgotten
returns-clause-forgotten c = forgets

pub returns-clause-repeats : goal.returns-clause-repeats
returns-clause-repeats c = none_is_new
