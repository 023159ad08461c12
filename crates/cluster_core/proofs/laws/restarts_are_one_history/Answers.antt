-- What is legal behind stand-ins is legal behind what they tell.
use Rattle.cluster_core.proofs.RestartHistory.{one_history}
use Rattle.cluster_core.proofs.laws.restarts_are_one_history.Goals as goal

pub returns : goal.returns
returns c = λ limit opening next history told more legal count same tells. one_history limit opening next history told legal count same tells more
