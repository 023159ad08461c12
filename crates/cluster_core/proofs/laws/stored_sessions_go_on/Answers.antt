-- Stand-ins of what is stored continue the history.
use Rattle.cluster_core.proofs.StoredLaws.{go_on, told_again}
use Rattle.cluster_core.proofs.laws.stored_sessions_go_on.Goals as goal

pub returns-clause-goes_on : goal.returns-clause-goes_on
returns-clause-goes_on c = go_on c.sessions_are_spelled_once.ensures.content c.sessions_are_spelled_once.ensures.nexts

pub returns-clause-told : goal.returns-clause-told
returns-clause-told c = told_again c.sessions_are_spelled_once.ensures.content c.sessions_are_spelled_once.ensures.nexts
