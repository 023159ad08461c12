-- What rows tell from a new book on.
use Rattle.cluster_core.proofs.StayLaws.{kept_told, new_told, stay_told}
use Rattle.cluster_core.proofs.laws.rows_stay_told.Goals as goal

pub returns-clause-start : goal.returns-clause-start
returns-clause-start c = new_told c.sessions_are_spelled_once.ensures.empty

pub returns-clause-stepped : goal.returns-clause-stepped
returns-clause-stepped c = stay_told

pub returns-clause-kept : goal.returns-clause-kept
returns-clause-kept c = kept_told
