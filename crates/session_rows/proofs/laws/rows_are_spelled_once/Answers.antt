use Rattle.session_rows.proofs.Walks.{no_row_spelled, one_reason, one_row, row_again}
use Rattle.session_rows.proofs.laws.rows_are_spelled_once.Goals as goal

pub returns-clause-meaning : goal.returns-clause-meaning
returns-clause-meaning c = one_row

pub returns-clause-broken : goal.returns-clause-broken
returns-clause-broken c = no_row_spelled

pub returns-clause-reason : goal.returns-clause-reason
returns-clause-reason c = one_reason

pub returns-clause-again : goal.returns-clause-again
returns-clause-again c = row_again
