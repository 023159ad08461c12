use Rattle.session_rows.proofs.KeyOrder.{eight_in_order}
use Rattle.session_rows.proofs.laws.keys_are_spelled_once.Goals as goal

pub returns-clause-order : goal.returns-clause-order
returns-clause-order c = eight_in_order
