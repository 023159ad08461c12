use Rattle.sessions.proofs.AlikeLaws.{answer_alike}
use Rattle.sessions.proofs.laws.restored_sessions_answer_alike.Goals as goal

pub returns : goal.returns
returns c = answer_alike
