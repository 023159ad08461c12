use Rattle.sessions.proofs.AsideLaws.{aside_push, forgot_all}
use Rattle.sessions.proofs.laws.forgotten_replies_stay.Goals as goal

pub returns-clause-applied : goal.returns-clause-applied
returns-clause-applied c = aside_push

pub returns-clause-forgotten : goal.returns-clause-forgotten
returns-clause-forgotten c = forgot_all
