use Rattle.sessions.proofs.WrittenLaws.{still_stored, written}
use Rattle.sessions.proofs.laws.unchanged_clients_stay_stored.Goals as goal

pub returns-clause-applied : goal.returns-clause-applied
returns-clause-applied c = still_stored

pub returns-clause-written : goal.returns-clause-written
returns-clause-written c = written
