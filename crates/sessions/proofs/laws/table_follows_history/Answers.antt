use Rattle.sessions.proofs.TableLaws.{table-push}
use Rattle.sessions.proofs.laws.table_follows_history.Goals as goal

pub returns : goal.returns
returns c = table-push
