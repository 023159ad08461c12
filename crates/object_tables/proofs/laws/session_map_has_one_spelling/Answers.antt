use Rattle.object_tables.proofs.SessionLaws.{one_session_map}
use Rattle.object_tables.proofs.laws.session_map_has_one_spelling.Goals as goal

pub returns : goal.returns
returns c = one_session_map
