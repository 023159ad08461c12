use Rattle.cluster_core.proofs.ToldBytes.{imports_what_is_told, tells_one, tells_what_send_gave}
use Rattle.cluster_core.proofs.laws.sent_bytes_are_imported.Goals as goal

pub returns-clause-given : goal.returns-clause-given
returns-clause-given c = tells_what_send_gave

pub returns-clause-same : goal.returns-clause-same
returns-clause-same c = tells_one

pub returns-clause-imported : goal.returns-clause-imported
returns-clause-imported c = imports_what_is_told
