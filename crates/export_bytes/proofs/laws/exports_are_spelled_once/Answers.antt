use Rattle.export_bytes.proofs.ExportLaws.{no_export_begins_another, one_export, reads_export}
use Rattle.export_bytes.proofs.laws.exports_are_spelled_once.Goals as goal

pub returns-clause-meaning : goal.returns-clause-meaning
returns-clause-meaning c = one_export

pub returns-clause-ended : goal.returns-clause-ended
returns-clause-ended c = no_export_begins_another

pub returns-clause-value : goal.returns-clause-value
returns-clause-value c = reads_export
