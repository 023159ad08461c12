use Rattle.export_bytes.proofs.Recorded.{told_recorded}
use Rattle.export_bytes.proofs.sendable.is_recorded.Goals as goal

pub returns : goal.returns
returns c = told_recorded c.args.inode.now c.is_recordable.result c.has_widths.ensures c.is_recordable.ensures
