-- The number that is read is the rank's.
use Rattle.session_rows.proofs.ReadLaws.{rank_read}
use Rattle.session_rows.proofs.restoring.Restored.read_rank.Goals as goal

pub returns-in-Ok-clause-read : goal.returns-in-Ok-clause-read
returns-in-Ok-clause-read c = rank_read c.args.self.now c.args.rank c.args.value.now c.in-Ok.field-0 c.from.result c.requires c.from.ensures c.in-Ok.ensures
