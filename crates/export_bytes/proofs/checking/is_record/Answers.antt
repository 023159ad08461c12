-- Memory is wanting for a link's record alone.
use Rattle.export_bytes.proofs.Told.{link_read}
use Rattle.export_bytes.proofs.checking.is_record.Goals as goal

pub returns-in-Err : goal.returns-in-Err
returns-in-Err c = link_read c.args.bytes.now c.in-Err.ensures.memory
