-- One reply more is read.
use Rattle.session_rows.proofs.RowLaws.{read_more}
use Rattle.session_rows.proofs.client_rows.decode_client.Goals as goal

pub replies-preserved : goal.replies-preserved
replies-preserved c = read_more _ _ _ _ _ c.replies.invariant c.in_ok-rest.ensures.ok
