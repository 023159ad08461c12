-- The row so far and the bytes that are left are the whole.
use Rattle.session_rows.proofs.Common.{length}
use Rattle.session_rows.proofs.RowLaws.{IsRead}
use Rattle.session_rows.proofs.client_rows.decode_client.Given as goal

abbrev pub invariant-replies : goal.invariant-replies
invariant-replies l = IsRead l.fn.bytes l.row l.rest

abbrev pub decreases-replies : goal.decreases-replies
decreases-replies l = length l.rest
