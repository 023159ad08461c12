-- The row so far, and the replies to come, are the whole.
use Rattle.session_rows.proofs.WriteLaws.{IsWritten}
use Rattle.session_rows.proofs.storing.row_value.Given as goal

abbrev pub invariant-loop-tid : goal.invariant-loop-tid
invariant-loop-tid l = IsWritten l.fn.kept.mark l.fn.kept.replies l.tid-iterator l.row
