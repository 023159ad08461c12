-- The rows so far are read, and the others may be.
use Rattle.session_rows.proofs.RestoreLaws.{IsReadSoFar}
use Rattle.session_rows.proofs.restoring.restore.Given as goal

abbrev pub invariant-loop-key : goal.invariant-loop-key
invariant-loop-key l = IsReadSoFar l.rows l.restored l.key-iterator
