-- What is left stays, but for removed names.
use Rattle.cached_frag.proofs.Common.{length, rows_left, ◌+◌, ◌≡◌}
use Rattle.cached_frag.proofs.rows.Rows.next_row.Given as goal

abbrev pub invariant-loop-name : goal.invariant-loop-name
invariant-loop-name l = rows_left l.self ≡ rows_left l.fn.self

abbrev pub decreases-loop-name : goal.decreases-loop-name
decreases-loop-name l = length l.self.clean + length l.self.dirty
