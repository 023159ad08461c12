-- The rows listed and those that are left are the whole.
use Rattle.cached_frag.proofs.Common.{length, rows_left, ◌++◌, ◌≡◌, ◌≤◌}
use Rattle.cached_frag.proofs.rows.first_rows.Given as goal

abbrev pub invariant-loop-name : goal.invariant-loop-name
invariant-loop-name l = record { whole : l.list.items ++ rows_left l.rows ≡ rows_left l.fn.rows; few : length l.list.items ≤ l.most }

abbrev pub decreases-loop-name : goal.decreases-loop-name
decreases-loop-name l = length (rows_left l.rows)
