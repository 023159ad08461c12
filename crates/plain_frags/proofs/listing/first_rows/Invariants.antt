use Rattle.plain_frags.proofs.Common.{length, run, ◌++◌, ◌≡◌, ◌≤◌}
use Rattle.plain_frags.proofs.listing.first_rows.Given as goal

-- what is listed so far and the rows to come make up the rows of the directory
abbrev pub invariant-loop-row : goal.invariant-loop-row
invariant-loop-row l = record { whole : l.list.items ++ run l.dir.0 l.rows ≡ run l.dir.0 l.fn.rows; few : length l.list.items ≤ l.most }

abbrev pub decreases-loop-row : goal.decreases-loop-row
decreases-loop-row l = length l.rows
