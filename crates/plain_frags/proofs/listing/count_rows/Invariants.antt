use Rattle.plain_frags.proofs.Common.{length, run, ◌+◌, ◌≡◌, ◌≤◌}
use Rattle.plain_frags.proofs.listing.count_rows.Given as goal

-- the rows that are counted and those to come make up the rows of the directory, and there are no more than rows
abbrev pub invariant-loop-row : goal.invariant-loop-row
invariant-loop-row l = record { whole : l.count + length (run l.dir.0 l.rows) ≡ length (run l.dir.0 l.fn.rows); few : l.count + length l.rows ≤ l.most }

abbrev pub decreases-loop-row : goal.decreases-loop-row
decreases-loop-row l = length l.rows
