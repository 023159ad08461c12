use Rattle.plain_frags.proofs.Common.{is_numbered, length, list_any, ◌≡◌}
use Rattle.plain_frags.proofs.frags.none_numbered.Given as goal

-- the rows so far don't have the number
abbrev pub invariant-loop-row : goal.invariant-loop-row
invariant-loop-row l = list_any (is_numbered l.number.0) l.rows ≡ list_any (is_numbered l.number.0) l.fn.rows

abbrev pub decreases-loop-row : goal.decreases-loop-row
decreases-loop-row l = length l.rows
