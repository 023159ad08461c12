use Rattle.objstore.proofs.Common.{length, ◌++◌, ◌≡◌, ◌≤◌}
use Rattle.objstore.proofs.pages.first_page.Given as goal

-- the pairs so far and those to come make up all
abbrev pub invariant-loop-pair : goal.invariant-loop-pair
invariant-loop-pair l = record { whole : l.pairs.items ++ l.rest ≡ l.fn.rest; few : length l.pairs.items ≤ l.max }

abbrev pub decreases-loop-pair : goal.decreases-loop-pair
decreases-loop-pair l = length l.rest
