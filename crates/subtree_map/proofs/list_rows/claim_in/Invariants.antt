-- The lists to come say what all of them say.
use Rattle.subtree_map.proofs.Common.{claimed, drop, first_told, ◌≡◌}
use Rattle.subtree_map.proofs.list_rows.claim_in.Given as goal

abbrev pub invariant-loop-rows : goal.invariant-loop-rows
invariant-loop-rows l = first_told claimed (drop l.rows-index l.lists) l.leaf ≡ first_told claimed l.lists l.leaf
