-- The lists to come say what all of them say.
use Rattle.subtree_map.proofs.Common.{drop, first_told, promised, ◌≡◌}
use Rattle.subtree_map.proofs.list_rows.promise_in.Given as goal

abbrev pub invariant-loop-rows : goal.invariant-loop-rows
invariant-loop-rows l = first_told promised (drop l.rows-index l.lists) l.leaf ≡ first_told promised l.lists l.leaf
