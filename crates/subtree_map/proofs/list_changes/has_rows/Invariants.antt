-- The lists to come claim what all of them claim of a directory.
use Rattle.subtree_map.proofs.Common.{Leaf, claimed, drop, first_told, ◌≡◌}
use Rattle.subtree_map.proofs.list_changes.has_rows.Given as goal

abbrev pub invariant-loop-rows : goal.invariant-loop-rows
invariant-loop-rows l = (leaf : Leaf) → leaf.0.0 ≡ l.dir.0 → first_told claimed (drop l.rows-index l.lists) leaf ≡ first_told claimed l.lists leaf
