-- What was passed claims nothing.
use Rattle.subtree_map.proofs.Common.{Leaf, T, claimed, find, is_sorted, leaf_cmp, length, said, ◌≡◌}
use Rattle.subtree_map.proofs.list_firsts.first_in.Given as goal

abbrev pub invariant-loop-row : goal.invariant-loop-row
invariant-loop-row l = record {
  sorted : T (is_sorted leaf_cmp l.rows);
  each : (leaf : Leaf) → said claimed (find leaf_cmp leaf l.rows) ≡ said claimed (find leaf_cmp leaf l.fn.rows);
}

abbrev pub decreases-loop-row : goal.decreases-loop-row
decreases-loop-row l = length l.rows
