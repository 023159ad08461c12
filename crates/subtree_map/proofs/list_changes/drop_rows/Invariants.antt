-- The rows of other directories stay, and each turn takes one out.
use Rattle.subtree_map.proofs.Common.{Leaf, contents, entry_at, leaf_cmp, ◌≡◌, ◌≢◌, ◌≤◌}
use Rattle.std.specs.FinMap as map
use Rattle.subtree_map.proofs.list_changes.drop_rows.Given as goal

abbrev pub invariant-loop-leaf : goal.invariant-loop-leaf
invariant-loop-leaf l = record {
  others : (leaf : Leaf) → leaf.0.0 ≢ l.dir.0 → entry_at l.rows leaf ≡ entry_at l.initial.rows leaf;
  room : l.initial.rows.room ≤ l.rows.room;
}

abbrev pub decreases-loop-leaf : goal.decreases-loop-leaf
decreases-loop-leaf l = map.len (contents leaf_cmp l.rows)
