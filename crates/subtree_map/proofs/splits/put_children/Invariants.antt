-- The children so far have the rank, and there is room for the others.
use Rattle.subtree_map.proofs.Common.{AreChildrenSet, ◌+◌, ◌≡◌, ◌≤◌}
use Rattle.subtree_map.proofs.splits.put_children.Given as goal

abbrev pub invariant-loop-i : goal.invariant-loop-i
invariant-loop-i l = record {
  children : AreChildrenSet l.initial.roots.roots l.roots.roots l.dir.0 l.frag l.bits l.i l.rank;
  promises : l.roots.promises ≡ l.initial.roots.promises;
  room : l.initial.roots.room ≤ l.roots.room + l.i;
}
