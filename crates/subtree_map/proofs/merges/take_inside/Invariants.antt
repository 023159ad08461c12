-- The roots outside stay, none comes in, and each turn takes one out.
use Rattle.subtree_map.proofs.Common.{Leaf, Rank, Some, false, is_inside, ◌≡◌}
use Rattle.std.specs.FinMap as map
use Rattle.subtree_map.proofs.TakenOut.{Found}
use Rattle.subtree_map.proofs.merges.take_inside.Given as goal

abbrev pub invariant-loop-root : goal.invariant-loop-root
invariant-loop-root l = record {
  others : (leaf : Leaf) → is_inside l.dir.0 l.frag leaf ≡ false → map.get l.roots.roots leaf ≡ map.get l.initial.roots.roots leaf;
  fewer : (leaf : Leaf) (rank : Rank) → map.get l.roots.roots leaf ≡ Some rank → map.get l.initial.roots.roots leaf ≡ Some rank;
  promises : l.roots.promises ≡ l.initial.roots.promises;
  found : Found l.initial.roots l.roots l.dir.0 l.frag l.found;
}

abbrev pub decreases-loop-root : goal.decreases-loop-root
decreases-loop-root l = map.len l.roots.roots
