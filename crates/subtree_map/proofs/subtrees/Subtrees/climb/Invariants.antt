-- The way up: the nearest roots from where it has come are those of the leaf where it began.
use Rattle.subtree_map.proofs.Common.{IsTable, Leaf, NearestRoot, climbed, option_copied, ◌↔◌, ◌≡◌}
use Rattle.std.specs.FinMap as map
use Rattle.subtree_map.proofs.subtrees.Subtrees.climb.Given as goal

abbrev pub invariant-loop-rank : goal.invariant-loop-rank
invariant-loop-rank l = record {
  table : IsTable l.dirs.homes l.dirs.trees;
  stands : option_copied l.home ≡ map.get l.dirs.homes l.leaf.0.0;
  way : (root : Leaf) → NearestRoot l.self.roots l.dirs.homes l.dirs.trees l.leaf root ↔ NearestRoot l.self.roots l.dirs.homes l.dirs.trees l.fn.leaf root;
}

abbrev pub decreases-loop-rank : goal.decreases-loop-rank
decreases-loop-rank l = climbed (map.len l.dirs.homes) l.dirs.homes l.leaf.0.0
