-- The way up: the nearest roots from where it has come are those of the leaf where it began, were the other leaf a root.
use Rattle.subtree_map.proofs.Common.{IsTable, NearestRoot, Rank, climbed, ◌↔◌}
use Rattle.std.specs.FinMap as map
use Rattle.subtree_map.proofs.subtrees.Subtrees.is_under.Given as goal

abbrev pub invariant-loop-home : goal.invariant-loop-home
invariant-loop-home l = record {
  valid : IsTable l.dirs.homes l.dirs.trees;
  way : (rank : Rank) → NearestRoot (map.insert l.self.roots l.root rank) l.dirs.homes l.dirs.trees l.at l.root ↔ NearestRoot (map.insert l.self.roots l.root rank) l.dirs.homes l.dirs.trees l.leaf l.root;
}

abbrev pub decreases-loop-home : goal.decreases-loop-home
decreases-loop-home l = climbed (map.len l.dirs.homes) l.dirs.homes l.at.0.0
