-- The walk from a directory to the root.
use Rattle.inode_table.proofs.Common.{IsAncestor, IsTable, ◌↔◌}
use Rattle.std.specs.FinMap as map
use Rattle.inode_table.proofs.Chains.{climbed}
use Rattle.inode_table.proofs.dirs.Dirs.is_above.Given as goal

abbrev pub invariant-loop-home : goal.invariant-loop-home
invariant-loop-home l = record {
  table : IsTable l.self.homes l.self.trees;
  chain : IsAncestor l.self.homes l.dir.0 l.fn.below.0 ↔ IsAncestor l.self.homes l.dir.0 l.at.0;
}

abbrev pub decreases-loop-home : goal.decreases-loop-home
decreases-loop-home l = climbed (map.len l.self.homes) l.self.homes l.at.0
