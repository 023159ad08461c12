-- On the way up the effective pin stays.
use Rattle.cluster_core.proofs.Common.{HasPin, IsTable, Rank, climbed, ◌↔◌}
use Rattle.std.specs.FinMap as map
use Rattle.cluster_core.proofs.pinned_away.pin_of.Given as goal

abbrev pub invariant-loop-home : goal.invariant-loop-home
invariant-loop-home l = record {
  table : IsTable l.dirs.homes l.dirs.trees;
  same : (rank : Rank) → HasPin l.dirs.pins l.dirs.homes l.at.0 rank ↔ HasPin l.dirs.pins l.dirs.homes l.fn.dir.0 rank;
}

abbrev pub decreases-loop-home : goal.decreases-loop-home
decreases-loop-home l = climbed (map.len l.dirs.homes) l.dirs.homes l.at.0
