-- So far some objects are gone; each turn takes one name off the list.
use Rattle.mdcache.proofs.Common.{ArePurged, IsSoundCore, state_of, ◌≡◌}
use Rattle.std.specs.FinMap as map
use Rattle.mdcache.proofs.flushing.purge_each.Given as goal

abbrev pub invariant-loop-tree : goal.invariant-loop-tree
invariant-loop-tree g l = record {
  purged : ArePurged (state_of l.initial.tree) (state_of l.tree);
  caches : l.tree.caches ≡ l.initial.tree.caches;
  faults : l.tree.faults ≡ l.initial.tree.faults;
  sound : IsSoundCore l.tree;
}

abbrev pub decreases-loop-tree : goal.decreases-loop-tree
decreases-loop-tree g l = map.len l.tree.purge
