-- With those of the ranks to come the leaves are all.
use Rattle.dentry_cache.proofs.Common.{drop, unclean_from, unclean_places, ◌++◌, ◌≡◌}
use Rattle.dentry_cache.proofs.caches.Caches.unclean_leaves.Given as goal

abbrev pub invariant-loop-index : goal.invariant-loop-index
invariant-loop-index l = l.leaves.items ++ unclean_from l.self l.index (drop l.index l.self.used) ≡ unclean_places l.self
