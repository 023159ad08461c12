-- With those that are to come the leaves are all.
use Rattle.dentry_cache.proofs.Common.{length, ◌++◌, ◌≡◌}
use Rattle.dentry_cache.specs.Unclean.{unclean_leaves_in}
use Rattle.dentry_cache.proofs.cache.Cache.add_unclean.Given as goal

abbrev pub invariant-loop-leaf : goal.invariant-loop-leaf
invariant-loop-leaf l = l.leaves.items ++ unclean_leaves_in l.rank l.rest ≡ l.initial.leaves.items ++ unclean_leaves_in l.rank l.self.entries

abbrev pub decreases-loop-leaf : goal.decreases-loop-leaf
decreases-loop-leaf l = length l.rest
