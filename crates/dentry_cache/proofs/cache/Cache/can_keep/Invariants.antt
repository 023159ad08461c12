-- As many were found as are free, and as may go of the places that were passed.
use Rattle.dentry_cache.proofs.Common.{Places, filter, length, may_go, ◌++◌, ◌+◌, ◌≡◌}
use Rattle.dentry_cache.proofs.cache.Cache.can_keep.Given as goal

abbrev pub invariant-loop-leaf : goal.invariant-loop-leaf
invariant-loop-leaf l =
    (walked : Places) × (l.self.entries ≡ l.rest ++ walked)
    × (l.found + length l.self.entries ≡ l.self.cap + length (filter (may_go l.stay) walked))

abbrev pub decreases-loop-leaf : goal.decreases-loop-leaf
decreases-loop-leaf l = length l.rest
