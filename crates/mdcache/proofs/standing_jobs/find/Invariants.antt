-- The jobs that are left are all that can have the number.
use Rattle.mdcache.proofs.Common.{contents, leaf_cmp, length}
use Rattle.std.specs.FinMap as map
use Rattle.mdcache.proofs.Walks.{IsRest}
use Rattle.mdcache.proofs.standing_jobs.find.Given as goal

abbrev pub invariant-loop-leaf : goal.invariant-loop-leaf
invariant-loop-leaf l = IsRest l.number (map.entries (contents leaf_cmp l.jobs)) l.left

abbrev pub decreases-loop-leaf : goal.decreases-loop-leaf
decreases-loop-leaf l = length l.left
