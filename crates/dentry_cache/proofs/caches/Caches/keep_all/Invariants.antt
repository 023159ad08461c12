-- Places are kept for the leaves from the index on.
use Rattle.dentry_cache.proofs.Common.{Some, drop, kept_all, length, ◌≡◌, ◌≤◌}
use Rattle.dentry_cache.proofs.caches.Caches.keep_all.Given as goal

abbrev pub invariant-loop-i : goal.invariant-loop-i
invariant-loop-i l = record {
  few : l.i ≤ length l.leaves;
  kept : kept_all l.fn.self l.rank.0 (drop l.i l.leaves) ≡ Some l.self;
}

abbrev pub decreases-loop-i : goal.decreases-loop-i
decreases-loop-i l = l.i
